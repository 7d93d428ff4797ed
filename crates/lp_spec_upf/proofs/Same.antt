-- Two ways to judge expressions that agree on each say the same of each text.
use Rattle.std.specs.Prelude.{◌≡◌, ℕ, Bool, List, [], ◌∷◌, Option, Some, None, Result}
use Rattle.std.proofs.Common.{refl, ap}
use Rattle.lp_text.specs.declared.place.Place.{Place}
use Rattle.lp_model.specs.declared.upf.CommandWord.{CommandWord}
use Rattle.lp_model.specs.declared.upf.OptionWord.TheVariants as options
use Rattle.lp_model.specs.CommandsView.{WordView, OptionView, CommandView}
use Rattle.lp_upf_words.specs.declared.mode.Stop.{Stop}
use Rattle.lp_upf_words.specs.Words.{Outcome}
use Rattle.lp_spec_upf.specs.Shapes.{OptionRule, NameRule, NoName, MayName, OneName, NameList, shape_of, all_commands}
use Rattle.lp_spec_upf.specs.Commands.{Fault, Part, Said, Does, Fails, Breaks, Sense, TableOf, Option_, sensed, expression_faults, on_sense, judged_by, option_in, name_in, last_word, options_of, rules_for}
use Rattle.lp_spec_upf.specs.Commands.{options_from, named_of, said_of, command_in, command_by, command_of, tables_after, last_of, on_said, first_end, later_ends, commands_of, intent_of}

named_of-same : (r : NameRule) (e : Option Place) (f g : List WordView → Part) → ((ws : List WordView) → f ws ≡ g ws) → (ws : List WordView) → named_of r e f ws ≡ named_of r e g ws
named_of-same NoName e f g same ws = rw (same ws) refl
named_of-same MayName e f g same [] = rw (same []) refl
named_of-same OneName e f g same [] = refl
named_of-same NameList e f g same [] = refl
named_of-same MayName e f g same (w ∷ ws) = rw (same ws) refl
named_of-same OneName e f g same (w ∷ ws) = rw (same ws) refl
named_of-same NameList e f g same (w ∷ ws) = rw (same ws) refl

on_said-same : (s : Said) (f g : CommandView → Result (List CommandView) Fault) → ((c : CommandView) → f c ≡ g c) → on_said s f ≡ on_said s g
on_said-same (Does c) f g same = rw (same c) refl
on_said-same (Fails x) f g same = refl
on_said-same Breaks f g same = refl

module _ (a b : Sense) (same : (text control : List ℕ) → a.of text control ≡ b.of text control) where
  sensed-same : (control : List ℕ) (os : List OptionView) → sensed a.of control os ≡ sensed b.of control os
  sensed-same control [] = refl
  sensed-same control (o ∷ os) = rw (same (last_word o.values) control, sensed-same control os) refl

  faults-same : (control : List ℕ) (on : Option Bool) (os : List OptionView) → expression_faults a.of control on os ≡ expression_faults b.of control on os
  faults-same control on [] = refl
  faults-same control on (o ∷ os) = rw (same (last_word o.values) control, faults-same control on os) refl

  on-same : (control : List ℕ) (o : Option OptionView) → on_sense a.of control o ≡ on_sense b.of control o
  on-same control None = refl
  on-same control (Some o) = same (last_word o.values) control

  judged-same : (c : Option (List ℕ)) (p : Part) → judged_by a.of c p ≡ judged_by b.of c p
  judged-same None p = refl
  judged-same (Some control) p =
      rw (
        sensed-same control p.options,
        on-same control (option_in p.options options.OnState),
        faults-same control (on_sense b.of control (option_in p.options options.OnState)) p.options,
      ) refl

  options-same : (c : CommandWord) (tables : List TableOf) (rules : List OptionRule) (e : Option Place) (ws : List WordView)
      → options_from c a tables rules e ws ≡ options_from c b tables rules e ws
  options-same c tables rules e ws =
      let exact = options_of (rules_for c tables rules (options_of rules e Option_ [] ws)) e Option_ [] ws in
      judged-same (name_in exact.options options.ControlPort) exact

  by-same : (c : Option CommandWord) (tables : List TableOf) (e : Option Place) (w : WordView) (ws : List WordView)
      → command_by c a tables e w ws ≡ command_by c b tables e w ws
  by-same None tables e w ws = refl
  by-same (Some c) tables e w ws =
      ap (λ n. said_of c w.place (shape_of c).rules n)
      (named_of-same (shape_of c).name e (options_from c a tables (shape_of c).rules e) (options_from c b tables (shape_of c).rules e)
      (λ v. options-same c tables (shape_of c).rules e v) ws)

  command-same : (tables : List TableOf) (e : Option Place) (ws : List WordView) → command_of a tables e ws ≡ command_of b tables e ws
  command-same tables e [] = refl
  command-same tables e (w ∷ ws) = by-same (command_in all_commands w.text) tables e w ws

  last-same : (tables : List TableOf) (ws : List WordView) (stop : Option Stop) → last_of a tables ws stop ≡ last_of b tables ws stop
  last-same tables ws None = refl
  last-same tables ws (Some stop) = rw (command-same tables None ws) refl

  commands-same : (tables : List TableOf) (cs : List (List WordView)) (ends : List Place) (ws : List WordView) (stop : Option Stop)
      → commands_of a tables cs ends ws stop ≡ commands_of b tables cs ends ws stop
  commands-same tables [] ends ws stop = last-same tables ws stop
  commands-same tables (c ∷ cs) ends ws stop =
      rw (command-same tables (first_end ends) c)
      (on_said-same (command_of b tables (first_end ends) c)
      (λ view. commands_of a (tables_after view.word view tables) cs (later_ends ends) ws stop)
      (λ view. commands_of b (tables_after view.word view tables) cs (later_ends ends) ws stop)
      (λ view. commands-same (tables_after view.word view tables) cs (later_ends ends) ws stop))

  pub intent-same : (o : Outcome) → intent_of a o ≡ intent_of b o
  intent-same o = commands-same [] o.gathered.commands o.gathered.ends o.gathered.words o.stop
