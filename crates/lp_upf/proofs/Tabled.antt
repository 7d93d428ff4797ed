-- Tables of states that give the same numbers of supplies are the same to commands.
use Rattle.std.proofs.Common.{◌≡◌, ℕ, List, [], ◌∷◌, refl, ap, ◌∙◌}
use Rattle.std.specs.Prelude.{Option, Some, None, Result}
use Rattle.lp_text.specs.declared.place.Place.{Place}
use Rattle.lp_model.specs.declared.upf.CommandWord.{CommandWord}
use Rattle.lp_model.specs.declared.upf.CommandWord.TheVariants as commands
use Rattle.lp_model.specs.declared.upf.OptionWord.TheVariants as options
use Rattle.lp_model.specs.CommandsView.{CommandView, WordView}
use Rattle.lp_upf_words.specs.declared.mode.Stop.{Stop}
use Rattle.lp_spec_upf.specs.Shapes.{NameRule, NoName, MayName, OneName, NameList, OptionRule, all_commands, shape_of}
use Rattle.lp_spec_upf.specs.Commands.{Fault, Named, Option_, Part, Said, Does, Fails, Breaks, Sense, TableOf, command_by, command_in, command_of, commands_of, first_end, judged_by, last_of, later_ends, name_in, named_of, on_said, options_from, options_of, row_rules, rules_for, said_of, supplies_named, tables_after}
use Rattle.lp_upf.specs.States.{SameTables}

supplies-same : (a b : List TableOf) → SameTables a b → (name : Option (List ℕ)) → supplies_named a name ≡ supplies_named b name
supplies-same a b same None = refl
supplies-same a b same (Some name) = same name

rules-same : (c : CommandWord) (a b : List TableOf) → SameTables a b → (rules : List OptionRule) (p : Part) → rules_for c a rules p ≡ rules_for c b rules p
rules-same commands.AddPstState a b same rules p = ap (λ (o : Option ℕ). row_rules o rules) (supplies-same a b same (name_in p.options options.Pst))
rules-same c a b same rules p = refl

named-same : (r : NameRule) (e : Option Place) (f g : List WordView → Part) → ((ws : List WordView) → f ws ≡ g ws) → (ws : List WordView) → named_of r e f ws ≡ named_of r e g ws
named-same NoName e f g same ws = rw (same ws) refl
named-same MayName e f g same [] = rw (same []) refl
named-same OneName e f g same [] = refl
named-same NameList e f g same [] = refl
named-same MayName e f g same (w ∷ ws) = rw (same ws) refl
named-same OneName e f g same (w ∷ ws) = rw (same ws) refl
named-same NameList e f g same (w ∷ ws) = rw (same ws) refl

on_said-same : (s : Said) (f g : CommandView → Result (List CommandView) Fault) → ((c : CommandView) → f c ≡ g c) → on_said s f ≡ on_said s g
on_said-same (Does c) f g same = rw (same c) refl
on_said-same (Fails x) f g same = refl
on_said-same Breaks f g same = refl

after-same : (word : CommandWord) (c : CommandView) (a b : List TableOf) → SameTables a b → SameTables (tables_after word c a) (tables_after word c b)
after-same commands.CreatePst c a b same = λ name. rw (same name) refl
after-same word c a b same = same

module _ (s : Sense) where
  options-same : (c : CommandWord) (a b : List TableOf) → SameTables a b → (e : Option Place) (ws : List WordView) → options_from c s a (shape_of c).rules e ws ≡ options_from c s b (shape_of c).rules e ws
  options-same c a b same e ws =
      let rules = (shape_of c).rules in
      let loose = options_of rules e Option_ [] ws in
      ap (λ (rs : List OptionRule). let exact = options_of rs e Option_ [] ws in judged_by s.of (name_in exact.options options.ControlPort) exact) (rules-same c a b same rules loose)

  by-same : (c : Option CommandWord) (a b : List TableOf) → SameTables a b → (e : Option Place) (w : WordView) (ws : List WordView) → command_by c s a e w ws ≡ command_by c s b e w ws
  by-same None a b same e w ws = refl
  by-same (Some c) a b same e w ws =
      ap (λ (n : Named). said_of c w.place (shape_of c).rules n)
      (named-same (shape_of c).name e (options_from c s a (shape_of c).rules e) (options_from c s b (shape_of c).rules e) (λ v. options-same c a b same e v) ws)

  pub command-same : (a b : List TableOf) → SameTables a b → (e : Option Place) (ws : List WordView) → command_of s a e ws ≡ command_of s b e ws
  command-same a b same e [] = refl
  command-same a b same e (w ∷ ws) = by-same (command_in all_commands w.text) a b same e w ws

  last-same : (a b : List TableOf) → SameTables a b → (ws : List WordView) (stop : Option Stop) → last_of s a ws stop ≡ last_of s b ws stop
  last-same a b same ws None = refl
  last-same a b same ws (Some stop) = rw (command-same a b same None ws) refl

  pub commands-same : (a b : List TableOf) → SameTables a b → (cs : List (List WordView)) (ends : List Place) (ws : List WordView) (stop : Option Stop) → commands_of s a cs ends ws stop ≡ commands_of s b cs ends ws stop
  commands-same a b same [] ends ws stop = last-same a b same ws stop
  commands-same a b same (c ∷ cs) ends ws stop =
      ap (λ (x : Said). on_said x (λ view. commands_of s (tables_after view.word view a) cs (later_ends ends) ws stop)) (command-same a b same (first_end ends) c)
      ∙ on_said-same (command_of s b (first_end ends) c)
      (λ view. commands_of s (tables_after view.word view a) cs (later_ends ends) ws stop)
      (λ view. commands_of s (tables_after view.word view b) cs (later_ends ends) ws stop)
      (λ view. commands-same (tables_after view.word view a) (tables_after view.word view b) (after-same view.word view a b same) cs (later_ends ends) ws stop)
