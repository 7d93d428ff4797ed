-- The reading of commands goes on with one command.
use Rattle.std.proofs.Common.{◌≡◌, ℕ, zero, suc, ◌+◌, List, [], ◌∷◌, ◌++◌, append_assoc, refl, subst, sym, ap, ◌∙◌, drop, arith}
use Rattle.std.specs.Prelude.{Option, Some, None, Result, Ok, Err, slice_get}
use Rattle.std.proofs.lemmas.List.{append-nil, map-append}
use Rattle.lp_text.specs.declared.place.Place.{Place}
use Rattle.lp_model.specs.CommandsView.{CommandView, ItemView, WordView}
use Rattle.lp_model.specs.CommandsView as view
use Rattle.lp_model.specs.declared.fault.intent.IntentFault.{IntentFault}
use Rattle.lp_upf_words.specs.declared.mode.Stop.{Stop}
use Rattle.lp_spec_upf.specs.Commands.{Fault, Said, Does, Fails, Breaks, Sense, TableOf, after_command, command_of, commands_of, first_end, last_of, later_ends, on_said, tables_after}
use Rattle.lp_upf.specs.declared.commands.Done.{Done}
use Rattle.lp_upf.specs.declared.commands.Turn.TheVariants as turns
use Rattle.lp_upf.specs.Said.{IsOutcome, all_done, items_view, prefixed}
use Rattle.lp_upf.specs.States.{tables_view}
use Rattle.lp_upf.specs.Turns.{Going, LastOf, TurnOf}
use Rattle.lp_upf.proofs.Tabled.{commands-same}

-- ---- ends of commands

pub end_at : (ends : List Place) (i : ℕ) → first_end (drop i ends) ≡ slice_get ends i
end_at [] zero = refl
end_at [] (suc i) = refl
end_at (p ∷ ends) zero = refl
end_at (p ∷ ends) (suc i) = end_at ends i

pub later_at : (ends : List Place) (i : ℕ) → later_ends (drop i ends) ≡ drop (i + 1) ends
later_at ends i = let e : suc i ≡ i + 1 = omega arith in by ends i ∙ ap (λ (n : ℕ). drop n ends) e
  where
    by : (xs : List Place) (k : ℕ) → later_ends (drop k xs) ≡ drop (suc k) xs
    by [] zero = refl
    by [] (suc k) = refl
    by (x ∷ xs) zero = refl
    by (x ∷ xs) (suc k) = by xs k

-- ---- one command

more : (vs : List CommandView) (c : CommandView) (r : Result (List CommandView) Fault) → prefixed vs (after_command c r) ≡ prefixed (vs ++ c ∷ []) r
more vs c (Ok cs) = ap (λ (xs : List CommandView). Ok xs) (sym (append_assoc vs (c ∷ []) cs))
more vs c (Err f) = refl

done-more : (vs : List CommandView) (c : CommandView) → all_done (vs ++ c ∷ []) ≡ all_done vs ++ view.Does c ∷ []
done-more vs c = map-append (λ x. view.Does x) vs (c ∷ [])

outcome : (names : List (List ℕ)) (done : Done) (a b : Result (List CommandView) Fault) (f : Option IntentFault) → a ≡ b → IsOutcome names done.commands a f → IsOutcome names done.commands b f
outcome names done a b f e x = subst (λ (r : Result (List CommandView) Fault). IsOutcome names done.commands r f) e x

module _ (s : Sense) (old new : List (List ℕ)) (before after : Done) (c : List WordView) (cs : List (List WordView)) (ends : List Place) (open_ones : List WordView) (stop : Option Stop) (said : Result (List CommandView) Fault) where
  abbrev tables : List TableOf
  tables = tables_view old before.states

  abbrev onward : CommandView → Result (List CommandView) Fault
  onward v = commands_of s (tables_after v.word v tables) cs (later_ends ends) open_ones stop

  pub goes_on : Going s old before (c ∷ cs) ends open_ones stop said → TurnOf old new before after (command_of s tables (first_end ends) c) turns.On → Going s new after cs (later_ends ends) open_ones stop said
  goes_on g t = by (command_of s tables (first_end ends) c) refl t
    where
      by : (x : Said) → command_of s tables (first_end ends) c ≡ x → TurnOf old new before after x turns.On → Going s new after cs (later_ends ends) open_ones stop said
      by (Does v) e t = record {
        commands = g.commands ++ v ∷ [];
        shown = t.0 ∙ ap (λ (xs : List ItemView). xs ++ view.Does v ∷ []) g.shown ∙ sym (done-more g.commands v);
        rest = (
            ap (prefixed (g.commands ++ v ∷ [])) (commands-same s (tables_view new after.states) (tables_after v.word v tables) t.1 cs (later_ends ends) open_ones stop)
            ∙ sym (more g.commands v (onward v))
            ∙ ap (λ (x : Said). prefixed g.commands (on_said x onward)) (sym e)
            ∙ g.rest
            );
      }
      by (Fails f) e t = absurd t
      by Breaks e t = absurd t

  pub ends_so : (f : Option IntentFault) → Going s old before (c ∷ cs) ends open_ones stop said → TurnOf old new before after (command_of s tables (first_end ends) c) (turns.Ends f) → IsOutcome new after.commands said f
  ends_so f g t = by f (command_of s tables (first_end ends) c) refl t
    where
      by : (f : Option IntentFault) (x : Said) → command_of s tables (first_end ends) c ≡ x → TurnOf old new before after x (turns.Ends f) → IsOutcome new after.commands said f
      by None (Does v) e t = absurd t
      by (Some fault) (Does v) e t = absurd t
      by None (Fails x) e t = absurd t
      by (Some fault) (Fails x) e t = outcome new after (Err x) said (Some fault) (ap (λ (y : Said). prefixed g.commands (on_said y onward)) (sym e) ∙ g.rest) t
      by None Breaks e t =
          outcome new after (Ok (g.commands ++ [])) said None (ap (λ (y : Said). prefixed g.commands (on_said y onward)) (sym e) ∙ g.rest)
          (t ∙ g.shown ∙ ap all_done (sym (append-nil g.commands)))
      by (Some fault) Breaks e t = absurd t

-- ---- the end

pub ends_at_last : (s : Sense) (old new : List (List ℕ)) (done : Done) (ends : List Place) (open_ones : List WordView) (stop : Option Stop) (said : Result (List CommandView) Fault) (f : Option IntentFault)
    → Going s old done [] ends open_ones stop said → items_view new done.commands ≡ items_view old done.commands → LastOf new (last_of s (tables_view old done.states) open_ones stop) f → IsOutcome new done.commands said f
ends_at_last s old new done ends open_ones stop said f g same l = by f (last_of s (tables_view old done.states) open_ones stop) refl l
  where
    by : (f : Option IntentFault) (r : Result (List CommandView) Fault) → last_of s (tables_view old done.states) open_ones stop ≡ r → LastOf new r f → IsOutcome new done.commands said f
    by None (Ok cs) e l =
        outcome new done (Ok (g.commands ++ cs)) said None (ap (prefixed g.commands) (sym e) ∙ g.rest)
        (same ∙ g.shown ∙ ap all_done (sym (ap (λ (xs : List CommandView). g.commands ++ xs) l ∙ append-nil g.commands)))
    by (Some fault) (Ok cs) e l = absurd l
    by None (Err x) e l = absurd l
    by (Some fault) (Err x) e l = outcome new done (Err x) said (Some fault) (ap (prefixed g.commands) (sym e) ∙ g.rest) l
