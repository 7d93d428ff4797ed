-- The words of commands, one command after the other.
use Rattle.std.proofs.Common.{◌≡◌, ℕ, ◌+◌, ◌*◌, ◌<◌, ◌≤◌, true, List, [], ◌∷◌, ◌++◌, sym, ap, ◌∙◌, subst, length, drop, get_or, map, arith}
use Rattle.std.specs.Prelude.{Option, Result, Ok, Err, IfOk, slice_get}
use Rattle.std.proofs.Math.ListN.{drop_of_length-le}
use Rattle.std.specs.List.{flat_map, list_all}
use Rattle.std.proofs.lemmas.Bool.{and_parts}
use Rattle.std.proofs.lemmas.List.{drop_more}
use Rattle.lp_text.specs.Limits.{most_names}
use Rattle.lp_text.specs.Texts.{Grown}
use Rattle.lp_text.specs.declared.place.Place.{Place}
use Rattle.lp_model.specs.declared.upf.UpfWord.{UpfWord}
use Rattle.lp_model.specs.declared.fault.intent.IntentFault.{IntentFault}
use Rattle.lp_model.specs.Agreement.{numbers_below, option_numbers}
use Rattle.lp_model.specs.CommandsView.{CommandView, WordView, line_numbers, line_view, words_view}
use Rattle.lp_upf_words.specs.declared.answer.WordsRead.{WordsRead}
use Rattle.lp_upf_words.specs.declared.mode.Stop.{Stop}
use Rattle.lp_upf_words.specs.Sizes.{is_modest, sizes, sizes_of_all}
use Rattle.lp_spec_upf.specs.Commands.{Fault, Sense, command_of, commands_of, first_end, last_of}
use Rattle.lp_spec_upf.specs.Intent.{IsSense}
use Rattle.lp_upf.specs.declared.commands.Done.{Done}
use Rattle.lp_upf.specs.declared.commands.Turn.{Turn}
use Rattle.lp_upf.specs.declared.commands.Turn.TheVariants as turns
use Rattle.lp_upf.specs.Named.{AreReady}
use Rattle.lp_upf.specs.Said.{IsOutcome, intent_numbers, items_view}
use Rattle.lp_upf.specs.States.{tables_numbers, tables_view}
use Rattle.lp_upf.specs.Turns.{Answers, Going, IsLastOf, IsTurn, LastOf, TurnOf}
use Rattle.lp_upf.proofs.Carried.{below_join, below_more, below_parts, grown_length, line-grown}
use Rattle.lp_upf.proofs.Turning.{end_at, ends_at_last, ends_so, goes_on, later_at}

module _ (begin old : List (List ℕ)) (commands : List (List UpfWord)) (i : ℕ) (c : List UpfWord) (low : i < length commands) (at : c ≡ get_or commands i c) where
  abbrev rest : List (List UpfWord)
  rest = drop (i + 1) commands

  abbrev line : List WordView
  line = line_view begin c

  pub front : drop i commands ≡ c ∷ rest
  front = drop_more commands i c low ∙ ap (λ (x : List UpfWord). x ∷ rest) (sym at)

  pub below_both : (n : ℕ) → numbers_below n (flat_map line_numbers (drop i commands)) ≡ true → (numbers_below n (line_numbers c) ≡ true) × (numbers_below n (flat_map line_numbers rest) ≡ true)
  below_both n h = below_parts n (line_numbers c) (flat_map line_numbers rest) (sym (ap (λ (xs : List (List UpfWord)). numbers_below n (flat_map line_numbers xs)) front) ∙ h)

  pub modest_both : list_all (list_all is_modest) (map (line_view begin) (drop i commands)) ≡ true → (list_all is_modest line ≡ true) × (list_all (list_all is_modest) (map (line_view begin) rest) ≡ true)
  modest_both h =
      and_parts (list_all is_modest line) (list_all (list_all is_modest) (map (line_view begin) rest)) (sym (ap (λ (xs : List (List UpfWord)). list_all (list_all is_modest) (map (line_view begin) xs)) front) ∙ h)

  pub sizes_both : sizes_of_all (map (line_view begin) (drop i commands)) ≡ sizes line + sizes_of_all (map (line_view begin) rest)
  sizes_both = ap (λ (xs : List (List UpfWord)). sizes_of_all (map (line_view begin) xs)) front

  module _ (grown : Grown begin old) (below : numbers_below (length begin) (flat_map line_numbers (drop i commands)) ≡ true) where
    pub same : line_view old c ≡ line
    same = line-grown begin old c grown (below_both (length begin) below).0

    pub ready_at : (states : List (ℕ × ℕ)) (total more : ℕ) → numbers_below (length old) (tables_numbers states) ≡ true → list_all (list_all is_modest) (map (line_view begin) (drop i commands)) ≡ true
        → length old + 2 * sizes_of_all (map (line_view begin) (drop i commands)) ≤ length begin + 2 * total → length begin + 2 * (total + more) + 1 < most_names → AreReady old states c
    ready_at states total more tables modest few room =
        let e = ap (λ (ws : List WordView). sizes ws) same in
        let f = sizes_both in
        record {
          below = below_more (length begin) (length old) (line_numbers c) (grown_length begin old grown) (below_both (length begin) below).0;
          tables = tables;
          room = omega (arith, e, f, few, room);
          modest = ap (λ (ws : List WordView). list_all is_modest ws) same ∙ (modest_both modest).0;
        }

    module _ (s : Sense) (sense : IsSense s) (new : List (List ℕ)) (before after : Done) (ends : List Place) (e : Option Place) (open_ones : List WordView) (stop : Option Stop) (said : Result (List CommandView) Fault) (end_is : e ≡ slice_get ends i) where
      turn_at : (t : Turn) → IsTurn old new before after e (line_view old c) t → TurnOf old new before after (command_of s (tables_view old before.states) (first_end (drop i ends)) line) t
      turn_at t h =
          subst (λ (o : Option Place). TurnOf old new before after (command_of s (tables_view old before.states) o line) t) (end_is ∙ sym (end_at ends i))
          (subst (λ (ws : List WordView). TurnOf old new before after (command_of s (tables_view old before.states) e ws) t) same (h s sense))

      going_at : Going s old before (map (line_view begin) (drop i commands)) (drop i ends) open_ones stop said → Going s old before (line ∷ map (line_view begin) rest) (drop i ends) open_ones stop said
      going_at g = subst (λ (xs : List (List UpfWord)). Going s old before (map (line_view begin) xs) (drop i ends) open_ones stop said) front g

      pub on_at : Going s old before (map (line_view begin) (drop i commands)) (drop i ends) open_ones stop said → IsTurn old new before after e (line_view old c) turns.On
          → Going s new after (map (line_view begin) rest) (drop (i + 1) ends) open_ones stop said
      on_at g h =
          subst (λ (xs : List Place). Going s new after (map (line_view begin) rest) xs open_ones stop said) (later_at ends i)
          (goes_on s old new before after line (map (line_view begin) rest) (drop i ends) open_ones stop said (going_at g) (turn_at turns.On h))

      pub ends_at : (f : Option IntentFault) → Going s old before (map (line_view begin) (drop i commands)) (drop i ends) open_ones stop said → IsTurn old new before after e (line_view old c) (turns.Ends f)
          → IsOutcome new after.commands said f
      ends_at f g h = ends_so s old new before after line (map (line_view begin) rest) (drop i ends) open_ones stop said f (going_at g) (turn_at (turns.Ends f) h)

-- ---- behind the last command

pub finished : {E : Type 0} (begin old new : List (List ℕ)) (words : WordsRead) (done : Done) (i : ℕ) (stop : Option Stop) (r : Result (Option IntentFault) E) → length words.list.commands ≤ i → line_view old words.unfinished ≡ line_view begin words.unfinished
    → items_view new done.commands ≡ items_view old done.commands
    → ((s : Sense) → IsSense s → Going s old done (map (line_view begin) (drop i words.list.commands)) (drop i words.ends) (line_view begin words.unfinished) stop (commands_of s [] (words_view begin words.list) words.ends (line_view begin words.unfinished) stop))
    → IfOk r (IsLastOf old new done.states words stop) → IfOk r (Answers begin new words stop done)
finished begin old new words done i stop (Err e) high agree items going h = tt
finished begin old new words done i stop (Ok f) high agree items going h = λ s sense.
    let open_ones = line_view begin words.unfinished in
    let said = commands_of s [] (words_view begin words.list) words.ends open_ones stop in
    let none = drop_of_length-le words.list.commands high in
    let g = subst (λ (xs : List (List UpfWord)). Going s old done (map (line_view begin) xs) (drop i words.ends) open_ones stop said) none (going s sense) in
    let l = subst (λ (ws : List WordView). LastOf new (last_of s (tables_view old done.states) ws stop) f) agree (h s sense) in
    ends_at_last s old new done (drop i words.ends) open_ones stop said f g items l

pub both_numbers : {E : Type 0} (n : ℕ) (xs : List ℕ) (r : Result (Option IntentFault) E) → numbers_below n xs ≡ true → IfOk r (λ f. numbers_below n (option_numbers intent_numbers f) ≡ true) → IfOk r (λ f. numbers_below n (xs ++ option_numbers intent_numbers f) ≡ true)
both_numbers n xs (Err e) h k = tt
both_numbers n xs (Ok f) h k = below_join n xs (option_numbers intent_numbers f) h k
