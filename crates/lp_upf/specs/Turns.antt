-- The commands of a text one after the other: a second form (own rule).
use Rattle.std.specs.Prelude.{◌≡◌, ℕ, ◌+◌, ◌*◌, ◌<◌, true, List, [], ◌∷◌, ◌++◌, length, Option, Some, None, Result, Ok, Err}
use Rattle.std.specs.List.{list_all}
use Rattle.lp_text.specs.Limits.{most_names}
use Rattle.lp_text.specs.declared.place.Place.{Place}
use Rattle.lp_model.specs.Agreement.{numbers_below, option_numbers}
use Rattle.lp_model.specs.CommandsView.{CommandView, WordView, line_view, words_view}
use Rattle.lp_model.specs.CommandsView as view
use Rattle.lp_model.specs.declared.fault.intent.IntentFault.{IntentFault}
use Rattle.lp_upf_words.specs.declared.answer.WordsRead.{WordsRead}
use Rattle.lp_upf_words.specs.declared.mode.Stop.{Stop}
use Rattle.lp_upf_words.specs.Answer.{read_numbers}
use Rattle.lp_upf_words.specs.Sizes.{is_modest, sizes, sizes_of_all}
use Rattle.lp_spec_upf.specs.Commands.{Fault, Said, Does, Fails, Breaks, Sense, command_of, commands_of, last_of, tables_after}
use Rattle.lp_spec_upf.specs.Intent.{IsSense}
use Rattle.lp_upf.specs.declared.commands.Done.{Done}
use Rattle.lp_upf.specs.declared.commands.Turn.{Turn}
use Rattle.lp_upf.specs.declared.commands.Turn.TheVariants as turns
use Rattle.lp_upf.specs.Said.{IsOutcome, all_done, intent_numbers, intent_view, items_view, prefixed}
use Rattle.lp_upf.specs.States.{SameTables, tables_view}

-- what a command says, and how the reading goes on: with one command more and its table of states, or not
abbrev pub TurnOf : List (List ℕ) → List (List ℕ) → Done → Done → Said → Turn → Type 0
TurnOf old new before after (Does c) turns.On =
    (items_view new after.commands ≡ items_view old before.commands ++ view.Does c ∷ [])
    × SameTables (tables_view new after.states) (tables_after c.word c (tables_view old before.states))
TurnOf old new before after (Fails f) (turns.Ends (Some fault)) = intent_view new fault ≡ Some f
TurnOf old new before after Breaks (turns.Ends None) = items_view new after.commands ≡ items_view old before.commands
TurnOf old new before after said turn = ⊥

abbrev pub IsTurn : List (List ℕ) → List (List ℕ) → Done → Done → Option Place → List WordView → Turn → Type 0
IsTurn old new before after e ws turn = (s : Sense) → IsSense s → TurnOf old new before after (command_of s (tables_view old before.states) e ws) turn

abbrev pub turn_numbers : Turn → List ℕ
turn_numbers turns.On = []
turn_numbers (turns.Ends f) = option_numbers intent_numbers f

abbrev pub IsOn : Turn → Type 0
IsOn turns.On = Unit {0}
IsOn turn = ⊥

-- the end of a text behind its commands
abbrev pub LastOf : List (List ℕ) → Result (List CommandView) Fault → Option IntentFault → Type 0
LastOf names (Ok cs) None = cs ≡ []
LastOf names (Err f) (Some fault) = intent_view names fault ≡ Some f
LastOf names said fault = ⊥

abbrev pub IsLastOf : List (List ℕ) → List (List ℕ) → List (ℕ × ℕ) → WordsRead → Option Stop → Option IntentFault → Type 0
IsLastOf old new states words stop fault = (s : Sense) → IsSense s → LastOf new (last_of s (tables_view old states) (line_view old words.unfinished) stop) fault

-- the words of all commands, over a table of names with room for their elements, twice
pub record AreAllReady (names : List (List ℕ)) (words : WordsRead) : Type 0 where
  pub below : numbers_below (length names) (read_numbers words) ≡ true
  pub room : length names + 2 * (sizes_of_all (words_view names words.list) + sizes (line_view names words.unfinished)) + 1 < most_names
  pub whole : list_all (list_all is_modest) (words_view names words.list) ≡ true
  pub unfinished : list_all is_modest (line_view names words.unfinished) ≡ true

abbrev pub sizes_of_words : List (List ℕ) → WordsRead → ℕ
sizes_of_words names words = sizes_of_all (words_view names words.list) + sizes (line_view names words.unfinished)

-- the outcome is that of all commands
abbrev pub Answers : List (List ℕ) → List (List ℕ) → WordsRead → Option Stop → Done → Option IntentFault → Type 0
Answers old new words stop done fault =
    (s : Sense) → IsSense s → IsOutcome new done.commands (commands_of s [] (words_view old words.list) words.ends (line_view old words.unfinished) stop) fault

-- some commands, and the reading of those behind them
pub record Going (s : Sense) (names : List (List ℕ)) (done : Done) (cs : List (List WordView)) (ends : List Place) (open_ones : List WordView) (stop : Option Stop) (said : Result (List CommandView) Fault) : Type 0 where
  pub commands : List CommandView
  pub shown : items_view names done.commands ≡ all_done commands
  pub rest : prefixed commands (commands_of s (tables_view names done.states) cs ends open_ones stop) ≡ said
