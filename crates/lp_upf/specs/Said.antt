-- What the words of a command say, by the code (own rule).
use Rattle.std.specs.Prelude.{◌≡◌, ℕ, Bool, true, false, if◌then◌else◌, List, [], ◌∷◌, ◌++◌, map, Option, Some, None, Result, Ok, Err}
use Rattle.std.specs.List.{flat_map}
use Rattle.lp_text.specs.Texts.{text_at}
use Rattle.lp_model.specs.declared.upf.CommandWord.{CommandWord}
use Rattle.lp_model.specs.declared.upf.CommandWord.TheVariants as words
use Rattle.lp_model.specs.declared.upf.CommandItem.{CommandItem}
use Rattle.lp_model.specs.declared.upf.UpfWord.{UpfWord}
use Rattle.lp_model.specs.declared.fault.intent.IntentFault.{IntentFault}
use Rattle.lp_model.specs.declared.fault.intent.IntentFault.TheVariants as intents
use Rattle.lp_model.specs.CommandsView.{CommandView, ItemView, command_numbers, command_view, commands_view, item_numbers, item_view}
use Rattle.lp_model.specs.CommandsView as view
use Rattle.lp_spec_upf.specs.Commands.{Fault, Said, Does, Fails, Breaks, Sense, Syntax, Unsupported, ClampRefused}
use Rattle.lp_spec_upf.specs.Intent.{IsSense}
use Rattle.lp_upf.specs.declared.command.Said as code
use Rattle.lp_upf.specs.declared.command.Said.TheVariants as saids
use Rattle.lp_upf.specs.declared.commands.Done.{Done}
use Rattle.lp_upf.specs.Faults.{fault_numbers, fault_view}
use Rattle.lp_upf.specs.States.{tables_numbers}

abbrev pub said_view : List (List ℕ) → code.Said → Said
said_view names (saids.Does c) = Does (command_view names c)
said_view names (saids.Fails f) = Fails (fault_view names f)
said_view names saids.Breaks = Breaks

abbrev pub said_numbers : code.Said → List ℕ
said_numbers (saids.Does c) = command_numbers c
said_numbers (saids.Fails f) = fault_numbers f
said_numbers saids.Breaks = []

-- what was said, in each way to judge expressions
abbrev pub IsSaidBy : List (List ℕ) → (Sense → Said) → code.Said → Type 0
IsSaidBy names said r = (s : Sense) → IsSense s → said_view names r ≡ said s

-- a table of states without a name, which no command makes
abbrev pub is_unnamed : CommandWord → Option UpfWord → Bool
is_unnamed words.CreatePst None = true
is_unnamed word name = false

-- only a command whose name was read makes a table of states
abbrev pub is_named : code.Said → Bool
is_named (saids.Does c) = if is_unnamed c.word c.name then false else true
is_named r = true

-- ---- faults

abbrev pub intent_view : List (List ℕ) → IntentFault → Option Fault
intent_view names (intents.Syntax p) = Some (Syntax p)
intent_view names (intents.Unsupported p word) = Some (Unsupported p (text_at names word.0))
intent_view names (intents.ClampRefused p) = Some (ClampRefused p)
intent_view names f = None

abbrev pub intent_numbers : IntentFault → List ℕ
intent_numbers (intents.Unsupported p word) = word.0 ∷ []
intent_numbers f = []

-- ---- commands

abbrev pub items_view : List (List ℕ) → List CommandItem → List ItemView
items_view names items = map (item_view names) items

-- the commands alone, without beginnings and ends of files
abbrev pub all_done : List CommandView → List ItemView
all_done cs = map (λ c. view.Does c) cs

-- some commands and what is said behind them
abbrev pub prefixed : List CommandView → Result (List CommandView) Fault → Result (List CommandView) Fault
prefixed done (Ok cs) = Ok (done ++ cs)
prefixed done (Err f) = Err f

abbrev pub done_numbers : Done → List ℕ
done_numbers d = flat_map item_numbers d.commands ++ tables_numbers d.states

-- the commands are those that are said, or the fault is the one of the text
abbrev pub IsOutcome : List (List ℕ) → List CommandItem → Result (List CommandView) Fault → Option IntentFault → Type 0
IsOutcome names items (Ok cs) None = items_view names items ≡ all_done cs
IsOutcome names items (Err f) (Some fault) = intent_view names fault ≡ Some f
IsOutcome names items said fault = ⊥
