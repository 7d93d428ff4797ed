-- What the reader answers (IEEE 1801-2015, Tcl syntax; the faults are an own rule).
use Rattle.std.specs.Prelude.{◌≡◌, ℕ, List, [], ◌∷◌, ◌++◌, Option, Some, None, codes}
use Rattle.lp_text.specs.Texts.{text_at}
use Rattle.lp_text.specs.declared.names.NameId.{NameId}
use Rattle.lp_text.specs.declared.place.Place.{Place}
use Rattle.lp_model.specs.CommandsView.{line_view, line_numbers, words_view, words_numbers}
use Rattle.lp_model.specs.declared.fault.intent.IntentFault.{IntentFault}
use Rattle.lp_model.specs.declared.fault.intent.IntentFault.TheVariants as faults
use Rattle.lp_upf_words.specs.declared.mode.Stop.{Stop}
use Rattle.lp_upf_words.specs.declared.mode.Stop.TheVariants as stops
use Rattle.lp_upf_words.specs.declared.answer.WordsRead.{WordsRead}
use Rattle.lp_upf_words.specs.Words.{Gathered, Denotes, outcome_of}

-- a byte that is not read
abbrev pub IsUnsupported : List (List ℕ) → List ℕ → Place → Option IntentFault → Type 0
IsUnsupported names text p fault = (word : NameId) × (fault ≡ Some (faults.Unsupported p word)) × (text_at names word.0 ≡ text)

abbrev pub IsFaultOf : List (List ℕ) → Option Stop → Option IntentFault → Type 0
IsFaultOf names None fault = fault ≡ None
IsFaultOf names (Some (stops.Syntax p)) fault = fault ≡ Some (faults.Syntax p)
IsFaultOf names (Some (stops.Dollar p)) fault = IsUnsupported names (codes "$") p fault
IsFaultOf names (Some (stops.Bracket p)) fault = IsUnsupported names (codes "[") p fault

abbrev pub fault_numbers : Option IntentFault → List ℕ
fault_numbers (Some (faults.Unsupported p word)) = word.0 ∷ []
fault_numbers fault = []

abbrev pub gathered_in : List (List ℕ) → WordsRead → Gathered
gathered_in names r = record { commands = words_view names r.list; ends = r.ends; words = line_view names r.unfinished }

-- the numbers of names in what was read
abbrev pub read_numbers : WordsRead → List ℕ
read_numbers r = words_numbers r.list ++ (line_numbers r.unfinished ++ fault_numbers r.fault)

-- the words are those of the text, as far as it keeps the form, and the fault is its own
pub record ReadsWords (text : List ℕ) (names : List (List ℕ)) (r : WordsRead) : Type 0 where
  pub stop : Option Stop
  pub denotes : Denotes text (outcome_of (gathered_in names r) stop)
  pub fault : IsFaultOf names stop r.fault
