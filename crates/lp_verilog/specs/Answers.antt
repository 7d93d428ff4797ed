-- What the functions that read answer, next to the reading by the grammar.
use Rattle.std.specs.Prelude.{◌≡◌, ◌<◌, ℕ, List, Some, Result, Ok, Err, IsTrue}
use Rattle.std.specs.List.{list_all}
use Rattle.lp_model.specs.declared.netlist.Module.{Module}
use Rattle.lp_verilog_grammar.specs.declared.reader.Reader.{Reader}
use Rattle.lp_verilog.specs.declared.reading.Halt.{Halt}
use Rattle.lp_verilog.specs.declared.reading.Halt.TheVariants as halts
use Rattle.lp_verilog.specs.Reading.{Reading, Outcome, Whole, Left, turned}
use Rattle.lp_verilog_tokens.specs.Cutting.{Piece}
use Rattle.lp_verilog_tokens.specs.Lexical.{is_visible}
use Rattle.lp_verilog_draft.specs.declared.stop.Off.{Off}
use Rattle.lp_verilog_draft.specs.declared.stop.Off.TheVariants as offs
use Rattle.lp_verilog_draft.specs.Verdicts.{Verdict, Goes, Stops}

-- a token that cannot stand where it does
abbrev pub Refused : Halt → ℕ → List ℕ → Verdict Reader → Type 0
Refused (halts.Left off place word) at bytes v = (v ≡ Stops off) × (place ≡ at) × (word.now ≡ bytes)
Refused halts.NoMemory at bytes v = Unit {0}

-- a token is taken, or it is the first one that cannot stand where it does
abbrev pub Takes : {A : Type 0} → Result A Halt → Reader → ℕ → List ℕ → Verdict Reader → Type 0
Takes (Ok x) m at bytes v = v ≡ Goes m
Takes (Err halt) m at bytes v = Refused halt at bytes v

-- the reading ends at the first token that cannot stand where it does
abbrev pub Halts : Halt → List (List ℕ) → Reading → Type 0
Halts (halts.Left off place word) names reading = reading ≡ record { outcome = Left off place word.now; names = names }
Halts halts.NoMemory names reading = Unit {0}

-- the reading goes on with what is left, or it ends here
abbrev pub GoesOn : {A : Type 0} → (A → List ℕ) → (List ℕ → List (List ℕ) → Reader → Reading) → Result A Halt → List (List ℕ) → Reader → Reading → Type 0
GoesOn seen more (Ok rest) names m reading = reading ≡ more (seen rest) names m
GoesOn seen more (Err halt) names m reading = Halts halt names reading

-- behind its first token a text is read as what is left, whatever is done with that
abbrev pub Turns : {A : Type 0} → (A → List ℕ) → Result A Halt → List (List ℕ) → Reader → ℕ → List ℕ → List (List ℕ) → Reader → Piece → Type 0
Turns seen result names m size rest old before p =
    (more : List ℕ → List (List ℕ) → Reader → Reading) → GoesOn seen more result names m (turned more size rest old before (Some p))

abbrev pub Finishes : Result (List Module) Halt → Outcome → Type 0
Finishes (Ok modules) o = o ≡ Whole modules
Finishes (Err (halts.Left off place word)) o = o ≡ Left off place word.now
Finishes (Err halts.NoMemory) o = Unit {0}

-- the outcome and the names are those of a reading
abbrev pub IsReading : Result (List Module) Halt → List (List ℕ) → Reading → Type 0
IsReading (Ok modules) names reading = reading ≡ record { outcome = Whole modules; names = names }
IsReading (Err halt) names reading = Halts halt names reading

-- a token that is not read is visible, and is no name
abbrev pub IsUnread : Halt → List (List ℕ) → List (List ℕ) → Type 0
IsUnread (halts.Left offs.Unsupported place word) old new = IsTrue (list_all is_visible word.now) × (new ≡ old)
IsUnread _ old new = Unit {0}

abbrev pub Unread : {A : Type 0} → Result A Halt → List (List ℕ) → List (List ℕ) → Type 0
Unread (Ok x) old new = Unit {0}
Unread (Err halt) old new = IsUnread halt old new

-- a token that is not read is visible, and there are fewer names than so many
abbrev pub HasRoom : Halt → ℕ → ℕ → Type 0
HasRoom (halts.Left offs.Unsupported place word) count most = IsTrue (list_all is_visible word.now) × (count < most)
HasRoom _ count most = Unit {0}

abbrev pub EndsUnread : {A : Type 0} → Result A Halt → ℕ → ℕ → Type 0
EndsUnread (Ok x) count most = Unit {0}
EndsUnread (Err halt) count most = HasRoom halt count most

-- the names are the same, but where a word was added for a fault
abbrev pub SameUnless : Off → List (List ℕ) → List (List ℕ) → Type 0
SameUnless offs.Unsupported old new = Unit {0}
SameUnless _ old new = new ≡ old
