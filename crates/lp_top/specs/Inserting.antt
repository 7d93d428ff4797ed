-- The steps of an insertion between its words and its line.
use Rattle.std.specs.Prelude.{◌≡◌, ℕ, ◌⊎◌, List, [], ◌∷◌, Option, Some}
use Rattle.std.specs.Option.{option_map}
use Rattle.lp_text.specs.Shelf.{Files, with_file}
use Rattle.lp_text.specs.declared.shelf.ShelfFault.{ShelfFault}
use Rattle.lp_text.specs.declared.shelf.ShelfFault.TheVariants as causes
use Rattle.lp_plain_upf.specs.Names.{Name}
use Rattle.lp_spec_insertion.specs.Inputs.{Inputs}
use Rattle.lp_top.specs.declared.reading.ReadStop.{ReadStop}
use Rattle.lp_top.specs.declared.outcome.Outcome.{Outcome}
use Rattle.lp_top.specs.declared.outcome.Outcome.TheVariants.{Done, TooLong, Usage, ReadFault, WriteFault, NoMemory}
use Rattle.lp_accept.specs.Inputs.{inputs_of}
use Rattle.lp_top.specs.Reading.{count_more}
use Rattle.lp_top.specs.Words.{CommandFiles}
use Rattle.lp_top.specs.Ran.{file_number, HoldsPart}

-- the inputs in the order in which they are read
abbrev pub inputs_read : List (List ℕ) → Inputs
inputs_read (netlist ∷ intent ∷ libraries) = inputs_of libraries netlist intent
inputs_read _ = inputs_of [] [] []

-- how a run ends where a file is not read
abbrev pub ends_by : ShelfFault → ℕ → Outcome
ends_by causes.Failed place = ReadFault (file_number place)
ends_by causes.TooLong place = TooLong (file_number place)
ends_by causes.NoMemory place = NoMemory

abbrev pub end_of : ReadStop → Outcome
end_of stop = ends_by stop.cause stop.place

-- what storing the two texts leaves
abbrev pub StoresBoth : CommandFiles → Name → Name → Option Files → Option Files → Outcome → Type 0
StoresBoth c netlist report old new Done = new ≡ with_file (with_file old c.out netlist) c.report report
StoresBoth c netlist report old new (WriteFault k) = ((k ≡ 3) × HoldsPart old new c.out netlist) ⊎ ((k ≡ 4) × HoldsPart (with_file old c.out netlist) new c.report report)
StoresBoth c netlist report old new NoMemory = HoldsPart old new c.out netlist ⊎ HoldsPart (with_file old c.out netlist) new c.report report
StoresBoth c netlist report old new _ = ⊥

-- which write failed, after how many calls
abbrev pub MissesWrite : CommandFiles → Option (Option Name) → Option (Option Name) → Option ℕ → Option ℕ → Outcome → Type 0
MissesWrite c missed now calls later (WriteFault k) =
    ((k ≡ 3) × ((now ≡ option_map (λ _. Some c.out) missed) × (later ≡ option_map (count_more 1) calls)))
    ⊎ ((k ≡ 4) × ((now ≡ option_map (λ _. Some c.report) missed) × (later ≡ option_map (count_more 2) calls)))
MissesWrite c missed now calls later _ = Unit {0}

-- an outcome that the words do not decide
abbrev pub IsNoUsage : Outcome → Type 0
IsNoUsage (Usage u) = ⊥
IsNoUsage _ = Unit {0}
