-- The judging stages: a module and its intent against the cells.
use Rattle.std.specs.Prelude.{◌≡◌, ℕ, Bool, ◌≤◌, ◌⊎◌, true, false, List, [], ◌∷◌, map, length, Some, None, Result}
use Rattle.std.specs.List.{list_all}
use Rattle.lp_model.specs.Agreement.{numbers_below}
use Rattle.lp_model.specs.declared.library.Cell.{Cell}
use Rattle.lp_model.specs.NetlistView.{ModuleView, module_view, module_numbers}
use Rattle.lp_model.specs.LibraryView.{CellView, cell_view, library_view, library_numbers}
use Rattle.lp_spec_design.specs.Keys.{Name}
use Rattle.lp_spec_plain.specs.Cells.{loses_with_supply}
use Rattle.lp_spec_plain_module.specs.Designs.{Flat}
use Rattle.lp_verilog_tokens.specs.Lexical.{is_visible}
use Rattle.lp_plain_upf.specs.declared.plain.Intent.{Intent}
use Rattle.lp_plain_upf.specs.Upf.{IsIntent}
use Rattle.lp_spec_plain_netlist.specs.Single.{is_single, is_single_module}
use Rattle.lp_spec_plain_netlist.specs.Fits.{is_fit, are_plain, are_read}
use Rattle.lp_spec_plain_netlist.specs.Flats.{flat_of, HasLoop, IsOrdered}
use Rattle.lp_targets.specs.Reports.{Report}
use Rattle.lp_spec_insertion.specs.Inputs.{Inputs, structure_in, netlist_report, Accepts}
use Rattle.lp_node_text.specs.Reports.{report_line}
use Rattle.lp_spec_insertion.specs.Faults.{not_yet}
use Rattle.lp_model.specs.declared.netlist.Module.{Module}
use Rattle.lp_accept.specs.declared.accepted.Accepted.{Accepted}
use Rattle.lp_accept.specs.declared.stop.Stop.{Stop}
use Rattle.lp_accept.specs.Stages.{OrStop}

-- which cells lose their outputs and their state exactly where their one supply is not on
abbrev pub losing : List (List ℕ) → List Cell → List Bool
losing texts cells = map (λ c. loses_with_supply (cell_view texts c)) cells

-- a netlist of which no line holds about names, targets, modules, connections, cells and net bits
abbrev pub IsFaultless : List CellView → List ModuleView → Type 0
IsFaultless cells modules = netlist_report (structure_in cells modules) ≡ None

pub record IsFaulty (cells : List CellView) (modules : List ModuleView) (line : List ℕ) : Type 0 where
  pub report : Report
  pub first : netlist_report (structure_in cells modules) ≡ Some report
  pub spelled : line ≡ report_line report

pub record IsOtherForm (cells : List CellView) (modules : List ModuleView) (line : List ℕ) : Type 0 where
  pub faultless : IsFaultless cells modules
  pub other : is_single modules ≡ false
  pub spelled : line ≡ not_yet 4

-- a faultless netlist of the form that is taken
pub record IsTaken (cells : List CellView) (modules : List ModuleView) : Type 0 where
  pub faultless : IsFaultless cells modules
  pub single : is_single modules ≡ true

abbrev pub IsNotTaken : List CellView → List ModuleView → List ℕ → Type 0
IsNotTaken cells modules line = IsFaulty cells modules line ⊎ IsOtherForm cells modules line

-- the one module of such a netlist
pub record IsOne (cells : List CellView) (modules : List ModuleView) (m : ModuleView) : Type 0 where
  pub one : modules ≡ m ∷ []
  pub faultless : IsFaultless cells modules
  pub single : is_single_module m ≡ true

-- the module fits the cells
abbrev pub Fitting : List CellView → ModuleView → Type 0
Fitting cells m = is_fit cells m ≡ true

abbrev pub Misfits : List CellView → ModuleView → List ℕ → Type 0
Misfits cells m line = (is_fit cells m ≡ false) × (line ≡ not_yet 4)

-- a text that denotes no intent
abbrev pub NoIntent : List ℕ → List ℕ → Type 0
NoIntent text line = ((i : Intent) → IsIntent text i → ⊥) × (line ≡ not_yet 5)

-- plain cells, and an order of what reads what, whatever the supply ports are called
abbrev pub Ordered : List CellView → ModuleView → Type 0
Ordered cells m = (power gnd : Name) (margin : ℕ) → IsOrdered (flat_of cells m power gnd margin)

abbrev pub Looped : List CellView → ModuleView → Type 0
Looped cells m = (power gnd : Name) (margin : ℕ) → HasLoop (flat_of cells m power gnd margin)

pub record Sound (cells : List CellView) (m : ModuleView) : Type 0 where
  pub plain : are_plain cells m ≡ true
  pub ordered : Ordered cells m

pub record Unsound (cells : List CellView) (m : ModuleView) (line : List ℕ) : Type 0 where
  pub why : (are_plain cells m ≡ false) ⊎ ((are_plain cells m ≡ true) × Looped cells m)
  pub spelled : line ≡ not_yet 7

-- a module that fits its cells under an intent, and is sound
pub record Judged (cells : List CellView) (m : ModuleView) (text : List ℕ) (i : Intent) : Type 0 where
  pub fitting : Fitting cells m
  pub intent : IsIntent text i
  pub sound : Sound cells m

pub record UnsoundUnder (cells : List CellView) (m : ModuleView) (text line : List ℕ) : Type 0 where
  pub under : Intent
  pub intent : IsIntent text under
  pub unsound : Unsound cells m line

abbrev pub Unjudged : List CellView → ModuleView → List ℕ → List ℕ → Type 0
Unjudged cells m text line = Misfits cells m line ⊎ (Fitting cells m × (NoIntent text line ⊎ UnsoundUnder cells m text line))

-- what each stage gives, or the fault that is its own
abbrev pub FaultlessOrStop : {T : Type 0} → List CellView → List ModuleView → Result T Stop → Type 0
FaultlessOrStop cells modules result = OrStop (λ _. IsFaultless cells modules) (IsFaulty cells modules) result

abbrev pub TakenOrStop : {T : Type 0} → List CellView → List ModuleView → Result T Stop → Type 0
TakenOrStop cells modules result = OrStop (λ _. IsTaken cells modules) (IsNotTaken cells modules) result

-- the one module, whose names are all of the table
pub record IsSource (names : List (List ℕ)) (cells : List CellView) (modules : List ModuleView) (m : Module) : Type 0 where
  pub one : IsOne cells modules (module_view names m)
  pub below : numbers_below (length names) (module_numbers m) ≡ true

abbrev pub SourceOrStop : List (List ℕ) → List CellView → List ModuleView → Result Module Stop → Type 0
SourceOrStop names cells modules result = OrStop (IsSource names cells modules) (IsNotTaken cells modules) result

abbrev pub FitOrStop : {T : Type 0} → List CellView → ModuleView → Result T Stop → Type 0
FitOrStop cells m result = OrStop (λ _. Fitting cells m) (Misfits cells m) result

abbrev pub SoundOrStop : {T : Type 0} → List CellView → ModuleView → Result T Stop → Type 0
SoundOrStop cells m result = OrStop (λ _. Sound cells m) (Unsound cells m) result

abbrev pub JudgedOrStop : List CellView → ModuleView → List ℕ → Result Intent Stop → Type 0
JudgedOrStop cells m text result = OrStop (Judged cells m text) (Unjudged cells m text) result

-- ---- the design of the inputs

abbrev pub cells_of : Accepted → List CellView
cells_of a = library_view a.names a.library

abbrev pub source_of : Accepted → ModuleView
source_of a = module_view a.names a.source

abbrev pub flat_by : Accepted → ℕ → Flat
flat_by a margin = flat_of (cells_of a) (source_of a) a.intent.power a.intent.gnd margin

-- inputs without fault, with an order of what reads what, over a table that has all numbers
pub record IsAccepted (inputs : Inputs) (a : Accepted) : Type 0 where
  pub accepts : Accepts inputs (cells_of a) (source_of a) a.intent
  pub read : are_read (cells_of a) (source_of a) ≡ true
  pub ordered : (margin : ℕ) → IsOrdered (flat_by a margin)
  pub cells_below : numbers_below (length a.names) (library_numbers a.library) ≡ true
  pub source_below : numbers_below (length a.names) (module_numbers a.source) ≡ true
  pub few_names : length a.names ≤ 1140850689
  pub few_cells : length a.library.cells ≤ 1140850689
  pub power_visible : list_all is_visible a.intent.power ≡ true
  pub gnd_visible : list_all is_visible a.intent.gnd ≡ true
