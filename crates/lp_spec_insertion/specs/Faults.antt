-- What is refused, in which order: the first line that holds is the fault (own rule).
use Rattle.std.specs.Prelude.{◌≡◌, ℕ, suc, ◌≤◌, ◌⊎◌, true, false, List, [], ◌∷◌, ◌++◌, length, codes, Some, None}
use Rattle.lp_text.specs.Texts.{distinct}
use Rattle.lp_model.specs.FaultLines.{fault_line}
use Rattle.lp_model.specs.declared.fault.refusal.Fault.{Fault}
use Rattle.lp_model.specs.declared.fault.refusal.Fault.TheVariants as faults
use Rattle.lp_model.specs.declared.fault.refusal.Refusal.TheVariants as refusals
use Rattle.lp_model.specs.GroupsView.{GroupView}
use Rattle.lp_model.specs.NetlistView.{ModuleView}
use Rattle.lp_model.specs.LibraryView.{CellView}
use Rattle.lp_targets.specs.Reports.{Report}
use Rattle.lp_node_text.specs.Reports.{report_line}
use Rattle.lp_liberty.specs.Denotes.{Denotes, RefusedAs}
use Rattle.lp_cells.specs.Cells.{cells_of, cell_names}
use Rattle.lp_cells.specs.Reasons.{repeated}
use Rattle.lp_verilog.specs.Refusing.{Refuses}
use Rattle.lp_plain_upf.specs.declared.plain.Intent.{Intent}
use Rattle.lp_plain_upf.specs.Upf.{IsIntent}
use Rattle.lp_spec_plain_netlist.specs.Single.{is_single}
use Rattle.lp_spec_plain_netlist.specs.Fits.{is_fit, are_plain}
use Rattle.lp_spec_plain_netlist.specs.Flats.{flat_of, HasLoop}
use Rattle.lp_spec_insertion.specs.Inputs.{Inputs, HaveGroups, HasCells, HasModules, structure_in, netlist_report, ReadsBoth, FitsCells, ReadsAll}

-- ---- lines, without their line feeds

-- a form that is not built yet, by the number of the work that lifts it
abbrev pub not_yet : ℕ → List ℕ
not_yet k = fault_line [] (faults.NotYet k)

abbrev pub duplicate_cell : List ℕ → List ℕ
duplicate_cell cell = codes "lpinsert: F03 DuplicateCell " ++ cell

-- ---- the libraries

-- a library text is refused so; places and numbers alone stand in its line
abbrev pub IsOff : ℕ → List ℕ → List ℕ → Type 0
IsOff file text line = (fault : Fault) × (RefusedAs file text (refusals.Fault fault) × (line ≡ fault_line [] fault))

-- the first text that is refused, by the number of its file
abbrev pub FirstOff : ℕ → List (List ℕ) → List ℕ → Type 0
FirstOff file [] line = ⊥
FirstOff file (text ∷ texts) line = IsOff file text line ⊎ ((groups : List GroupView) × (Denotes text groups × FirstOff (suc file) texts line))

-- a second cell of a name
pub record HasTwice (libraries : List (List ℕ)) (line : List ℕ) : Type 0 where
  pub groups : List (List GroupView)
  pub read : HaveGroups libraries groups
  pub cell : List ℕ
  pub twice : repeated [] (cell_names (cells_of groups)) ≡ Some cell
  pub spelled : line ≡ duplicate_cell cell

-- ---- the netlist

-- the netlist text is refused so, over some table of names
pub record IsRefused (text line : List ℕ) : Type 0 where
  pub names : List (List ℕ)
  pub apart : distinct names ≡ true
  pub few : length names ≤ 4294967295
  pub fault : Fault
  pub refused : Refuses names text (refusals.Fault fault)
  pub spelled : line ≡ fault_line names fault

-- ---- the first fault of the inputs, by its line

pub data FirstFault (inputs : Inputs) (line : List ℕ) : Type 0 where
  -- a library text is off the form, or above a limit; the first library is file 10
  library_off : FirstOff 10 inputs.libraries line → FirstFault inputs line
  -- a second cell of a name
  cell_twice : HasTwice inputs.libraries line → FirstFault inputs line
  -- the netlist text is off the form, or above the limit
  netlist_off : (cells : List CellView) → HasCells inputs.libraries cells → IsRefused inputs.netlist line → FirstFault inputs line
  -- a line of the table holds of names, targets, modules, connections, assigns, cells or net bits, and this is the first
  netlist_faulty : (cells : List CellView) (modules : List ModuleView) (r : Report) → HasCells inputs.libraries cells → HasModules inputs.netlist modules → netlist_report (structure_in cells modules) ≡ Some r → line ≡ report_line r → FirstFault inputs line
  -- the netlist is not one module of scalars that are connected by name
  not_single : (cells : List CellView) (modules : List ModuleView) → HasCells inputs.libraries cells → HasModules inputs.netlist modules → netlist_report (structure_in cells modules) ≡ None → is_single modules ≡ false → line ≡ not_yet 4 → FirstFault inputs line
  -- a signal pin is open, or a net has two sources
  no_fit : (cells : List CellView) (m : ModuleView) → ReadsBoth inputs cells m → is_fit cells m ≡ false → line ≡ not_yet 4 → FirstFault inputs line
  -- the intent's text leaves the intent form
  no_intent : (cells : List CellView) (m : ModuleView) → FitsCells inputs cells m → ((i : Intent) → IsIntent inputs.intent i → ⊥) → line ≡ not_yet 5 → FirstFault inputs line
  -- a cell is not lost exactly where its one supply is not on
  not_plain : (cells : List CellView) (m : ModuleView) (i : Intent) → ReadsAll inputs cells m i → are_plain cells m ≡ false → line ≡ not_yet 7 → FirstFault inputs line
  -- a node depends on itself
  loop : (cells : List CellView) (m : ModuleView) (i : Intent) (margin : ℕ) → ReadsAll inputs cells m i → are_plain cells m ≡ true → HasLoop (flat_of cells m i.power i.gnd margin) → line ≡ not_yet 7 → FirstFault inputs line
