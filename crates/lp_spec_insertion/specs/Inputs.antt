-- What the texts of an insertion denote (Liberty, IEEE 1364-2005, IEEE 1801-2015, the forms that are read).
use Rattle.std.specs.Prelude.{◌≡◌, ℕ, ◌≤◌, true, List, [], ◌∷◌, length, Option, None}
use Rattle.lp_model.specs.GroupsView.{GroupView}
use Rattle.lp_model.specs.NetlistView.{ModuleView}
use Rattle.lp_model.specs.LibraryView.{CellView}
use Rattle.lp_spec_design.specs.Netlists.{Structure}
use Rattle.lp_targets.specs.Reports.{Report, or_else, hierarchy_report}
use Rattle.lp_connections.specs.Reports.{connections_report}
use Rattle.lp_node_text.specs.Reports.{source_report}
use Rattle.lp_liberty.specs.Denotes.{Denotes}
use Rattle.lp_cells.specs.Cells.{IsLibrary}
use Rattle.lp_verilog.specs.Reads.{Reads}
use Rattle.lp_plain_upf.specs.declared.plain.Intent.{Intent}
use Rattle.lp_plain_upf.specs.Upf.{IsIntent}
use Rattle.lp_spec_plain_netlist.specs.Single.{is_single_module}
use Rattle.lp_spec_plain_netlist.specs.Fits.{is_fit, are_plain}
use Rattle.lp_spec_plain_netlist.specs.Flats.{flat_of, HasLoop}

-- the texts: libraries, netlist and intent
pub record Inputs : Type 0 where
  pub libraries : List (List ℕ)
  pub netlist : List ℕ
  pub intent : List ℕ

-- each text denotes these groups
abbrev pub HaveGroups : List (List ℕ) → List (List GroupView) → Type 0
HaveGroups [] [] = Unit {0}
HaveGroups (text ∷ texts) (groups ∷ more) = Denotes text groups × HaveGroups texts more
HaveGroups [] (groups ∷ more) = ⊥
HaveGroups (text ∷ texts) [] = ⊥

-- the cells of the libraries
pub record HasCells (libraries : List (List ℕ)) (cells : List CellView) : Type 0 where
  pub groups : List (List GroupView)
  pub read : HaveGroups libraries groups
  pub denoted : IsLibrary groups cells

-- the modules of a text that is not too long
pub record HasModules (text : List ℕ) (modules : List ModuleView) : Type 0 where
  pub short : length text ≤ 67108864
  pub reads : Reads text modules

-- ---- how far the inputs are without fault

-- the modules of a netlist among the cells of the libraries
abbrev pub structure_in : List CellView → List ModuleView → Structure
structure_in cells modules = record { modules = modules; cells = cells }

-- the first line that holds of names, targets and modules, then of connections, assigns and cells
unfoldable pub parts_report : Structure → Option Report
parts_report s = or_else (hierarchy_report s) (connections_report s)

-- then of net bits
unfoldable pub netlist_report : Structure → Option Report
netlist_report s = or_else (parts_report s) (source_report s)

-- the cells, and a netlist without such a fault that is a module of the form that is taken
pub record ReadsBoth (inputs : Inputs) (cells : List CellView) (m : ModuleView) : Type 0 where
  pub libraries : HasCells inputs.libraries cells
  pub netlist : HasModules inputs.netlist (m ∷ [])
  pub faultless : netlist_report (structure_in cells (m ∷ [])) ≡ None
  pub single : is_single_module m ≡ true

-- the module fits the cells
pub record FitsCells (inputs : Inputs) (cells : List CellView) (m : ModuleView) : Type 0 where
  pub both : ReadsBoth inputs cells m
  pub fits : is_fit cells m ≡ true

pub record ReadsAll (inputs : Inputs) (cells : List CellView) (m : ModuleView) (i : Intent) : Type 0 where
  pub fit : FitsCells inputs cells m
  pub intent : IsIntent inputs.intent i

-- the inputs have no fault
pub record Accepts (inputs : Inputs) (cells : List CellView) (m : ModuleView) (i : Intent) : Type 0 where
  pub all : ReadsAll inputs cells m i
  pub plain : are_plain cells m ≡ true
  pub no_loop : (margin : ℕ) → HasLoop (flat_of cells m i.power i.gnd margin) → ⊥
