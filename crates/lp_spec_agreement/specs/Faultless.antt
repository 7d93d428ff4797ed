-- A project without the faults that bear on values: which lines of the table of faults have none, and what the readers know of a netlist and of cells that can be used (own rule).
use Rattle.std.specs.Prelude.{◌≡◌, ℕ, true, false, List, ◌++◌, map, Some, None, is_some, IsTrue}
use Rattle.std.specs.Prelude.{Bool, ◌||◌, not}
use Rattle.std.specs.List.{list_all}
use Rattle.lp_model.specs.declared.library.PgKind.{PgKind}
use Rattle.lp_model.specs.declared.library.PgKind.TheVariants.{InternalPower}
use Rattle.lp_model.specs.NetlistView.{BitView, ModuleView}
use Rattle.lp_model.specs.LibraryView.{PgPinView, PinView, CellView}
use Rattle.lp_rows.specs.Network.{IsNetwork}
use Rattle.lp_spec_settling.specs.Settling.{HasOrder}
use Rattle.lp_spec_design.specs.Keys.{Name, Path}
use Rattle.lp_spec_design.specs.Netlists.{module_at}
use Rattle.lp_spec_design.specs.Nodes.{joined_bits, IsDeclared}
use Rattle.lp_spec_design.specs.Winners.{IsIn}
use Rattle.lp_spec_design.specs.Reads.{keys, reads}
use Rattle.lp_spec_realises.specs.Projects.{Project, design_of}
use Rattle.lp_spec_realises.specs.ProjectNetlists.{are_apart, has_names_apart}
use Rattle.lp_spec_cells.specs.Sound.{IsSound}
use Rattle.lp_spec_faults.specs.Lines.{first_of}
use Rattle.lp_spec_faults.specs.Modules.{netlist_limits, unfit_cell}
use Rattle.lp_spec_faults.specs.Wires.{wire_loop}
use Rattle.lp_spec_faults.specs.Supplies.{no_states}
use Rattle.lp_spec_faults.specs.Readings.{unfit_power, uncovered_level, control_level}

-- ---- what a reader of libraries knows of each cell that can be used: its pins have different names, and only its internal power pins are switched (Liberty pin, pg_pin, pg_type, switch_function)

abbrev pub pin_names : CellView → List Name
pin_names c = map (λ (q : PinView). q.name) c.pins ++ map (λ (g : PgPinView). g.name) c.pgs

-- only an internal power pin is switched
abbrev pub is_internal : PgPinView → Bool
is_internal g = by g.kind
  where
    by : PgKind → Bool
    by InternalPower = true
    by _ = false

pub record IsSoundCell (c : CellView) : Type 0 where
  pub names : IsTrue (are_apart (pin_names c))
  pub switched : IsTrue (list_all (λ (g : PgPinView). not (is_some g.switched) || is_internal g) c.pgs)
  pub sound : IsSound c

-- ---- the project

pub record IsFaultless (p : Project) : Type 0 where
  -- what is read as a netlist: no name is declared twice (F12), and what is joined is declared
  pub names_apart : IsTrue (has_names_apart p.structure.modules)
  pub declared : (q : Path) (m : ModuleView) (b : BitView) → module_at p.structure q ≡ Some m → IsIn b (joined_bits m) → IsDeclared q m b
  -- module instances are not too deep (F22)
  pub within_limits : first_of (netlist_limits p.structure) ≡ None
  -- no cell that a source may not have (F61)
  pub cells_fit : first_of (unfit_cell p.structure) ≡ None
  -- no net bit comes from itself by wires alone (F23)
  pub no_wire_loop : first_of (wire_loop p.structure) ≡ None
  -- no node depends on itself (F21)
  pub order : HasOrder keys (reads (design_of p))
  -- supplies: inputs of switches lead to ports (F39), states and rows are within their limits, and powers and roots of switches have states (F40)
  pub network : IsNetwork p.supplies
  pub states : first_of (no_states p.supplies) ≡ None
  -- the outputs and the state of each cell are lost exactly with the primary supply of its domain (F66)
  pub unfit_power : first_of (unfit_power p) ≡ None
  -- no reader and no clamp may be reached from a lower supply (F54, with F55), and no control be read by a higher one (F59), whatever the numbers of the commands
  pub levels : first_of (uncovered_level p) ≡ None
  pub control_levels : (switch_command : ℕ → ℕ) → first_of (control_level p switch_command) ≡ None
  -- each cell of the library that can be used is sound
  pub library : (c : CellView) → IsIn c p.structure.cells → c.unusable ≡ None → IsSoundCell c
