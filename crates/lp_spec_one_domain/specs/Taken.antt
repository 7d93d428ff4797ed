-- Which netlists are taken with the power intent of one domain: what readers give of them, and the lines of the table of faults that may hold (own rule).
use Rattle.std.specs.Prelude.{◌≡◌, ◌≤◌, false, true, map, Some, None, bytes_eq}
use Rattle.std.specs.List.{list_any}
use Rattle.lp_model.specs.LibraryView.{CellView}
use Rattle.lp_spec_design.specs.Instances.{Placed, cell_instances}
use Rattle.lp_spec_design.specs.Netlists.{Structure}
use Rattle.lp_spec_design.specs.Winners.{IsIn}
use Rattle.lp_spec_realises.specs.ProjectNetlists.{are_apart}
use Rattle.lp_spec_realises.specs.Realises.{cell_of}
use Rattle.lp_spec_faults.specs.Lines.{Line, first_of}
use Rattle.lp_spec_faults.specs.Modules.{reserved_name, unknown_module, recursive, top_count, netlist_limits, unfit_cell}
use Rattle.lp_spec_faults.specs.Readings.{is_unfit_by, loop}
use Rattle.lp_spec_faults.specs.Wires.{wire_loop, unknown_pin, already_powered, two_drivers}
use Rattle.lp_spec_agreement.specs.Faultless.{IsSoundCell}
use Rattle.lp_spec_faultless.specs.Faults.{IsReadNetlist, loop_steps}
use Rattle.lp_spec_written_at.specs.Sources.{takes_own_name}
use Rattle.lp_spec_one_domain.specs.OneDomain.{OneDomain, the_set, project_of}

-- what readers give, whatever the faults are: no name is declared twice (F12) and what is joined is declared; each cell that
-- can be used is sound and begins not as the added ones, and no two cells have one name
pub record IsReadSource (s : Structure) : Type 0 where
  pub netlist : IsReadNetlist s
  pub library : (c : CellView) → IsIn c s.cells → c.unusable ≡ None → IsSoundCell c
  pub cell_names : are_apart (map (λ (c : CellView). c.name) s.cells) ≡ true
  pub free_cells : list_any takes_own_name s.cells ≡ false

-- of the netlist no line of the table of faults holds
pub record HasNoNetlistFault (s : Structure) : Type 0 where
  -- F13, F17, F18 and F19
  pub targets : first_of (unknown_module s) ≡ None
  pub not_recursive : first_of (recursive s) ≡ None
  pub one_top : first_of (top_count s) ≡ None
  pub names : first_of (reserved_name s) ≡ None
  -- F14, F16 and F20
  pub pins : first_of (unknown_pin s) ≡ None
  pub one_driver : first_of (two_drivers s) ≡ None
  pub not_powered : first_of (already_powered s) ≡ None
  -- F22, F23 and F61
  pub within_limits : first_of (netlist_limits s) ≡ None
  pub no_wire_loop : first_of (wire_loop s) ≡ None
  pub cells_fit : first_of (unfit_cell s) ≡ None

-- F66 where one set supplies everything: a cell instance whose outputs or state are lost otherwise than with it
abbrev pub lost_otherwise : Structure → Line Placed
lost_otherwise s = record { places = cell_instances s; test = λ (a : Placed). is_unfit_by (Some the_set) (cell_of s a) }

-- a netlist is taken with its one domain: the two supply ports have two names, the voltage is within its limit, and no line
-- holds of the netlist, nor is there a node that depends on itself (F21) or a cell whose outputs or state are lost otherwise
-- than with its one supply (F66)
pub record TakesOneDomain (d : OneDomain) : Type 0 where
  pub two_names : bytes_eq d.power.name d.gnd.name ≡ false
  pub low : d.voltage ≤ 1000000000000
  pub netlist : HasNoNetlistFault d.structure
  pub no_loop : first_of (loop (project_of d) (loop_steps (project_of d))) ≡ None
  pub lost_with_it : first_of (lost_otherwise d.structure) ≡ None
