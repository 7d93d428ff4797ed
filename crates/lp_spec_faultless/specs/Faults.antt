-- A project of which no line of the table of faults holds, and what readers give of a project whatever its faults are (own rule; IEEE 1801-2015 set_isolation and create_power_switch for controls).
use Rattle.std.specs.Prelude.{◌≡◌, ℕ, ◌+◌, Bool, true, false, length, Some, None, slice_get, IsTrue}
use Rattle.lp_model.specs.NetlistView.{BitView, AssignView, ModuleView}
use Rattle.lp_model.specs.LibraryView.{CellView}
use Rattle.lp_rows.specs.Network.{IsNetwork}
use Rattle.lp_spec_design.specs.Keys.{Path, Node, Inner, Outer, Fixed}
use Rattle.lp_spec_design.specs.Netlists.{Structure, module_at}
use Rattle.lp_spec_design.specs.Nodes.{nodes_of, joined_bits, IsDeclared}
use Rattle.lp_spec_design.specs.Intents.{Strategy, FromSwitch}
use Rattle.lp_spec_design.specs.Winners.{IsIn}
use Rattle.lp_spec_realises.specs.Projects.{Project, network_of}
use Rattle.lp_spec_realises.specs.ProjectNetlists.{has_names_apart}
use Rattle.lp_spec_faults.specs.Lines.{first_of}
use Rattle.lp_spec_faults.specs.Modules.{netlist_limits, unfit_cell}
use Rattle.lp_spec_faults.specs.Wires.{wire_loop}
use Rattle.lp_spec_faults.specs.Supplies.{no_states}
use Rattle.lp_spec_faults.specs.Readings.{unfit_power, uncovered_level, control_level, loop}
use Rattle.lp_spec_agreement.specs.Faultless.{IsSoundCell}

-- ---- controls

-- the outer side of a bit of a top port: no net has it, so no control name gives it
abbrev pub is_outer : Node → Bool
is_outer (Outer n i) = true
is_outer (Inner n i p) = false
is_outer (Fixed b) = false

-- the controls of strategies and of switches are net bits or constants
pub record HasControlsInside (p : Project) : Type 0 where
  pub strategies : (t : ℕ) (x : Strategy) (k : Node) → slice_get p.intent.strategies t ≡ Some x → x.control ≡ Some k → is_outer k ≡ false
  pub switches : (o input : ℕ) (k : Node) (high : Bool) → slice_get (network_of p).origins o ≡ Some (FromSwitch input k high) → is_outer k ≡ false

-- ---- what readers give

-- of netlists: no name is declared twice (F12), and what is joined or assigned is declared, else by its use
pub record IsReadNetlist (s : Structure) : Type 0 where
  pub names_apart : IsTrue (has_names_apart s.modules)
  pub declared : (q : Path) (m : ModuleView) (b : BitView) → module_at s q ≡ Some m → IsIn b (joined_bits m) → IsDeclared q m b
  pub assigned : (q : Path) (m : ModuleView) (a : AssignView) (b : BitView) → module_at s q ≡ Some m → IsIn a m.assigns → IsIn b a.right → IsDeclared q m b

pub record IsRead (p : Project) : Type 0 where
  pub netlist : IsReadNetlist p.structure
  -- of libraries: each cell that can be used is sound
  pub library : (c : CellView) → IsIn c p.structure.cells → c.unusable ≡ None → IsSoundCell c
  -- of power intent: inputs of switches lead to ports (F39), states and rows are within their limits (F43), and control names give net bits
  pub network : IsNetwork p.supplies
  pub controls : HasControlsInside p

-- ---- lines of the table

-- so many reads go from key to key at most where none comes again: nodes and origins
abbrev pub loop_steps : Project → ℕ
loop_steps p = length (nodes_of p.structure) + length (network_of p).origins

-- the lines that bear on values hold nowhere; the numbers of the commands that made the switches are given by their origins
pub record HasNoFault (p : Project) (switch_command : ℕ → ℕ) : Type 0 where
  -- F21, F22 and F23
  pub no_loop : first_of (loop p (loop_steps p)) ≡ None
  pub within_limits : first_of (netlist_limits p.structure) ≡ None
  pub no_wire_loop : first_of (wire_loop p.structure) ≡ None
  -- F40
  pub states : first_of (no_states p.supplies) ≡ None
  -- F54 (with F55) and F59
  pub levels : first_of (uncovered_level p) ≡ None
  pub control_levels : first_of (control_level p switch_command) ≡ None
  -- F61 and F66
  pub cells_fit : first_of (unfit_cell p.structure) ≡ None
  pub unfit_power : first_of (unfit_power p) ≡ None
