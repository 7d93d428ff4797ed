-- What the laws of this crate ask of a written netlist and of what is written (own rule).
use Rattle.std.specs.Prelude.{◌≡◌, ℕ, true, Some, None, Option, is_some, slice_get}
use Rattle.lp_model.specs.NetlistView.{PortView, InstanceView, ModuleView}
use Rattle.lp_model.specs.LibraryView.{CellView}
use Rattle.lp_spec_design.specs.Keys.{Path}
use Rattle.lp_spec_design.specs.Netlists.{Structure, cell_named, module_at}
use Rattle.lp_spec_design.specs.Nodes.{HasFuel}
use Rattle.lp_spec_design.specs.Intents.{SupplySet}
use Rattle.lp_spec_design.specs.Chains.{Clamp}
use Rattle.lp_spec_design.specs.Winners.{IsIn}
use Rattle.lp_spec_realises.specs.Projects.{Project, network_of}
use Rattle.lp_spec_realises.specs.ProjectNetlists.{are_apart}
use Rattle.lp_spec_realises.specs.Operators.{OperatorAt, all_operators, SwitchAt, all_switches}
use Rattle.lp_spec_realises.specs.Realises.{outer_supply}
use Rattle.lp_spec_realises.specs.Tops.{top_ports}
use Rattle.lp_spec_faults.specs.Lines.{first_of}
use Rattle.lp_spec_faults.specs.Modules.{unfit_cell}
use Rattle.lp_spec_faults.specs.Readings.{unfit_power}
use Rattle.lp_spec_realises.specs.Implements.{Lists}
use Rattle.lp_spec_written.specs.Routes.{Route, routes, enable_of}
use Rattle.lp_spec_hub.specs.Entries.{is_control}
use Rattle.lp_spec_written.specs.Places.{Standing, Switching, plan}
use Rattle.lp_spec_written.specs.Written.{additions}
use Rattle.lp_spec_hub.specs.Drives.{comes_from, drive}
use Rattle.lp_spec_hub.specs.Begins.{IsClosed}
use Rattle.lp_spec_hub.specs.Whole.{IsOrderly}
use Rattle.lp_spec_wired.specs.Contents.{IsWrittenAt}
use Rattle.lp_spec_wired.specs.Laws.{done_of}
use Rattle.lp_spec_written.specs.Supplies.{Use, uses, cell_for}
use Rattle.lp_spec_written_at.specs.Sources.{HasFewAdditions, HasControls, cell_names, HasFreePins}
use Rattle.lp_spec_driven.specs.Sound.{IsProper}
use Rattle.lp_spec_wires.specs.Standing.{is_wire, AllStand}

-- a netlist has the written content of a project that is proper, each of its wires stands and comes from one that does,
-- and no way back is longer than there are nodes
pub record HasWires (p : Project) (l : Lists) (w : Structure) : Type 0 where
  pub content : IsWrittenAt p (additions p l) w
  pub order : IsOrderly p l
  pub proper : IsProper p (additions p l) (comes_from p)
  pub stand : AllStand p (additions p l) w (comes_from p)
  pub closed : IsClosed (drive p (done_of (additions p l)) (comes_from p)) (is_wire p (additions p l) (comes_from p))
  pub fuel : HasFuel w

-- what is added is not too much, and pins of cells have names of their own: each cell instance of the source has its pins
-- free, by its own cell or by the one that takes its place
pub record HasPins (p : Project) (l : Lists) : Type 0 where
  pub few : HasFewAdditions p l
  pub own :
      (x : Path) (m : ModuleView) (y : InstanceView) (source c : CellView)
      → module_at p.structure x ≡ Some m
      → IsIn y m.instances
      → cell_named p.structure y.target ≡ Some source
      → cell_for p (plan p l) (record { path = x; instance = y.name }) ≡ Some c
      → HasFreePins p l x y c
  pub operators : (o : Standing) → IsIn o (plan p l).operators → are_apart (cell_names o.cell) ≡ true
  pub switches : (s : Switching) → IsIn s (plan p l).switches → are_apart (cell_names s.cell) ≡ true

-- what is led to pins: controls of strategies are declared, none that is led is the outer side of a port, each clamp has one,
-- and switches have scopes
pub record HasControlNets (p : Project) (l : Lists) : Type 0 where
  pub declared : HasControls p
  pub inside : (r : Route) → IsIn r (routes p (plan p l)) → is_control r.0 ≡ true
  pub enables : (q : OperatorAt) (t i : ℕ) → IsIn q (all_operators p) → q.operator ≡ Clamp t i → is_some (enable_of p q.operator) ≡ true
  pub scopes : (x : SwitchAt) → IsIn x (all_switches p) → is_some (module_at p.structure (l.scope_of_switch x.origin)) ≡ true

-- a supply set is there, and so are its origins
abbrev pub HasOrigins : Project → Option SupplySet → Type 0
HasOrigins p None = ⊥
HasOrigins p (Some s) = (is_some (slice_get (network_of p).origins s.power) ≡ true) × (is_some (slice_get (network_of p).origins s.gnd) ≡ true)

-- supplies: the source has no unfit cell (F61) and none that is lost otherwise than with the primary supply of its domain (F66),
-- what pins are joined to are origins, the environment's side of each port of the top has a supply, and switches have scopes
pub record HasSupplies (p : Project) (l : Lists) : Type 0 where
  pub cells_fit : first_of (unfit_cell p.structure) ≡ None
  pub unfit_power : first_of (unfit_power p) ≡ None
  pub joined : (u : Use) → IsIn u (uses p (plan p l)) → is_some (slice_get (network_of p).origins u.1) ≡ true
  pub outer : (q : PortView) → IsIn q (top_ports p.structure) → HasOrigins p (outer_supply p q)
  pub scopes : (x : SwitchAt) → IsIn x (all_switches p) → is_some (module_at p.structure (l.scope_of_switch x.origin)) ≡ true
