-- Designs in which power intent inserts nothing and one supply serves everything (own rule).
use Rattle.std.specs.Prelude.{◌≡◌, ℕ, Bool, [], Option, Some, None, IsTrue, slice_get}
use Rattle.lp_model.specs.LibraryView.{CellView}
use Rattle.lp_spec_design.specs.Keys.{Name, Path, Node, Way, SwitchedPin}
use Rattle.lp_spec_design.specs.Netlists.{cell_at}
use Rattle.lp_spec_design.specs.Graph.{source_of}
use Rattle.lp_spec_design.specs.Intents.{SetNumber, SupplySet, FromPort, FromSwitch}
use Rattle.lp_spec_design.specs.Domains.{domain_of, primary_of, supply_of_port}
use Rattle.lp_spec_design.specs.Settled.{Design, set_at, operators_of}
use Rattle.lp_spec_design.specs.Registers.{retention}
use Rattle.lp_spec_plain.specs.Cells.{is_plain_cell}

-- the primary supply of an instance's domain
abbrev pub supply_at : Design → Path → Option SetNumber
supply_at d p = primary_of d.intent (domain_of d.intent p)

abbrev pub driver_of : Design → Name → Option SetNumber
driver_of d n = supply_of_port d.intent.drivers n (supply_at d [])

abbrev pub receiver_of : Design → Name → Option SetNumber
receiver_of d n = supply_of_port d.intent.receivers n (supply_at d [])

-- no way has an operator, no register is retained, nothing is switched, and every cell, driver and receiver has this one supply, whose power and ground come from ports
pub record IsPlain (d : Design) (one : SupplySet) : Type 0 where
  pub no_operator : (w : Way) (r : Option SetNumber) → operators_of d w r ≡ []
  pub no_retention : (p : Path) (x : Name) → retention d.intent p x ≡ None
  pub no_switch : (o input : ℕ) (control : Node) (high : Bool) → slice_get d.network.origins o ≡ Some (FromSwitch input control high) → ⊥
  pub no_switched_pin : (k : Node) (p : Path) (x g : Name) → source_of d.structure k ≡ Some (SwitchedPin p x g) → ⊥
  pub cells_supplied : (p : Path) → set_at d.network (supply_at d p) ≡ Some one
  pub drivers_supplied : (n : Name) → set_at d.network (driver_of d n) ≡ Some one
  pub receivers_supplied : (n : Name) → set_at d.network (receiver_of d n) ≡ Some one
  pub power_port : slice_get d.network.origins one.power ≡ Some FromPort
  pub ground_port : slice_get d.network.origins one.gnd ≡ Some FromPort
  pub cells_plain : (p : Path) (x : Name) (c : CellView) → cell_at d.structure p x ≡ Some c → IsTrue (is_plain_cell c)
