-- Where the wires begin once the whole plan is done: where the definition of realised netlists says (own rule).
use Rattle.std.specs.Prelude.{◌≡◌, ℕ, true, Some, None, slice_get}
use Rattle.lp_spec_design.specs.Keys.{Node, Way}
use Rattle.lp_spec_design.specs.Netlists.{Structure}
use Rattle.lp_spec_design.specs.Nodes.{HasFuel}
use Rattle.lp_spec_design.specs.Intents.{Origin}
use Rattle.lp_spec_design.specs.Domains.{BoundaryBit}
use Rattle.lp_spec_design.specs.Winners.{IsIn}
use Rattle.lp_spec_design.specs.Chains.{bit_of_way}
use Rattle.lp_spec_realises.specs.Projects.{Project, network_of}
use Rattle.lp_spec_realises.specs.ProjectNetlists.{has_names_apart}
use Rattle.lp_spec_realises.specs.Operators.{Placement}
use Rattle.lp_spec_realises.specs.Ends.{End, intended}
use Rattle.lp_spec_realises.specs.Realises.{data_intended, origin_end}
use Rattle.lp_spec_realises.specs.Implements.{Lists}
use Rattle.lp_spec_faults.specs.Lines.{first_of}
use Rattle.lp_spec_faults.specs.Readings.{no_cell}
use Rattle.lp_spec_faults.specs.Strategies.{location_order}
use Rattle.lp_spec_written.specs.Places.{Standing, plan}
use Rattle.lp_spec_written.specs.Supplies.{Use, uses}
use Rattle.lp_spec_written.specs.Routes.{Route, routes, parts}
use Rattle.lp_spec_hub.specs.Spots.{Spot, OfNode, Carried, Done, all_done, on_way}
use Rattle.lp_spec_hub.specs.Drives.{comes_from, control_spot, drive, read_by}
use Rattle.lp_spec_hub.specs.Begins.{Begin, EndsAt, end_of}
use Rattle.lp_spec_hub.specs.Entries.{is_control}

-- names stand apart (F12), no way comes back to where it began (F23), nothing lacks a cell (F60), and each upper part has an order of locations (F57)
pub record IsOrderly (p : Project) (l : Lists) : Type 0 where
  pub names : has_names_apart p.structure.modules ≡ true
  pub fuel : HasFuel p.structure
  pub cells : first_of (no_cell p l) ≡ None
  pub locations : first_of (location_order p) ≡ None

-- a wire begins there, as an end of a netlist with these cells for the operators and switches
pub record BeginsAt (p : Project) (a : Done) (w : Structure) (at : Placement) (x : Spot) (e : End) : Type 0 where
  pub begin : Begin
  pub ends : EndsAt (drive p a (comes_from p)) x begin
  pub is : end_of p w at begin ≡ e

-- net bits of the source, what operators read, controls where they are read, and origins where they are used
pub record BeginAsTheyShould (p : Project) (l : Lists) (w : Structure) (at : Placement) : Type 0 where
  pub nodes : (k : Node) → BeginsAt p (all_done p l) w at (OfNode k) (intended p w at k)
  pub readings :
      (v : Way) (b : BoundaryBit) (k : ℕ) (o : Standing)
      → bit_of_way p.structure p.intent v ≡ Some b
      → slice_get (on_way (plan p l).operators v) k ≡ Some o
      → BeginsAt p (all_done p l) w at (read_by v (comes_from p v) k o) (data_intended p w at o.asked)
  pub controls :
      (r : Route)
      → IsIn r (routes p (plan p l))
      → is_control r.0 ≡ true
      → BeginsAt p (all_done p l) w at (control_spot (parts p (plan p l)) r.0 r.1) (intended p w at r.0)
  pub supplies :
      (u : Use) (origin : Origin)
      → IsIn u (uses p (plan p l))
      → slice_get (network_of p).origins u.1 ≡ Some origin
      → BeginsAt p (all_done p l) w at (Carried u.1 u.0) (origin_end p w at u.1)
