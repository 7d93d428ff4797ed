-- A number for each wire that falls along what drives it from another wire.
use Rattle.std.proofs.Common.{◌≡◌, ◌<◌, ℕ, suc, ◌+◌, ◌-◌, true, length, Option, Some, None}
use Rattle.std.specs.Prelude.{slice_get, if◌then◌else◌}
use Rattle.lp_spec_design.specs.Keys.{Path, Node, Way}
use Rattle.lp_spec_design.specs.Nodes.{fuel_of, HasFuel}
use Rattle.lp_spec_design.specs.Graph.{trail}
use Rattle.lp_spec_design.specs.Netlists.{Structure}
use Rattle.lp_spec_design.specs.Intents.{Origin, FromPort, FromSwitch}
use Rattle.lp_spec_design.specs.Registers.{is_above}
use Rattle.lp_spec_realises.specs.Projects.{Project, network_of}
use Rattle.lp_spec_written.specs.Places.{Switching}
use Rattle.lp_spec_written.specs.Supplies.{switch_of}
use Rattle.lp_spec_written.specs.Routes.{Kind, PortOut, Between, PortIn}
use Rattle.lp_spec_written.specs.Written.{Additions}
use Rattle.lp_spec_hub.specs.Spots.{Spot, OfNode, Behind, Before, Lead, Carried, Routed}
use Rattle.lp_spec_hub.specs.Drives.{own_instance}
use Rattle.lp_spec_wires.specs.Standing.{is_wire}

-- so many ways lead to a net bit of the source
abbrev pub node_rank : Structure → Node → ℕ
node_rank s k = length (trail s (fuel_of s) k)

-- up from the switch, and from there down
abbrev pub switch_rank : Path → Path → ℕ
switch_rank scope x = if is_above x scope then length scope - length x else suc (length scope + length x)

abbrev pub supply_rank : Option Origin → Option Switching → Path → ℕ
supply_rank None r x = 0
supply_rank (Some FromPort) r x = length x
supply_rank (Some (FromSwitch input control high)) None x = 0
supply_rank (Some (FromSwitch input control high)) (Some r) x = switch_rank r.path x

-- up from the control, a port one more than a wire, and from there down
abbrev pub part_rank : ℕ → Path → Path → Kind → ℕ
part_rank n own x PortOut = n + suc ((length own - length x) + (length own - length x))
part_rank n own x Between = n + ((length own - length x) + (length own - length x))
part_rank n own x PortIn = n + suc (suc (length own + length own) + length x)

abbrev pub rank : Project → Additions → (Way → Node) → Spot → ℕ
rank p a from (OfNode k) = node_rank p.structure k
rank p a from (Behind w k) = 0
rank p a from (Before w k) = suc (node_rank p.structure (from w))
rank p a from (Lead w) = suc (node_rank p.structure (from w))
rank p a from (Carried o x) = supply_rank (slice_get (network_of p).origins o) (switch_of a.plan o) x
rank p a from (Routed t) = part_rank (node_rank p.structure t.control) (own_instance t.control) t.path t.kind

-- from a wire to a wire that drives it
pub record Step (p : Project) (a : Additions) (from : Way → Node) (x y : Spot) : Type 0 where
  pub wire : is_wire p a from y ≡ true
  pub falls : HasFuel p.structure → rank p a from y < rank p a from x
