-- Operators stand at their bits, those before the edge come first, and their ways lead from bit to bit.
use Rattle.std.proofs.Common.{◌≡◌, ℕ, Some, ap, ◌∙◌}
use Rattle.lp_spec_design.specs.Keys.{same_way, From}
use Rattle.lp_spec_design.specs.Netlists.{Structure, first}
use Rattle.lp_spec_design.specs.Graph.{source_of}
use Rattle.lp_spec_design.specs.Domains.{BoundaryBit, boundary, way_of, node_before}
use Rattle.lp_spec_design.specs.Chains.{bit_of_way}
use Rattle.lp_spec_design.specs.Settled.{rail_of}
use Rattle.lp_spec_design.specs.Winners.{IsIn}
use Rattle.lp_spec_design.proofs.Sources.{first_in}
use Rattle.lp_spec_realises.specs.Projects.{Project, network_of, design_of}
use Rattle.lp_spec_realises.specs.Operators.{chain_of}
use Rattle.lp_spec_realises.specs.Implements.{Lists}
use Rattle.lp_spec_faultless.specs.Faults.{IsRead}
use Rattle.lp_spec_voltages.proofs.Chains.{stands-at}
use Rattle.lp_spec_voltages.proofs.Roots.{slice-in}
use Rattle.lp_spec_written.specs.Places.{Standing, plan}
use Rattle.lp_spec_written.specs.Written.{additions}
use Rattle.lp_spec_hub.specs.Drives.{start_of, comes_from}
use Rattle.lp_spec_hub.specs.Entries.{IsInFlow, HasWaysApart, HasWaysFromBits}
use Rattle.lp_spec_hub.specs.Laws.{CellsAreThere, PlanIsInFlow, StandsNear, WaysApart, WaysFromBits}
use Rattle.lp_spec_wired.proofs.Chains.{way-true, boundary-port}
use Rattle.lp_spec_written_at.proofs.Instances.{bit-module}
use Rattle.lp_spec_written_at.proofs.Lists.{some-first}
use Rattle.lp_spec_written_at.proofs.Stands.{way-self}
use Rattle.lp_spec_driven.specs.Wires.{IsFreeNode}
use Rattle.lp_spec_driven.specs.Sound.{node_behind, node_ahead, IsOnWays, ComesFrom}
use Rattle.lp_spec_proper.specs.Insertable.{IsInsertable, IsWithinLimits}
use Rattle.lp_spec_proper.specs.Laws.{AdditionsStandOnWays, WaysComeFromThere}
use Rattle.lp_spec_proper.proofs.Base.{some-is, free-node}
use Rattle.lp_spec_proper.proofs.Named.{one-bit}
use Rattle.lp_spec_proper.proofs.FitCells.{is-planned}
use Rattle.lp_spec_proper.proofs.Asked.{bit-ends}
use Rattle.lp_spec_proper.proofs.Edges.{leads-so}

module _ (p : Project) (l : Lists) (switch_command : ℕ → ℕ) (read : IsRead p) (good : IsInsertable p l switch_command) (within : IsWithinLimits p l) where
  abbrev s : Structure
  s = p.structure

  its-bit : (o : Standing) → IsIn o (plan p l).operators → IsIn o.asked.bit (boundary s p.intent)
  its-bit o h = (stands-at p o.asked (is-planned p l o h).listed).0

  leads : (o : Standing) → IsIn o (plan p l).operators → source_of s (node_behind s o.asked.bit) ≡ Some (From (way_of o.asked.bit) (node_ahead s o.asked.bit))
  leads o h =
      let at = stands-at p o.asked (is-planned p l o h).listed in
      let end = bit-ends s (network_of p) p.intent o.asked.bit (rail_of (design_of p) (node_before s o.asked.bit)) o.asked.operator (slice-in (chain_of p o.asked.bit) o.asked.number o.asked.operator at.1) in
      let m = bit-module p o.asked.bit at.0 in
      leads-so s read.netlist.names_apart o.asked.bit m.inner m.at (boundary-port p o.asked.bit m.inner at.0 m.at) end.to end.from end.source

  ends : (o : Standing) → IsIn o (plan p l).operators → IsFreeNode (node_behind s o.asked.bit)
  ends o h = free-node p l switch_command read good within (node_behind s o.asked.bit) (From (way_of o.asked.bit) (node_ahead s o.asked.bit)) (leads o h)

  is-on-ways : IsInFlow (plan p l).operators → StandsNear → IsOnWays p (additions p l)
  is-on-ways flow near = record {
    flow = flow;
    near = λ o h. near p l o.asked o (is-planned p l o h).standing;
    leads = leads;
    ends = ends;
  }

  -- the bit of the way of a boundary bit is that bit
  bit-is : HasWaysApart p → (b : BoundaryBit) → IsIn b (boundary s p.intent) → bit_of_way s p.intent (way_of b) ≡ Some b
  bit-is ways b h =
      let t = λ (c : BoundaryBit). same_way (way_of c) (way_of b) in
      let found = some-is (first t (boundary s p.intent)) (some-first t b (boundary s p.intent) h (way-self b)) in
      let at = first_in t (boundary s p.intent) found.0 found.1 in
      found.1 ∙ ap (λ c. Some c) (one-bit p l switch_command read good within ways found.0 b at.0 h (way-true (way_of found.0) (way_of b) at.1))

  comes-so : HasWaysApart p → HasWaysFromBits p → ComesFrom p (additions p l) (comes_from p)
  comes-so ways from o h =
      let b : BoundaryBit = o.asked.bit in
      let is = bit-is ways b (its-bit o h) in
      ap (start_of s) is ∙ from (node_behind s b) (node_ahead s b) (way_of b) b (leads o h) is

pub on-ways-law : WaysApart → CellsAreThere → PlanIsInFlow → StandsNear → AdditionsStandOnWays
on-ways-law ways cells flow near p l switch_command read good within =
    is-on-ways p l switch_command read good within (flow p l good.locations (ways p read.netlist.names_apart) (cells p l good.cells)) near

pub comes-law : WaysApart → WaysFromBits → WaysComeFromThere
comes-law ways from p l switch_command read good within =
    comes-so p l switch_command read good within (ways p read.netlist.names_apart) (from p read.netlist.names_apart)
