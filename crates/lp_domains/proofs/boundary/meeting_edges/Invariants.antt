use Rattle.std.proofs.Common.{◌≡◌, ◌++◌, drop}
use Rattle.lp_domains.specs.Boundary.{meeting_edges}
use Rattle.lp_domains.proofs.boundary.meeting_edges.Given as goal

abbrev pub invariant-loop-edge : goal.invariant-loop-edge
invariant-loop-edge l = l.flags ++ meeting_edges l.told l.nodes (drop l.edge-index l.edges) ≡ meeting_edges l.told l.nodes l.edges
