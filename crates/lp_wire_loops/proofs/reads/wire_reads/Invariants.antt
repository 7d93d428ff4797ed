use Rattle.std.proofs.Common.{◌≡◌, ◌++◌, drop}
use Rattle.lp_wire_loops.specs.Reads.{wire_reads}
use Rattle.lp_wire_loops.proofs.reads.wire_reads.Given as goal

abbrev pub invariant-loop-node : goal.invariant-loop-node
invariant-loop-node l = l.graph ++ wire_reads l.edges (drop l.node-index l.nodes) ≡ wire_reads l.edges l.nodes
