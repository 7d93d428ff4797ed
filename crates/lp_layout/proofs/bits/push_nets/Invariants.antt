use Rattle.std.proofs.Common.{◌≡◌, ◌++◌, map, drop}
use Rattle.lp_layout.specs.Labels.{net_names}
use Rattle.lp_layout.specs.Nodes.{named_at}
use Rattle.lp_layout.proofs.bits.push_nets.Given as goal

abbrev pub invariant-loop-net : goal.invariant-loop-net
invariant-loop-net l = l.nodes ++ map (named_at l.inst) (net_names (drop l.net-index l.nets)) ≡ l.fn.nodes ++ map (named_at l.inst) (net_names l.nets)
