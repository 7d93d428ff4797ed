use Rattle.std.proofs.Common.{◌≡◌, ◌++◌, map, drop}
use Rattle.lp_layout.specs.Labels.{port_names}
use Rattle.lp_layout.specs.Nodes.{named_at}
use Rattle.lp_layout.proofs.bits.push_ports.Given as goal

abbrev pub invariant-loop-port : goal.invariant-loop-port
invariant-loop-port l = l.nodes ++ map (named_at l.inst) (port_names (drop l.port-index l.ports)) ≡ l.fn.nodes ++ map (named_at l.inst) (port_names l.ports)
