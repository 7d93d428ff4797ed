use Rattle.std.proofs.Common.{◌≡◌, take}
use Rattle.lp_connections.specs.Parts.{port_names}
use Rattle.lp_connections.proofs.design.port_row.Given as goal

abbrev pub invariant-loop-port : goal.invariant-loop-port
invariant-loop-port l = l.numbers.items ≡ port_names (take l.port-index l.ports)
