use Rattle.std.proofs.Common.{◌≡◌, map, drop}
use Rattle.lp_node_text.specs.Numbered.{port_declared, bit_from}
use Rattle.lp_node_text.proofs.bits.port_bit.Given as goal

abbrev pub invariant-loop-port : goal.invariant-loop-port
invariant-loop-port l = bit_from (map port_declared (drop l.port-index l.ports)) l.rest ≡ bit_from (map port_declared l.ports) l.place
