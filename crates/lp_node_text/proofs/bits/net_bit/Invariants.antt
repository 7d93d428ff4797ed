use Rattle.std.proofs.Common.{◌≡◌, map, drop}
use Rattle.lp_node_text.specs.Numbered.{net_declared, bit_from}
use Rattle.lp_node_text.proofs.bits.net_bit.Given as goal

abbrev pub invariant-loop-net : goal.invariant-loop-net
invariant-loop-net l = bit_from (map net_declared (drop l.net-index l.nets)) l.rest ≡ bit_from (map net_declared l.nets) l.place
