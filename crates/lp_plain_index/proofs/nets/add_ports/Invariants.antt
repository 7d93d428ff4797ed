use Rattle.std.proofs.Common.{◌≡◌, ◌++◌, map, take}
use Rattle.lp_plain_index.proofs.nets.add_ports.Given as goal

abbrev pub invariant-loop-port : goal.invariant-loop-port
invariant-loop-port l = l.places ≡ l.fn.places ++ map (λ p. p.name.0) (take l.port-index l.ports)
