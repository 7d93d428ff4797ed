use Rattle.std.proofs.Common.{◌≡◌, ◌++◌, map, take}
use Rattle.lp_plain_index.proofs.nets.add_nets.Given as goal

abbrev pub invariant-loop-net : goal.invariant-loop-net
invariant-loop-net l = l.places ≡ l.fn.places ++ map (λ n. n.name.0) (take l.net-index l.nets)
