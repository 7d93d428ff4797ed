use Rattle.std.proofs.Common.{◌≡◌, ◌++◌, ℕ, List, drop, map}
use Rattle.lp_model.specs.NetlistView.{net_view}
use Rattle.lp_vwrite.specs.Layout.{range_in, vectors_among}
use Rattle.lp_vwrite.proofs.module.add_nets.Given as goal

abbrev pub invariant-loop-net : goal.invariant-loop-net
invariant-loop-net l =
    (t : List ℕ) → range_in (l.vectors ++ vectors_among (map (λ n. (n.name, n.range)) (map (net_view l.names) (drop l.net-index l.nets)))) t ≡ range_in (l.fn.vectors ++ vectors_among (map (λ n. (n.name, n.range)) (map (net_view l.names) l.nets))) t
