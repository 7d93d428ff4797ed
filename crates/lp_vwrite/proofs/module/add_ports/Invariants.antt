use Rattle.std.proofs.Common.{◌≡◌, ◌++◌, ℕ, List, drop, map}
use Rattle.lp_model.specs.NetlistView.{port_view}
use Rattle.lp_vwrite.specs.Layout.{range_in, vectors_among}
use Rattle.lp_vwrite.proofs.module.add_ports.Given as goal

abbrev pub invariant-loop-port : goal.invariant-loop-port
invariant-loop-port l =
    (t : List ℕ) → range_in (l.vectors ++ vectors_among (map (λ p. (p.name, p.range)) (map (port_view l.names) (drop l.port-index l.ports)))) t ≡ range_in (l.fn.vectors ++ vectors_among (map (λ p. (p.name, p.range)) (map (port_view l.names) l.ports))) t
