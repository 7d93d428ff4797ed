use Rattle.std.proofs.Common.{◌≡◌, ◌++◌, drop, map}
use Rattle.std.specs.List.{flat_map}
use Rattle.lp_model.specs.NetlistView.{port_view}
use Rattle.lp_vwrite.specs.Layout.{after_comma, name_text}
use Rattle.lp_vwrite.proofs.module.put_more_port_names.Given as goal

abbrev pub invariant-loop-port : goal.invariant-loop-port
invariant-loop-port l = l.out.items ++ flat_map (after_comma (λ p. name_text p.name)) (map (port_view l.names) (drop l.port-index l.ports)) ≡ l.fn.out.items ++ flat_map (after_comma (λ p. name_text p.name)) (map (port_view l.names) l.ports)
