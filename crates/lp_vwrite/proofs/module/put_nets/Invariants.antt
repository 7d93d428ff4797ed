use Rattle.std.proofs.Common.{◌≡◌, ◌++◌, drop, map}
use Rattle.std.specs.List.{flat_map}
use Rattle.lp_model.specs.NetlistView.{net_view}
use Rattle.lp_vwrite.specs.Layout.{net_line}
use Rattle.lp_vwrite.proofs.module.put_nets.Given as goal

abbrev pub invariant-loop-net : goal.invariant-loop-net
invariant-loop-net l = l.out.items ++ flat_map net_line (map (net_view l.names) (drop l.net-index l.nets)) ≡ l.fn.out.items ++ flat_map net_line (map (net_view l.names) l.nets)
