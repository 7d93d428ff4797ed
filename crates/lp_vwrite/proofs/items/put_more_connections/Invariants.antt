use Rattle.std.proofs.Common.{◌≡◌, ◌++◌, drop, map}
use Rattle.std.specs.List.{flat_map}
use Rattle.lp_model.specs.NetlistView.{connection_view}
use Rattle.lp_vwrite.specs.Layout.{after_comma, connection_text, range_in}
use Rattle.lp_vwrite.proofs.items.put_more_connections.Given as goal

abbrev pub invariant-loop-connection : goal.invariant-loop-connection
invariant-loop-connection l = l.out.items ++ flat_map (after_comma (connection_text (range_in l.vectors))) (map (connection_view l.names) (drop l.connection-index l.connections)) ≡ l.fn.out.items ++ flat_map (after_comma (connection_text (range_in l.vectors))) (map (connection_view l.names) l.connections)
