use Rattle.std.proofs.Common.{◌≡◌, ◌++◌, drop, map}
use Rattle.std.specs.List.{flat_map}
use Rattle.lp_model.specs.NetlistView.{bits_view}
use Rattle.lp_vwrite.specs.Layout.{after_comma, value_text, range_in}
use Rattle.lp_vwrite.proofs.items.put_more_values.Given as goal

abbrev pub invariant-loop-value : goal.invariant-loop-value
invariant-loop-value l = l.out.items ++ flat_map (after_comma (value_text (range_in l.vectors))) (map (bits_view l.names) (drop l.value-index l.values)) ≡ l.fn.out.items ++ flat_map (after_comma (value_text (range_in l.vectors))) (map (bits_view l.names) l.values)
