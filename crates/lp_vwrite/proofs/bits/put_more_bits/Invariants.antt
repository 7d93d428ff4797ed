use Rattle.std.proofs.Common.{◌≡◌, ◌++◌, length, map}
use Rattle.std.specs.List.{flat_map}
use Rattle.lp_model.specs.NetlistView.{bit_view}
use Rattle.lp_vwrite.specs.Layout.{after_comma, bit_text}
use Rattle.lp_vwrite.proofs.bits.put_more_bits.Given as goal

abbrev pub invariant-loop-bit : goal.invariant-loop-bit
invariant-loop-bit l = l.out.items ++ flat_map (after_comma bit_text) (map (bit_view l.names) l.walk) ≡ l.fn.out.items ++ flat_map (after_comma bit_text) (map (bit_view l.names) l.fn.walk)

abbrev pub decreases-loop-bit : goal.decreases-loop-bit
decreases-loop-bit l = length l.walk
