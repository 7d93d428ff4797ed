use Rattle.std.proofs.Common.{◌≡◌, ◌≤◌, drop, length}
use Rattle.std.specs.Prelude.{flat_map}
use Rattle.lp_text.specs.Texts.{text_at}
use Rattle.lp_model.specs.Bits.{between, run_bits}
use Rattle.lp_model.specs.NetlistView.{bits_view}
use Rattle.lp_vwrite.specs.Layout.{are_bits}
use Rattle.lp_vwrite.proofs.bits.are_bits.Given as goal

abbrev pub invariant-loop-run : goal.invariant-loop-run
invariant-loop-run l =
    (l.done ≤ length (between l.range.left l.range.right))
    × (are_bits (text_at l.names l.name.0) (drop l.done (between l.range.left l.range.right)) (bits_view l.names (flat_map run_bits (drop l.run-index l.runs))) ≡ are_bits (text_at l.names l.name.0) (between l.range.left l.range.right) (bits_view l.names (flat_map run_bits l.runs)))
