use Rattle.std.proofs.Common.{false, map, get_or, ap, ◌∙◌}
use Rattle.std.proofs.lemmas.Option.{slice_get-get_or}
use Rattle.lp_layout.specs.Held.{held_feed}
use Rattle.lp_layout.specs.Wires.{fed}
use Rattle.lp_layout.specs.Fed.{placed_pin}
use Rattle.lp_layout.proofs.Fed.{row_more}
use Rattle.lp_layout.proofs.pins.drive_row.Goals as goal

pub loop-pin-preserved : goal.loop-pin-preserved
loop-pin-preserved c =
    let k = c.loop-pin.pin in
    let b = get_or c.args.drives.now c.loop-pin.pin false in
    row_more c.loop-pin.wires c.drive_at.new.wires c.args.drives.now c.args.start c.args.leaf c.args.row.now k b (slice_get-get_or c.args.drives.now k false c.loop-pin-test.true)
    (c.drive_at.ensures ∙ ap (λ o. fed c.loop-pin.wires (map held_feed (placed_pin c.args.start c.args.leaf k b o))) c.at.ensures) c.loop-pin.invariant
