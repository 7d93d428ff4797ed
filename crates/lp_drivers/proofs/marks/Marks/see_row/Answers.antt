use Rattle.std.proofs.Common.{◌<◌, length, get_or, ap, ◌∙◌, arith}
use Rattle.lp_model.specs.declared.graph.PinNet.TheVariants.{Unconnected}
use Rattle.lp_drivers.specs.Seen.{see_all}
use Rattle.lp_drivers.specs.Cells.{place_at_pin}
use Rattle.lp_drivers.proofs.Joined.{no-pins-seen, see-pin}
use Rattle.lp_drivers.proofs.marks.Marks.see_row.Goals as goal

pub loop-pin-init : goal.loop-pin-init
loop-pin-init c = no-pins-seen c.args.self.now c.args.drives.now

pub loop-pin-preserved : goal.loop-pin-preserved
loop-pin-preserved c =
    let row = c.args.row.now in
    let low : c.loop-pin.pin < length row = omega (arith, c.loop-pin-test.true) in
    see-pin c.args.self.now c.loop-pin.self c.see_pin.new.self c.args.drives.now row c.loop-pin.pin Unconnected low c.loop-pin.invariant
    (c.see_pin.ensures ∙ ap (λ d. see_all c.loop-pin.self (place_at_pin d (get_or c.args.row.now c.loop-pin.pin Unconnected))) (c.copied.ensures ∙ c.at.ensures))
