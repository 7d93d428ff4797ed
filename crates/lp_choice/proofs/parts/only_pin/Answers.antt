use Rattle.std.proofs.Common.{sym, ap, ◌∙◌}
use Rattle.lp_spec_pins.specs.Pins.{only}
use Rattle.lp_choice.specs.Parts.{has_part}
use Rattle.lp_choice.proofs.Slots.{position-slot, no-slot, two-pass, one-passes}
use Rattle.lp_choice.proofs.parts.only_pin.Goals as goal

pub returns-in-None : goal.returns-in-None
returns-in-None c =
    let p = has_part c.args.part in
    sym (ap only (no-slot p c.args.pins.now (sym (position-slot p c.args.pins.now) ∙ (sym c.first_of.ensures.first ∙ c.in-None.is))))

pub returns-then-is_there : goal.returns-then-is_there
returns-then-is_there c =
    sym (two-pass (has_part c.args.part) c.args.pins.now c.in-Some.first (sym c.first_of.ensures.first ∙ c.in-Some.is) c.index-pins-first.result c.index-pins-first.is (sym c.is_there.ensures ∙ c.if-is_there.true))

pub returns-else-is_there : goal.returns-else-is_there
returns-else-is_there c =
    sym (one-passes (has_part c.args.part) c.args.pins.now c.in-Some.first (sym c.first_of.ensures.first ∙ c.in-Some.is) c.index-pins-first.result c.index-pins-first.is (sym c.is_there.ensures ∙ c.if-is_there.false))
