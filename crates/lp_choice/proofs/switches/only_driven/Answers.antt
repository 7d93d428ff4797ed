use Rattle.std.proofs.Common.{sym, ap, ◌∙◌}
use Rattle.lp_spec_pins.specs.Pins.{only}
use Rattle.lp_choice.specs.Switches.{is_driven}
use Rattle.lp_choice.proofs.Slots.{position-slot, no-slot, two-pass, one-passes}
use Rattle.lp_choice.proofs.switches.only_driven.Goals as goal

pub returns-in-None : goal.returns-in-None
returns-in-None c =
    let p = is_driven in
    sym (ap only (no-slot p c.args.pgs.now (sym (position-slot p c.args.pgs.now) ∙ (sym c.first_driven.ensures.first ∙ c.in-None.is))))

pub returns-then-is_some_driven : goal.returns-then-is_some_driven
returns-then-is_some_driven c =
    sym (two-pass is_driven c.args.pgs.now c.in-Some.first (sym c.first_driven.ensures.first ∙ c.in-Some.is) c.index-pgs-first.result c.index-pgs-first.is (sym c.is_some_driven.ensures ∙ c.if-is_some_driven.true))

pub returns-else-is_some_driven : goal.returns-else-is_some_driven
returns-else-is_some_driven c =
    sym (one-passes is_driven c.args.pgs.now c.in-Some.first (sym c.first_driven.ensures.first ∙ c.in-Some.is) c.index-pgs-first.result c.index-pgs-first.is (sym c.is_some_driven.ensures ∙ c.if-is_some_driven.false))
