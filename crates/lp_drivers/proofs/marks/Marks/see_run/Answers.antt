use Rattle.std.proofs.Common.{◌≤◌, ◌<◌, ◌+◌, ◌-◌, ◌≡◌, sym, ap, ◌∙◌, subst, arith}
use Rattle.lp_spec_design.specs.Netlists.{upward}
use Rattle.lp_drivers.specs.Seen.{Seen, see_all}
use Rattle.lp_drivers.proofs.Running.{see-next, see-stop, see-end}
use Rattle.lp_drivers.proofs.marks.Marks.see_run.Goals as goal

pub loop-place-init : goal.loop-place-init
loop-place-init c =
    let size : c.args.to - c.args.to ≡ 0 = omega arith in
    ap (λ n. see_all c.args.self.now (upward n c.args.to)) (sym size)

pub loop-place-preserved : goal.loop-place-preserved
loop-place-preserved c =
    c.meet.ensures
    ∙ see-next c.args.self.now c.loop-place.self c.args.to c.loop-place.place c.loop-place.auto.place c.loop-place.invariant (subst (λ (m : Seen). c.loop-place.place < m.0) c.self.view_is c.if-self-place.false)

pub returns-then-self-place : goal.returns-then-self-place
returns-then-self-place c =
    see-stop c.args.self.now c.loop-place.self c.args.to c.args.count c.loop-place.place c.loop-place.auto.place (omega (arith, c.loop-place-test.true)) c.loop-place.invariant (subst (λ (m : Seen). m.0 ≤ c.loop-place.place) c.self.view_is c.if-self-place.true)

pub returns : goal.returns
returns c =
    let high : c.loop-place.place ≤ c.args.to + c.args.count = c.loop-place.auto.place-end (omega arith) in
    let at : c.loop-place.place ≡ c.args.to + c.args.count = omega (arith, high, c.loop-place-test.false) in
    see-end c.args.self.now c.loop-place.self c.args.to c.args.count c.loop-place.place at c.loop-place.invariant
