use Rattle.std.proofs.Common.{◌≤◌, length, ap, ◌∙◌, arith}
use Rattle.lp_drivers.specs.Seen.{none_seen, see_all}
use Rattle.lp_spec_drivers.specs.Drivers.{joint_places}
use Rattle.lp_drivers.proofs.Joined.{seen-statement, seen-assigns}
use Rattle.lp_drivers.proofs.seen.seen_of.Goals as goal

pub loop-place-preserved : goal.loop-place-preserved
loop-place-preserved c =
    seen-statement (none_seen c.args.count) c.loop-place.marks c.see_at.new.self c.args.cells.now c.args.template.now.statements c.loop-place.place c.loop-place.invariant c.see_at.ensures

pub returns : goal.returns
returns c =
    let x = c.args.template.now in
    let all : length x.statements ≤ c.loop-place.place = omega (arith, c.loop-place-test.false, c.len-place-end.ensures) in
    seen-assigns (none_seen c.args.count) c.loop-place.marks c.see_joints.new.self c.args.cells.now x c.loop-place.place all c.loop-place.invariant
    (c.see_joints.ensures ∙ ap (λ js. see_all c.loop-place.marks (joint_places js)) c.assigns.ensures)
