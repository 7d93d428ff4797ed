use Rattle.std.proofs.Common.{◌<◌, ◌∙◌, length, sym, arith}
use Rattle.lp_drivers.proofs.Joined.{found-here, found-next}
use Rattle.lp_drivers.proofs.below.below.Goals as goal

pub returns-in-Some : goal.returns-in-Some
returns-in-Some c =
    let zs = c.args.template.now.statements in
    let low : c.loop-place.place < length zs = omega (arith, c.loop-place-test.true, c.len-place-end.ensures) in
    found-here c.args.seen.now c.args.table.now zs c.loop-place.place c.in-Some.node low (sym c.there_twice.ensures ∙ c.in-Some.is) c.loop-place.invariant

pub loop-place-preserved : goal.loop-place-preserved
loop-place-preserved c =
    let zs = c.args.template.now.statements in
    let low : c.loop-place.place < length zs = omega (arith, c.loop-place-test.true, c.len-place-end.ensures) in
    found-next c.args.seen.now c.args.table.now zs c.loop-place.place low (sym c.there_twice.ensures ∙ c.in_default.is) c.loop-place.invariant
