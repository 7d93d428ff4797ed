use Rattle.std.proofs.Common.{◌≤◌, ◌<◌, ◌+◌, ◌≡◌, true, false, length, get_or, sym, ap, ◌∙◌, arith}
use Rattle.std.proofs.lemmas.List.{get_or_default}
use Rattle.lp_drivers.specs.Seen.{Seen}
use Rattle.lp_drivers.proofs.Running.{lower-next, lower-stop, lower-found, lower-last}
use Rattle.lp_drivers.proofs.marks.Marks.lower_run.Goals as goal
use Rattle.lp_drivers.proofs.marks.Marks.lower_run.Goals.{Else-index, Then-index}

pub returns-then-least-place : goal.returns-then-least-place
returns-then-least-place c =
    let e = c.saturating_add-place-end.ensures in
    let high : c.loop-place.place ≤ c.args.start + c.args.count = omega (arith, c.loop-place-test.true, e) in
    sym (lower-stop c.args.self.now.1 c.args.least c.args.start c.args.count c.loop-place.place c.loop-place.auto.place high c.loop-place.invariant c.if-least-place.true)

pub returns-then-index : goal.returns-then-index
returns-then-index c =
    let place = c.loop-place.place in
    let e = c.saturating_add-place-end.ensures in
    let first : c.self.inside.first ≡ c.args.self.now.0 = ap (λ (m : Seen). m.0) c.self.view_is in
    let room = c.self.invariant in
    let low : c.loop-place.place < length c.self.inside.driven.items = omega (arith, c.if-least-place.false, c.requires, first, room) in
    let high : c.loop-place.place < c.args.start + c.args.count = omega (arith, c.loop-place-test.true, e) in
    let here : get_or c.args.self.now.1 c.loop-place.place false ≡ true =
    ap (λ (m : Seen). get_or m.1 c.loop-place.place false) (sym c.self.view_is) ∙ get_or_default c.self.inside.driven.items c.loop-place.place false c.index.result.now low ∙ sym c.index.ensures ∙ c.if-index.true in
    sym (lower-found c.args.self.now.1 c.args.least c.args.start c.args.count c.loop-place.place c.loop-place.auto.place high c.loop-place.invariant c.if-least-place.false here)

pub loop-place-preserved : goal.loop-place-preserved
loop-place-preserved c =
    let first : c.self.inside.first ≡ c.args.self.now.0 = ap (λ (m : Seen). m.0) c.self.view_is in
    let room = c.self.invariant in
    let low : c.loop-place.place < length c.self.inside.driven.items = omega (arith, c.if-least-place.false, c.requires, first, room) in
    let here : get_or c.args.self.now.1 c.loop-place.place false ≡ false =
    ap (λ (m : Seen). get_or m.1 c.loop-place.place false) (sym c.self.view_is) ∙ get_or_default c.self.inside.driven.items c.loop-place.place false c.index.result.now low ∙ sym c.index.ensures ∙ c.if-index.false in
    lower-next c.args.self.now.1 c.args.least c.args.start c.loop-place.place c.loop-place.auto.place c.loop-place.invariant here

pub returns : goal.returns
returns c =
    let e = c.saturating_add-place-end.ensures in
    let high : c.args.start ≤ c.saturating_add-place-end.result = omega (arith, e, c.ranges.start.fits) in
    let most = c.loop-place.auto.place-end high in
    sym (lower-last c.args.self.now.1 c.args.least c.args.start c.args.count c.loop-place.place c.saturating_add-place-end.result 18446744073709551615 c.loop-place.auto.place (omega (arith, c.ranges.least.fits)) e (omega (arith, most, c.loop-place-test.false)) c.loop-place.invariant)
