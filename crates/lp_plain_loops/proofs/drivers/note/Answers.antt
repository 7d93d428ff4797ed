use Rattle.std.proofs.Common.{sym, ap, ◌∙◌, not, arith}
use Rattle.lp_plain_index.proofs.Numbers.{place-below}
use Rattle.lp_plain_loops.proofs.Numbering.{noted_new}
use Rattle.lp_plain_loops.proofs.drivers.note.Goals as goal

pub bounds-found-place : goal.bounds-found-place
bounds-found-place c = let within = place-below c.args.net.0 c.args.nets.now c.in-Some.place (sym c.in-Some.ensures) in omega (arith, within, c.requires)

pub bounds-found-place-then-is_none : goal.bounds-found-place-then-is_none
bounds-found-place-then-is_none c = let within = place-below c.args.net.0 c.args.nets.now c.in-Some.place (sym c.in-Some.ensures) in omega (arith, within, c.requires)

pub returns-then-is_none : goal.returns-then-is_none
returns-then-is_none c =
    let within = place-below c.args.net.0 c.args.nets.now c.in-Some.place (sym c.in-Some.ensures) in
    noted_new c.args.nets.now c.args.found.now c.in-Some.place c.args.driver c.args.net.0 c.index-found-place.result (sym c.in-Some.ensures) (omega (arith, within, c.requires)) (c.is_none.ensures ∙ ap not c.if-is_none.true)
