use Rattle.std.proofs.Common.{◌≡◌, ◌<◌, true, not, length, sym, ap, ◌∙◌, arith}
use Rattle.std.specs.Prelude.{slice_get}
use Rattle.lp_targets.specs.Marks.{is_free}
use Rattle.lp_targets.proofs.Marks.{free_here}
use Rattle.lp_targets.proofs.tops.first_free.Goals as goal

pub returns-then-not-is_marked : goal.returns-then-not-is_marked
returns-then-not-is_marked c =
    let p = is_free c.args.marks.now in
    let ms = c.args.modules.now in
    let i = c.loop-module.module-index in
    let x = c.module-item.result in
    let within : i < length ms = omega arith in
    let free : p x ≡ true = ap not (sym c.is_marked.ensures ∙ c.if-not-is_marked.true) in
    ap (slice_get ms) c.loop-module.invariant.placed ∙ free_here p ms i x within c.module-item.is c.loop-module.invariant.kept free
