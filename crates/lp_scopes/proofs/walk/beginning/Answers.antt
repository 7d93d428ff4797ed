use Rattle.std.proofs.Common.{◌≡◌, ◌<◌, length, get_or, sym, ap, ◌∙◌, arith}
use Rattle.std.proofs.lemmas.Bool.{eqb-false}
use Rattle.std.proofs.lemmas.Str.{IsCharBoundary-after_ascii}
use Rattle.lp_scopes.proofs.walk.beginning.Goals as goal

pub range_from-requires : goal.range_from-requires
range_from-requires c =
    let slash : get_or c.args.text.now 0 0 ≡ 47 = ap (λ xs. get_or xs 0 0) (sym c.as_bytes.ensures.value) ∙ c.if-as_bytes-ne47.false in
    let empty = eqb-false (length c.args.text.now) 0 (sym c.is_empty.ensures ∙ c.if-is_empty.false) in
    let some : 0 < length c.args.text.now = omega arith in
    λ up. IsCharBoundary-after_ascii c.args.text.now 0 c.utf8.text some (omega arith)
