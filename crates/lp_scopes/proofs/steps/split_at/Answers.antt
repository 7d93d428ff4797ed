use Rattle.std.proofs.Common.{◌≡◌, sym, ◌∙◌, arith}
use Rattle.std.specs.Prelude.{slice_index}
use Rattle.std.proofs.lemmas.Bool.{eqb-true}
use Rattle.std.proofs.lemmas.Str.{IsCharBoundary-after_ascii}
use Rattle.lp_scopes.proofs.steps.split_at.Goals as goal

pub range_from-requires : goal.range_from-requires
range_from-requires c =
    let slash : slice_index c.args.text.now c.args.at ≡ 47 = eqb-true (slice_index c.args.text.now c.args.at) 47 (sym c.is_slash.ensures ∙ c.if-not-is_slash.false) in
    λ up. IsCharBoundary-after_ascii c.args.text.now c.args.at c.utf8.text (omega arith) (omega arith)
