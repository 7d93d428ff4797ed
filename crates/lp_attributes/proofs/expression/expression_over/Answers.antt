use Rattle.std.proofs.Common.{◌≡◌, sym, ap, ◌∙◌}
use Rattle.std.proofs.lemmas.Result.{IfOk-weaker}
use Rattle.std.specs.Option.{option_map}
use Rattle.lp_model.specs.LibraryView.{expr_view}
use Rattle.lp_attributes.specs.Expressions.{standing}
use Rattle.lp_attributes.proofs.Reading.{reads_view, long_none, refused_none}
use Rattle.lp_attributes.proofs.expression.expression_over.Goals as goal

pub returns-then-text-gt-LARGEST-clause-same : goal.returns-then-text-gt-LARGEST-clause-same
returns-then-text-gt-LARGEST-clause-same c = ap (standing c.args.stand.now) (sym (long_none c.args.text.now c.if-text-gt-LARGEST.true))

pub returns-in-Ok-clause-same : goal.returns-in-Ok-clause-same
returns-in-Ok-clause-same c = IfOk-weaker c.over_table.result _ _ (λ o h. h ∙ ap (standing c.args.stand.now) (sym (reads_view c.args.text.now _ c.in-Ok.e c.if-text-gt-LARGEST.false c.in-Ok.ensures.ok))) c.over_table.ensures.same

pub returns-clause-same : goal.returns-clause-same
returns-clause-same c = IfOk-weaker c.missing.result _ _ (λ o h. ap (option_map (expr_view c.args.names.now)) h.0 ∙ ap (standing c.args.stand.now) (sym (refused_none c.args.text.now c.in-Err.fault c.if-text-gt-LARGEST.false c.in-Err.ensures.err h.1))) c.missing.ensures
