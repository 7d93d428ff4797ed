use Rattle.std.proofs.Common.{◌∙◌, ap}
use Rattle.std.specs.Prelude.{unwrap_or}
use Rattle.lp_expr.specs.Denotes.{texts_of}
use Rattle.lp_expr.specs.declared.step.Step.TheVariants.{Variable}
use Rattle.lp_expr.proofs.Numbers.{place_from-zero}
use Rattle.lp_expr.proofs.number.variable.Goals as goal

pub returns : goal.returns
returns c = ap Variable (c.unwrap_or.ensures ∙ ap (λ o. unwrap_or o 0) (c.find_among.ensures.place ∙ place_from-zero c.args.name.now (texts_of c.args.names.now c.args.ids.now)))
