use Rattle.lp_expr.proofs.PostfixLemmas.{truth-postfix}
use Rattle.lp_expr.proofs.laws.postfix_computes.Goals as goal

pub returns : goal.returns
returns c number values e = truth-postfix number values e
