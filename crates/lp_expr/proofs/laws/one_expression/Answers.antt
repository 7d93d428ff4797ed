use Rattle.lp_expr.proofs.Leaving.{one_tree}
use Rattle.lp_expr.proofs.laws.one_expression.Goals as goal

pub returns : goal.returns
returns c d text a b = one_tree d text a b
