use Rattle.lp_spec_place.specs.Leaving as leaving
use Rattle.lp_expr.specs.Grammar.{IsExpression}
use Rattle.lp_expr.proofs.laws.one_place.Goals as goal

pub returns-clause-place : goal.returns-clause-place
returns-clause-place c d text p q a b = leaving.one_place (IsExpression d) text p q a b

pub returns-clause-none : goal.returns-clause-none
returns-clause-none c d text p a b = leaving.leaves_none (IsExpression d) text p a b
