-- What the readers of expressions answer.
use Rattle.std.specs.Prelude.{ℕ, List}
use Rattle.lp_spec_place.specs.Leaving.{Leaves}
use Rattle.lp_expr.specs.declared.dialect.Dialect.{Dialect}
use Rattle.lp_expr.specs.declared.read.ExprFault.{ExprFault}
use Rattle.lp_expr.specs.declared.read.ExprFault.TheVariants as faults
use Rattle.lp_expr.specs.Grammar.{IsExpression}
use Rattle.lp_expr.specs.Denotes.{HasTooMany}

-- the text leaves the language at the place, or it is an expression with too many variables
abbrev pub Refuses : Dialect → List ℕ → ExprFault → Type 0
Refuses d text (faults.Syntax place) = Leaves ℕ (IsExpression d) text place
Refuses d text faults.TooManyVariables = HasTooMany d text
Refuses d text faults.NoMemory = Unit {0}
