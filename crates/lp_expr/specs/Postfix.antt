-- The steps of an expression over names, and its Boolean value where the names have values (own rule).
use Rattle.std.specs.Prelude.{ℕ, Bool, not, ◌&&◌, ◌||◌, if◌then◌else◌, List, [], ◌∷◌, ◌++◌}
use Rattle.lp_tern.specs.Expression.{Expression, Variable, Constant, Complement, Both, Either, Differ}
use Rattle.lp_expr.specs.declared.step.Step.{Step}
use Rattle.lp_expr.specs.declared.step.Step.TheVariants as steps

-- operands come before their operator, the left one first; the function gives the number of a name
abbrev pub postfix : (List ℕ → ℕ) → Expression → List Step
postfix number (Variable n) = steps.Variable (number n) ∷ []
postfix number (Constant b) = steps.Constant b ∷ []
postfix number (Complement e) = postfix number e ++ steps.Not ∷ []
postfix number (Both d e) = postfix number d ++ (postfix number e ++ steps.And ∷ [])
postfix number (Either d e) = postfix number d ++ (postfix number e ++ steps.Or ∷ [])
postfix number (Differ d e) = postfix number d ++ (postfix number e ++ steps.Xor ∷ [])

-- the Boolean value of an expression where the names have these values
abbrev pub holds_where : (List ℕ → Bool) → Expression → Bool
holds_where f (Variable n) = f n
holds_where f (Constant b) = b
holds_where f (Complement e) = not (holds_where f e)
holds_where f (Both d e) = holds_where f d && holds_where f e
holds_where f (Either d e) = holds_where f d || holds_where f e
holds_where f (Differ d e) = if holds_where f d then not (holds_where f e) else holds_where f e
