-- The steps of an expression leave its value on the stack.
use Rattle.std.proofs.Common.{◌≡◌, ℕ, Bool, false, List, [], ◌∷◌, ◌++◌, get_or, refl, ap, ◌∙◌}
use Rattle.lp_tern.specs.Expression.{Expression, Variable, Constant, Complement, Both, Either, Differ}
use Rattle.lp_expr.specs.declared.step.Step.{Step}
use Rattle.lp_expr.specs.declared.step.Step.TheVariants as steps
use Rattle.lp_expr.specs.Formula.{after, run, top, truth}
use Rattle.lp_expr.specs.Postfix.{postfix, holds_where}

run-append : (c : List Bool) (xs ys : List Step) (stack : List Bool) → run c (xs ++ ys) stack ≡ run c ys (run c xs stack)
run-append c [] ys stack = refl
run-append c (x ∷ xs) ys stack = run-append c xs ys (after c x stack)

module _ (number : List ℕ → ℕ) (c : List Bool) where
  abbrev pub held : Expression → Bool
  held e = holds_where (λ n. get_or c (number n) false) e

  two : (d e : Expression) (step : Step) (stack : List Bool)
      → ((stack : List Bool) → run c (postfix number d) stack ≡ held d ∷ stack) → ((stack : List Bool) → run c (postfix number e) stack ≡ held e ∷ stack)
      → run c (postfix number d ++ (postfix number e ++ step ∷ [])) stack ≡ after c step (held e ∷ held d ∷ stack)
  two d e step stack first second =
      run-append c (postfix number d) (postfix number e ++ step ∷ []) stack
      ∙ ap (run c (postfix number e ++ step ∷ [])) (first stack)
      ∙ run-append c (postfix number e) (step ∷ []) (held d ∷ stack)
      ∙ ap (after c step) (second (held d ∷ stack))

  run-postfix : (e : Expression) (stack : List Bool) → run c (postfix number e) stack ≡ held e ∷ stack
  run-postfix (Variable n) stack = refl
  run-postfix (Constant b) stack = refl
  run-postfix (Complement e) stack = run-append c (postfix number e) (steps.Not ∷ []) stack ∙ ap (after c steps.Not) (run-postfix e stack)
  run-postfix (Both d e) stack = two d e steps.And stack (run-postfix d) (run-postfix e)
  run-postfix (Either d e) stack = two d e steps.Or stack (run-postfix d) (run-postfix e)
  run-postfix (Differ d e) stack = two d e steps.Xor stack (run-postfix d) (run-postfix e)

  pub truth-postfix : (e : Expression) → truth (postfix number e) c ≡ held e
  truth-postfix e = ap top (run-postfix e [])
