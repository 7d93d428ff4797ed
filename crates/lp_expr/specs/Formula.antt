-- Boolean expressions as steps, and their values (own rule).
use Rattle.std.specs.Prelude.{ℕ, zero, suc, ◌/◌, ◌%◌, ◌==◌, Bool, false, not, ◌&&◌, ◌||◌, if◌then◌else◌, List, [], ◌∷◌, map}
use Rattle.std.specs.Prelude.{slice_index_or}
use Rattle.std.specs.List.{flat_map}
use Rattle.lp_text.specs.declared.names.NameId.{NameId}
use Rattle.lp_tern.specs.declared.tern.Tern.{Tern}
use Rattle.lp_tern.specs.Values.{replacements, agreed}
use Rattle.lp_expr.specs.declared.step.Step.{Step}
use Rattle.lp_expr.specs.declared.step.Step.TheVariants.{Variable, Constant, Not, And, Or, Xor}

-- the variables by the numbers of their names, and the steps in postfix order, in which variables go by their place
pub record Formula : Type 0 where
  pub variables : List NameId
  pub steps : List Step

abbrev pub top : List Bool → Bool
top [] = false
top (b ∷ stack) = b

abbrev pub below : List Bool → List Bool
below [] = []
below (b ∷ stack) = stack

abbrev pub differ : Bool → Bool → Bool
differ a b = if a then not b else b

-- what a step leaves of a stack, the top first, where the variables have these values: its right operand is on top
abbrev pub after : List Bool → Step → List Bool → List Bool
after c (Variable i) stack = slice_index_or c i false ∷ stack
after c (Constant b) stack = b ∷ stack
after c Not stack = not (top stack) ∷ below stack
after c And stack = (top (below stack) && top stack) ∷ below (below stack)
after c Or stack = (top (below stack) || top stack) ∷ below (below stack)
after c Xor stack = differ (top (below stack)) (top stack) ∷ below (below stack)

abbrev pub run : List Bool → List Step → List Bool → List Bool
run c [] stack = stack
run c (s ∷ steps) stack = run c steps (after c s stack)

-- the Boolean value where the variables have these values, in order
abbrev pub truth : List Step → List Bool → Bool
truth steps c = top (run c steps [])

-- every way to replace unknown values by 0 or 1
abbrev pub completions : List Tern → List (List Bool)
completions [] = [] ∷ []
completions (t ∷ v) = flat_map (λ b. map (λ c. b ∷ c) (completions v)) (replacements t)

-- the value on which all replacements of unknown values agree, else X
abbrev pub value_of : Formula → List Tern → Tern
value_of e v = agreed (map (truth e.steps) (completions v))

-- the last n binary digits of a number, the least first
abbrev pub digits : ℕ → ℕ → List Bool
digits zero k = []
digits (suc n) k = (k % 2 == 1) ∷ digits n (k / 2)
