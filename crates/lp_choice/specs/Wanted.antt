-- The functions that cells have to have, as expressions (own rule).
use Rattle.std.specs.Prelude.{Bool, true, false, List, [], ◌∷◌}
use Rattle.lp_expr.specs.declared.step.Step.{Step}
use Rattle.lp_expr.specs.declared.step.Step.TheVariants.{Variable, Not, And, Or}
use Rattle.lp_expr.specs.Formula.{Formula}

-- of data and enable: E * D or E + D, with the enable complemented where its active value is not the clamp value
abbrev pub clamp_steps : Bool → Bool → List Step
clamp_steps true true = Variable 0 ∷ Variable 1 ∷ Or ∷ []
clamp_steps true false = Variable 0 ∷ Variable 1 ∷ Not ∷ Or ∷ []
clamp_steps false true = Variable 0 ∷ Variable 1 ∷ Not ∷ And ∷ []
clamp_steps false false = Variable 0 ∷ Variable 1 ∷ And ∷ []

-- of a power and a ground: that one of them is not on
abbrev pub off_steps : List Step
off_steps = Variable 0 ∷ Variable 1 ∷ And ∷ Not ∷ []

-- a function of two things
abbrev pub of_two : List Step → Formula
of_two steps = record { variables = record { 0 = 0 } ∷ record { 0 = 0 } ∷ []; steps = steps }

-- of two powers and grounds: that one of the four is not on
abbrev pub either_off_steps : List Step
either_off_steps = Variable 0 ∷ Variable 1 ∷ And ∷ Variable 2 ∷ Variable 3 ∷ And ∷ And ∷ Not ∷ []

-- a function of four things
abbrev pub of_four : List Step → Formula
of_four steps = record { variables = record { 0 = 0 } ∷ record { 0 = 0 } ∷ record { 0 = 0 } ∷ record { 0 = 0 } ∷ []; steps = steps }

-- of a data alone: that data
abbrev pub pass_steps : List Step
pass_steps = Variable 0 ∷ []

-- a function of one thing
abbrev pub of_one : List Step → Formula
of_one steps = record { variables = record { 0 = 0 } ∷ []; steps = steps }
