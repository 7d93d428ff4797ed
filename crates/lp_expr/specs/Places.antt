-- Places in a table, as numbers whose binary digits are the values of the variables (own rule).
use Rattle.std.specs.Prelude.{◌≡◌, ◌<◌, ◌^◌, ℕ, ◌+◌, ◌*◌, Bool, true, false, if◌then◌else◌, List, [], ◌∷◌, length, bit_and}
use Rattle.lp_tern.specs.declared.tern.Tern.{Tern}
use Rattle.lp_tern.specs.declared.tern.Tern.TheVariants.{Zero, One, X}
use Rattle.lp_expr.specs.Formula.{Formula, truth, digits}

abbrev pub digit_of : Bool → ℕ
digit_of b = if b then 1 else 0

-- the number with these binary digits, the least first
abbrev pub place_of : List Bool → ℕ
place_of [] = 0
place_of (b ∷ c) = place_of c * 2 + digit_of b

abbrev pub is_known : Tern → Bool
is_known Zero = true
is_known One = true
is_known X = false

abbrev pub is_one : Tern → Bool
is_one Zero = false
is_one One = true
is_one X = false

-- the value of an expression where its variables have the digits of a place
abbrev pub value_at : Formula → ℕ → Bool
value_at e place = truth e.steps (digits (length e.variables) place)

-- a place of the expression's table, whose digits under a mask are these
pub record IsPlace (e : Formula) (mask known place : ℕ) : Type 0 where
  pub inside : place < 2 ^ length e.variables
  pub agrees : bit_and place mask ≡ known

-- the expression has the value at each such place
abbrev pub AllAt : Formula → ℕ → ℕ → Bool → Type 0
AllAt e mask known b = (place : ℕ) → IsPlace e mask known place → value_at e place ≡ b

-- the expression has the value at such a place
pub record SomeAt (e : Formula) (mask known : ℕ) (b : Bool) : Type 0 where
  pub place : ℕ
  pub is_place : IsPlace e mask known place
  pub value : value_at e place ≡ b
