-- Tables of truth: a bit for each choice of 0 or 1 for the variables (own rule).
use Rattle.std.specs.Prelude.{◌≡◌, ◌≤◌, ◌<◌, ◌*◌, ◌/◌, ◌%◌, ◌^◌, ◌==◌, ℕ, Bool, List, length, slice_index, map, take, drop}
use Rattle.std.specs.Int.{bit_at}
use Rattle.lp_expr.specs.declared.step.Step.{Step}
use Rattle.lp_expr.specs.Formula.{Formula, truth, digits}

-- the bit of a word at a place, from the least on
abbrev pub is_bit : ℕ → ℕ → Bool
is_bit word place = bit_at word place == 1

-- the stack of one choice, where each word of a stack holds a bit for each of 64 choices
abbrev pub lane : ℕ → List ℕ → List Bool
lane place words = map (λ word. is_bit word place) words

-- the bit of a table at a place, 64 bits to a word
abbrev pub table_bit : List ℕ → ℕ → Bool
table_bit table place = is_bit (slice_index table (place / 64)) (place % 64)

-- the table has the values of the steps at every choice for the variables
pub record IsTable (table : List ℕ) (variables : ℕ) (steps : List Step) : Type 0 where
  pub few : variables ≤ 12
  pub wide : 2 ^ variables ≤ 64 * length table
  pub bits : (place : ℕ) → place < 2 ^ variables → table_bit table place ≡ truth steps (digits variables place)

-- the value of an expression whose variables take their values from slots
abbrev pub truth_over : Formula → List ℕ → (ℕ → Bool) → Bool
truth_over e slots c = truth e.steps (map c slots)

-- two expressions are one Boolean function, where each variable of the first and then of the second takes the value of its slot
abbrev pub AreOneFunction : Formula → Formula → List ℕ → Type 0
AreOneFunction a b slots =
    (c : ℕ → Bool) → truth_over a (take (length a.variables) slots) c ≡ truth_over b (drop (length a.variables) slots) c
