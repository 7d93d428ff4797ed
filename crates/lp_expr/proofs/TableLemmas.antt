-- Steps on words against steps on Boolean values, and tables made word by word.
use Rattle.std.proofs.Common.{◌≡◌, ℕ, ◌+◌, ◌*◌, ◌-◌, ◌%◌, ◌^◌, ◌<◌, ◌≤◌, Bool, false, get_or, length, List, ◌∷◌, refl, sym, ap, ◌∙◌, arith}
use Rattle.std.proofs.Math.Pow.{pow_mono}
use Rattle.std.proofs.lemmas.Nat.{pow-add, one_shl}
use Rattle.lp_expr.specs.declared.step.Step.{Step}
use Rattle.lp_expr.specs.Formula.{top, below, truth, digits}
use Rattle.lp_expr.specs.Table.{is_bit}
use Rattle.lp_expr.proofs.Bits.{is_bit_low, is_bit_high, is_bit-zero, patterns, pattern_at}
use Rattle.lp_expr.proofs.Digits.{get_or-digits, get_or-digits_past}

-- an operator takes its operands off the stack, the right one first
pub one_operand : (f : Bool → Bool) (s t : List Bool) (x z : Bool) → x ≡ top s → t ≡ below s → z ≡ f x → (z ∷ t) ≡ (f (top s) ∷ below s)
one_operand f s t x z first rest value = rw (value, first, rest) refl

pub two_operands : (f : Bool → Bool → Bool) (s t u : List Bool) (x y z : Bool) → x ≡ top s → t ≡ below s → y ≡ top t → u ≡ below t → z ≡ f y x → (z ∷ u) ≡ (f (top (below s)) (top s) ∷ below (below s))
two_operands f s t u x y z first rest second left value = rw (value, second, left, rest, first) refl

-- the words of variables
pub word_of_none : (count number variable place : ℕ) → count ≤ variable → is_bit 0 place ≡ get_or (digits count (number * 64 + place)) variable false
word_of_none count number variable place h = is_bit-zero place ∙ sym (get_or-digits_past count (number * 64 + place) variable h)

pub word_of_low : (count number variable place : ℕ) → variable < count → variable < 6 → place < 64 → is_bit (get_or patterns variable 0) place ≡ get_or (digits count (number * 64 + place)) variable false
word_of_low count number variable place h low small =
    pattern_at variable place low small ∙ sym (is_bit_low number place variable low) ∙ sym (get_or-digits count (number * 64 + place) variable h)

pub word_of_high : (count number variable place : ℕ) (bit : Bool) → variable < count → 6 ≤ variable → place < 64 → bit ≡ is_bit number (variable - 6) → bit ≡ get_or (digits count (number * 64 + place)) variable false
word_of_high count number variable place bit h high small e =
    e ∙ sym (is_bit_high number place variable small high) ∙ sym (get_or-digits count (number * 64 + place) variable h)

-- enough words
pub few_words : (count : ℕ) → count < 6 → 2 ^ count ≤ 64
few_words count h = let p : count ≤ 6 = omega arith in pow_mono p

pub many_words : (count : ℕ) → count ≤ 12 → 6 ≤ count → 2 ^ count ≤ 64 * (1 * 2 ^ (count - 6) % 18446744073709551616)
many_words count h high =
    let e : 1 * 2 ^ (count - 6) % 2 ^ 64 ≡ 2 ^ (count - 6) = one_shl (count - 6) 64 (omega arith) in
    let whole : 6 + (count - 6) ≡ count = omega arith in
    let split : 2 ^ count ≡ 64 * 2 ^ (count - 6) = sym (ap (λ k. 2 ^ k) whole) ∙ pow-add 2 6 (count - 6) in
    rw (e, split) (omega arith)

-- a table whose first words are made
pub record IsMade (table : List ℕ) (count : ℕ) (steps : List Step) (words : ℕ) : Type 0 where
  pub size : length table ≡ words
  pub bits : (word place : ℕ) → word < words → place < 64 → is_bit (get_or table word 0) place ≡ truth steps (digits count (word * 64 + place))
