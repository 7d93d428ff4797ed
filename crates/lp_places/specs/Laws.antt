-- The statements of the laws of this crate (own rule).
use Rattle.std.specs.Prelude.{◌≡◌, ℕ, ◌<◌, ◌==◌, List, true, length, bytes_eq}
use Rattle.lp_text.specs.Texts.{distinct, text_at}

-- in a table of distinct names two numbers are equal exactly where their texts are
abbrev pub NumbersAreTexts : Type 0
NumbersAreTexts =
    (names : List (List ℕ)) (a b : ℕ)
    → distinct names ≡ true
    → a < length names
    → b < length names
    → bytes_eq (text_at names a) (text_at names b) ≡ (a == b)
