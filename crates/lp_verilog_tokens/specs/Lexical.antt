-- Which bytes tokens have (IEEE 1364-2005, lexical conventions).
use Rattle.std.specs.Prelude.{ℕ, Bool, ◌&&◌, ◌||◌, ◌==◌, nat_le, [], ◌∷◌}
use Rattle.std.specs.List.{list_any}

abbrev pub is_between : ℕ → ℕ → ℕ → Bool
is_between low high b = nat_le low b && nat_le b high

-- space, tab, line feed, form feed and carriage return
unfoldable pub is_blank : ℕ → Bool
is_blank b = list_any (λ x. x == b) (32 ∷ 9 ∷ 10 ∷ 12 ∷ 13 ∷ [])

-- the first byte of an identifier: a letter or _
unfoldable pub is_lead : ℕ → Bool
is_lead b = is_between 97 122 b || is_between 65 90 b || (b == 95)

abbrev pub is_digit : ℕ → Bool
is_digit b = is_between 48 57 b

-- a byte of an identifier: a letter, a digit, _ or $
unfoldable pub is_inner : ℕ → Bool
is_inner b = is_between 97 122 b || is_between 65 90 b || (b == 95) || is_between 48 57 b || (b == 36)

-- a byte of a number: a digit or _
abbrev pub is_number_byte : ℕ → Bool
is_number_byte b = is_digit b || (b == 95)

-- a byte behind the quote of a constant: a letter, a digit, _ or ?
abbrev pub is_constant_byte : ℕ → Bool
is_constant_byte b = is_between 97 122 b || is_between 65 90 b || is_between 48 57 b || (b == 95) || (b == 63)

-- ASCII that is printed
abbrev pub is_visible : ℕ → Bool
is_visible b = is_between 33 126 b
