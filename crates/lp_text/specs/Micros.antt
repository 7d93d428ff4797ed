-- What a decimal number of a text is, counted in millionths.
use Rattle.std.specs.Prelude.{ℕ, ◌+◌, ◌-◌, ◌*◌, ◌^◌, Bool, not, ◌&&◌, ◌==◌, nat_le, cond, List, [], ◌∷◌, ◌++◌, length, take, drop, replicate}
use Rattle.std.specs.Prelude.{Option, Some, None}
use Rattle.std.specs.Char.{is_ascii_digit}
use Rattle.std.specs.List.{list_all, position}

-- one or more decimal digits
abbrev pub is_digits : List ℕ → Bool
is_digits cs = not (length cs == 0) && list_all is_ascii_digit cs

-- the number that decimal digits write: each weighs ten times what it would one place on
abbrev pub decimal : List ℕ → ℕ
decimal [] = 0
decimal (c ∷ cs) = (c - 48) * 10 ^ length cs + decimal cs

-- the first six decimals, with zeros where there are fewer
abbrev pub six : List ℕ → List ℕ
six decimals = take 6 (decimals ++ replicate 6 48)

-- the value of digits, a point and decimals, where those after the sixth are dropped
abbrev pub millionths : List ℕ → List ℕ → ℕ
millionths whole decimals = decimal whole * 1000000 + decimal (six decimals)

-- both sides of the point are digits, and the value is at most a million whole units
abbrev pub is_number : List ℕ → List ℕ → Bool
is_number whole decimals = is_digits whole && is_digits decimals && nat_le (millionths whole decimals) (10 ^ 12)

-- that value, and none for another form
abbrev pub micros_between : List ℕ → List ℕ → Option ℕ
micros_between whole decimals = cond (is_number whole decimals) (Some (millionths whole decimals)) None

-- the value of a text with its first point at a place; a text with no point has the decimals "0"
abbrev pub micros_at : List ℕ → Option ℕ → Option ℕ
micros_at text None = micros_between text (48 ∷ [])
micros_at text (Some at) = micros_between (take at text) (drop (at + 1) text)

-- the value of a text: digits, or digits, a point (46) and digits
abbrev pub micros_of : List ℕ → Option ℕ
micros_of text = micros_at text (position (λ c. c == 46) text)
