-- Lines and columns of a text, both from 1, counted in bytes (own rule).
use Rattle.std.specs.Prelude.{ℕ, ◌+◌, ◌==◌, if◌then◌else◌, List, [], ◌∷◌, take}
use Rattle.lp_text.specs.declared.place.Place.{Place}

-- a line feed leads to the first column of the next line, any other byte to the next column
abbrev pub past_byte : Place → ℕ → Place
past_byte p b = if b == 10 then record { line = p.line + 1; column = 1 } else record { line = p.line; column = p.column + 1 }

abbrev pub past : Place → List ℕ → Place
past p [] = p
past p (b ∷ text) = past (past_byte p b) text

abbrev pub start : Place
start = record { line = 1; column = 1 }

-- the place of the byte at an index, or one past the last byte
abbrev pub place_in : List ℕ → ℕ → Place
place_in text index = past start (take index text)
