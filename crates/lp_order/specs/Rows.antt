-- Rows that lie one behind another in a flat list, by their ends.
use Rattle.std.specs.Prelude.{◌≡◌, ◌≤◌, ◌-◌, ℕ, List, [], ◌∷◌, take, drop}

-- the rows from a start on: each runs to its end, where the next one starts
abbrev pub rows_between : ℕ → List ℕ → List ℕ → List (List ℕ)
rows_between start [] flat = []
rows_between start (end ∷ ends) flat = take (end - start) (drop start flat) ∷ rows_between end ends flat

-- the ends ascend from a start, and the last is the flat list's length
abbrev pub AreEnds : ℕ → List ℕ → ℕ → Type 0
AreEnds start [] size = start ≡ size
AreEnds start (end ∷ ends) size = (start ≤ end) × AreEnds end ends size
