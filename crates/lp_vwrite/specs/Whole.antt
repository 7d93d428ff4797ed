-- How bits that stand in runs follow the indices of a vector (own rule).
use Rattle.std.specs.Prelude.{◌≡◌, ◌≤◌, ℕ, false, List, ◌++◌, length, take, drop, Option, Some, None}
use Rattle.lp_model.specs.NetlistView.{BitView}
use Rattle.lp_vwrite.specs.Layout.{are_bits}

-- a list stands in another one, so many of whose entries are before it
abbrev pub StandsAt : List ℕ → ℕ → List ℕ → Type 0
StandsAt part before all = take (length part) (drop before all) ≡ part

-- bits of a vector from these indices on, whatever follows: so many of them, or bits that are others
abbrev pub GoesOn : List ℕ → List ℕ → List BitView → Option ℕ → Type 0
GoesOn name is bits None = (rest : List BitView) → are_bits name is (bits ++ rest) ≡ false
GoesOn name is bits (Some steps) = (steps ≤ length is) × ((rest : List BitView) → are_bits name is (bits ++ rest) ≡ are_bits name (drop steps is) rest)
