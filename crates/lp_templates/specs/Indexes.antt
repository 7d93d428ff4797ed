-- The first places of numbers, of which only those are right that are looked for again (own rule).
use Rattle.std.specs.Prelude.{◌≡◌, ℕ, List, Some, slice_index_or}
use Rattle.lp_places.specs.Places.{place_of_number}

abbrev pub IsIndex : List ℕ → List ℕ → Type 0
IsIndex firsts numbers = (n k : ℕ) → place_of_number n numbers ≡ Some k → slice_index_or firsts n 0 ≡ k
