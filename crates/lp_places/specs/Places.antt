-- The first places of numbers in a list, and lists of first places by number.
use Rattle.std.specs.Prelude.{◌≡◌, ℕ, suc, ◌<◌, ◌==◌, ltb, Bool, List, [], ◌∷◌, length, Option, Some, None, if◌then◌else◌, slice_index_or, slice_set}
use Rattle.std.specs.List.{list_any, list_all}
use Rattle.std.specs.Option.{option_map}

abbrev pub has_number : ℕ → List ℕ → Bool
has_number n ms = list_any (λ m. n == m) ms

-- whether all are below a bound
abbrev pub are_below : ℕ → List ℕ → Bool
are_below n ks = list_all (λ k. ltb k n) ks

-- the first place at which a number stands
abbrev pub place_of_number : ℕ → List ℕ → Option ℕ
place_of_number n [] = None
place_of_number n (m ∷ ms) = if n == m then Some 0 else option_map suc (place_of_number n ms)

-- a place in 32 bits
abbrev pub place_code : Option ℕ → ℕ
place_code None = 4294967295
place_code (Some k) = k

-- by each number its first place; there is none past the end
pub record IsPlaces (firsts numbers : List ℕ) : Type 0 where
  pub few : length numbers < 4294967295
  pub first : (n : ℕ) → slice_index_or firsts n 4294967295 ≡ place_code (place_of_number n numbers)

-- the place of a number that has none yet
abbrev pub marked : List ℕ → ℕ → ℕ → List ℕ
marked firsts number place = if slice_index_or firsts number 4294967295 == 4294967295 then slice_set firsts number place else firsts
