-- Names by their numbers with their places, sorted for look-up, and sets of names (own rule).
use Rattle.std.specs.Prelude.{◌≡◌, ℕ, ◌+◌, ◌*◌, ◌<◌, Bool, true, false, List, [], ◌∷◌, length, slice_index_or}
use Rattle.std.specs.List.Sorted.{IsPermutation, IsNonDecreasingBy, IsNonDecreasing}
use Rattle.lp_places.specs.Places.{has_number}
use Rattle.lp_connections.specs.declared.rows.Entry.{Entry}

-- each number with its place, from a place on
abbrev pub entries_from : ℕ → List ℕ → List Entry
entries_from k [] = []
entries_from k (n ∷ ns) = record { name = n; place = k } ∷ entries_from (k + 1) ns

-- by the name first, and by the place where names are the same
abbrev pub entry_key : Entry → ℕ
entry_key e = e.name * 4294967296 + e.place

abbrev pub entry_name : Entry → ℕ
entry_name e = e.name

-- the entries of these numbers, in the order of their keys
pub record IsRow (entries : List Entry) (numbers : List ℕ) : Type 0 where
  pub few : length numbers < 4294967296
  pub moved : IsPermutation (entries_from 0 numbers) entries
  pub rises : IsNonDecreasingBy entry_key entries
  pub names_rise : IsNonDecreasingBy entry_name entries

-- these numbers, sorted
pub record IsSet (sorted numbers : List ℕ) : Type 0 where
  pub moved : IsPermutation numbers sorted
  pub rises : IsNonDecreasing sorted

-- exactly these numbers are marked
abbrev pub AreMarked : List Bool → List ℕ → Type 0
AreMarked marks numbers = (n : ℕ) → slice_index_or marks n false ≡ has_number n numbers

-- no other numbers are marked
abbrev pub AreWithin : List Bool → List ℕ → Type 0
AreWithin marks numbers = (n : ℕ) → slice_index_or marks n false ≡ true → has_number n numbers ≡ true
