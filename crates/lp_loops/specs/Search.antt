-- A search along the reads of a graph for a way from a key, the root, back to itself, where no key before the root has one (own rule).
use Rattle.std.specs.Prelude.{◌≡◌, ◌≢◌, ◌⊎◌, ◌≤◌, ◌<◌, ◌+◌, ℕ, Bool, true, false, List, length, sum_by, Contains, slice_index_or}
use Rattle.lp_order.specs.Order.{Reads, Reaches}
use Rattle.lp_loops.specs.declared.search.Search.{Search}

abbrev pub is_met : List Bool → ℕ → Bool
is_met met key = slice_index_or met key false

-- a read that asks for nothing more: it is not the root, and it stands before the root or was met
abbrev pub IsPassed : ℕ → List Bool → ℕ → Type 0
IsPassed root met b = (b ≢ root) × ((b < root) ⊎ (is_met met b ≡ true))

-- a claim of a key that is to be met: it does not stand before the root, and it was not met
abbrev pub IfNew : ℕ → Search → ℕ → Type 0 → Type 0
IfNew root s key claim = root ≤ key → is_met s.met.items key ≡ false → claim

-- what the lists of a search keep
pub record IsSearch (graph : List (List ℕ)) (root : ℕ) (met : List Bool) (waiting : List ℕ) : Type 0 where
  pub counted : length met ≡ length graph
  pub begun : is_met met root ≡ true
  pub reached : (key : ℕ) → is_met met key ≡ true → (key ≡ root) ⊎ Reaches graph root key
  pub waits : (key : ℕ) → Contains waiting key → is_met met key ≡ true
  pub followed : (key : ℕ) → is_met met key ≡ true → Contains waiting key ⊎ ((b : ℕ) → Reads graph key b → IsPassed root met b)

-- a key that was not met is still to be met
abbrev pub still : Bool → ℕ
still true = 0
still false = 1

-- more than the keys that are still to be followed
abbrev pub keys_left : Search → ℕ
keys_left s = sum_by still s.met.items + length s.waiting.items

-- a key was followed
pub record Follows (graph : List (List ℕ)) (root : ℕ) (old new : Search) : Type 0 where
  pub search : IsSearch graph root new.met.items new.waiting.items
  pub no_more : keys_left new ≤ keys_left old
