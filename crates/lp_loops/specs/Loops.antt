-- The first key of a graph that reads itself, and numbers of keys by which others are seen to be on no loop (own rule).
use Rattle.std.specs.Prelude.{◌<◌, ◌≤◌, ℕ, Bool, ◌==◌, List, slice_index_or}
use Rattle.std.specs.List.{list_any}
use Rattle.lp_order.specs.Order.{row_of, Reads, Reaches}

-- the key reads itself, by one read or more, and none before it does
pub record IsFirstLooped (graph : List (List ℕ)) (key : ℕ) : Type 0 where
  pub looped : Reaches graph key key
  pub not_before : (b : ℕ) → b < key → Reaches graph b b → ⊥

-- the component that a list gives a key
abbrev pub component_of : List ℕ → ℕ → ℕ
component_of components key = slice_index_or components key 0

-- no key reads one of a higher component
abbrev pub NeverRises : List (List ℕ) → List ℕ → Type 0
NeverRises graph components = (a b : ℕ) → Reads graph a b → component_of components b ≤ component_of components a

-- the key reads one of its own component
abbrev pub stays : List (List ℕ) → List ℕ → ℕ → Bool
stays graph components key = list_any (λ b. component_of components b == component_of components key) (row_of graph key)
