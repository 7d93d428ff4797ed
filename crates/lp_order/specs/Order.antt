-- What reads what among keys that are numbers, and when that has an order or a loop.
use Rattle.std.specs.Prelude.{◌<◌, ℕ, List, [], ◌∷◌, length, All, Contains, slice_index_or}

-- the keys that a key reads: a graph is the list of these rows
abbrev pub row_of : List (List ℕ) → ℕ → List ℕ
row_of graph key = slice_index_or graph key []

-- key a reads key b
abbrev pub Reads : List (List ℕ) → ℕ → ℕ → Type 0
Reads graph a b = Contains (row_of graph a) b

-- each key that is read is below n
abbrev pub ReadsBelow : ℕ → List (List ℕ) → Type 0
ReadsBelow n graph = All (λ row. All (λ b. b < n) row) graph

-- a leads to b by one read or more
pub data Reaches (graph : List (List ℕ)) : ℕ → ℕ → Type 0 where
  one_read : {a b : ℕ} → Reads graph a b → Reaches graph a b
  more_reads : {a b c : ℕ} → Reads graph a b → Reaches graph b c → Reaches graph a c

-- some key reads itself, by one read or more
abbrev pub HasLoop : List (List ℕ) → Type 0
HasLoop graph = (key : ℕ) × Reaches graph key key

-- newest first, each key reads only keys that stand behind it
abbrev pub IsOrdered : List (List ℕ) → List ℕ → Type 0
IsOrdered graph [] = Unit {0}
IsOrdered graph (key ∷ older) = ((b : ℕ) → Reads graph key b → Contains older b) × IsOrdered graph older

-- such a list that has every key
pub record IsOrder (graph : List (List ℕ)) (order : List ℕ) : Type 0 where
  pub ordered : IsOrdered graph order
  pub complete : (key : ℕ) → key < length graph → Contains order key

-- the keys have an order
abbrev pub HasOrder : List (List ℕ) → Type 0
HasOrder graph = (order : List ℕ) × IsOrder graph order
