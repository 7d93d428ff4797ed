-- Assignments that settle: each key has the value of its equation, which looks at the keys that it reads (own rule).
use Rattle.std.specs.Prelude.{◌≡◌, Bool, true, false, List, [], ◌∷◌, IsTrue}
use Rattle.std.specs.List.{list_any}

-- keys that a test tells apart
pub record Keys (K : Type 0) : Type 0 where
  pub same : K → K → Bool
  pub same_true : (a b : K) → same a b ≡ true → a ≡ b
  pub true_same : (a : K) → same a a ≡ true

module _ {K : Type 0} (keys : Keys K) where
  -- the key is in the list
  abbrev pub has : K → List K → Bool
  has k ks = list_any (λ j. keys.same j k) ks

  -- each key of the first list stands in the second
  abbrev pub AllIn : List K → List K → Type 0
  AllIn [] ks = Unit {0}
  AllIn (k ∷ more) ks = IsTrue (has k ks) × AllIn more ks

  -- newest first: each key reads only keys that stand behind it
  abbrev pub IsOrder : (K → List K) → List K → Type 0
  IsOrder reads [] = Unit {0}
  IsOrder reads (k ∷ rest) = AllIn (reads k) rest × IsOrder reads rest

  -- what is not in the list reads nothing
  abbrev pub Covers : (K → List K) → List K → Type 0
  Covers reads order = (k : K) → has k order ≡ false → reads k ≡ []

  -- an order of all keys that read anything
  pub record HasOrder (reads : K → List K) : Type 0 where
    pub order : List K
    pub is_order : IsOrder reads order
    pub covers : Covers reads order

  -- from one key to another by reads, over the keys on the way
  abbrev pub IsWay : (K → List K) → K → List K → K → Type 0
  IsWay reads k [] j = IsTrue (has j (reads k))
  IsWay reads k (i ∷ way) j = IsTrue (has i (reads k)) × IsWay reads i way j

  -- one key depends on another
  abbrev pub Reaches : (K → List K) → K → K → Type 0
  Reaches reads k j = (way : List K) × IsWay reads k way j

module _ {K V : Type 0} (keys : Keys K) where
  -- an equation looks only at what its key reads
  abbrev pub LooksAt : (K → List K) → (K → (K → V) → V) → Type 0
  LooksAt reads equation = (k : K) (A B : K → V) → ((j : K) → IsTrue (has keys j (reads k)) → A j ≡ B j) → equation k A ≡ equation k B

module _ {K V : Type 0} where
  -- every key has the value of its equation
  abbrev pub Settles : (K → (K → V) → V) → (K → V) → Type 0
  Settles equation A = (k : K) → A k ≡ equation k A

  -- there is an assignment that settles, and it is the only one
  pub record SettlesOnce (equation : K → (K → V) → V) : Type 0 where
    pub settled : K → V
    pub settles : Settles equation settled
    pub only : (other : K → V) → Settles equation other → other ≡ settled
