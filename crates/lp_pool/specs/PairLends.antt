-- What a pool ends as, once two `&mut` to records have ended.
use Rattle.std.specs.Prelude.{◌≡◌, ◌≢◌, ◌<◌, ℕ, List, [], ◌∷◌, length, slice_index_or}
use Rattle.std.specs.Borrow.{Fml, RattleType, MutBor, Array, LendsBoth}
use denote.RawPtr.{Ptr}
use Rattle.lp_pool.specs.Places.{IsSpot}
use Rattle.lp_pool.specs.Pool.{Held, held, with_record}
use Rattle.lp_pool.specs.contracts.pool.Pool.{the_row}

-- the pool of a row of one
abbrev pub sole : {X : Type 0} → List (Held X) → Held X
sole [] = held [] []
sole (p ∷ ps) = p

-- a row of one pool, and two of its places, which lie in the chunks at p and at q
abbrev pub AreTwoPlaces : {X : Type 0} → List (Held X) → ℕ → Ptr → ℕ → Ptr → Type 0
AreTwoPlaces row a p b q =
    (length row ≡ 1) × (a < length (sole row).items) × (b < length (sole row).items) × (a ≢ b)
    × IsSpot (sole row).spots a p × IsSpot (sole row).spots b q

-- the records of two places
abbrev pub AreRecords : {X : Type 0} → List X → ℕ → X → ℕ → X → Type 0
AreRecords items a x b y = (x ≡ slice_index_or items a x) × (y ≡ slice_index_or items b y)

-- the two places have the last values written, and the pool is else as it was
abbrev pub lends_pair : (R : RattleType) → MutBor (List (Held R.Denot)) → ℕ → ℕ → MutBor R.Denot × MutBor R.Denot → Fml
lends_pair R s a b r = LendsBoth (Array (the_row R) 0) R R s r (λ x y. with_record (with_record (sole s.now) a x) b y ∷ [])
