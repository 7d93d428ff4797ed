-- What a contract sees of a pool.
use Rattle.std.specs.Prelude.{◌≡◌, ℕ, ◌-◌, ◌^◌, ◌<◌, ◌≤◌, List, length, map, slice_set, refl}
use Rattle.std.specs.Coded.{Coded, code_by, coded×, coded_list, coded_ℕ}
use denote.RawPtr.{Ptr, coded_ptr}
use Rattle.lp_pool.specs.Places.{Spot, spots_of}
use Rattle.lp_pool.specs.declared.chunk.Chunk.{Chunk}

-- the records, in the order of their places, and where the slots lie
pub record Held (X : Type 0) : Type 0 where
  pub items : List X
  pub spots : List Spot

module _ {X : Type 0} where
  abbrev pub held : List X → List Spot → Held X
  held xs ps = record { items = xs; spots = ps }

  abbrev pub held_code : Coded X → Coded (Held X)
  held_code c = code_by (List X × List Spot) (coded× (coded_list c) (coded_list (coded× coded_ptr coded_ℕ))) (λ p. (p.items, p.spots)) (λ q. held q.0 q.1) (λ _. refl)

  -- how many records the pool takes without memory
  abbrev pub spare : Held X → ℕ
  spare p = length p.spots - length p.items

  -- the pool with w at a place
  abbrev pub with_record : Held X → ℕ → X → Held X
  with_record p place w = held (slice_set p.items place w) p.spots

  abbrev pub bases : List (Chunk X) → List Ptr
  bases cs = map (λ (c : Chunk X). c.base.ptr) cs

  -- what holds of the fields of a pool
  pub record IsPool (chunks : List (Chunk X)) (count : ℕ) (items : List X) (spots : List Spot) : Type 0 where
    pub counted : count ≡ length items
    pub laid : spots ≡ spots_of (bases chunks)
    pub within : count ≤ length spots
    pub small : length spots < 2 ^ 64
