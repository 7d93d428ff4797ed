-- Where the slots of a pool lie.
use Rattle.std.specs.Prelude.{◌≡◌, ℕ, zero, suc, ◌%◌, ◌<◌, List, [], ◌∷◌, ◌++◌, length, get_or}
use denote.RawPtr.{Ptr, null_ptr}

-- how many slots a chunk has
abbrev pub chunk : ℕ
chunk = 1024

-- a slot: the chunk's begin, and how many slots lie before it there
abbrev pub Spot : Type 0
Spot = Ptr × ℕ

abbrev pub nowhere : Spot
nowhere = (null_ptr, 0)

-- n slots of one chunk, from the i-th on
abbrev pub slots_in : Ptr → ℕ → ℕ → List Spot
slots_in p i zero = []
slots_in p i (suc n) = (p, i) ∷ slots_in p (suc i) n

-- the first n slots of a chunk
abbrev pub slots_at : Ptr → ℕ → List Spot
slots_at p n = slots_in p 0 n

-- the slots of chunks, in their order
abbrev pub spots_of : List Ptr → List Spot
spots_of [] = []
spots_of (p ∷ ps) = slots_in p 0 chunk ++ spots_of ps

-- the place is a slot of the chunk at p
pub record IsSpot (spots : List Spot) (place : ℕ) (p : Ptr) : Type 0 where
  pub within : place < length spots
  pub there : get_or spots place nowhere ≡ (p, place % chunk)
