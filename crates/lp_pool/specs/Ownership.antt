-- What the slots of a pool own and lend, at records of the row R.
use Rattle.std.specs.Prelude.{ℕ, ◌+◌, ◌*◌, ◌^◌, List, [], ◌∷◌}
use Rattle.std.specs.Mem.{type_size}
use base.Fraction.{full_share}
use base.Fml.{Lft, Fml, ftrue, ffalse, fsep, flt, froom}
use mir.Syntax.{Ty, ty_array}
use mir.Raw.{raw}
use denote.RattleType.{RattleType}
use denote.Memory.{lone, part_at, shared_of}
use denote.Sharing.{nothing, said, beside}
use denote.RawPtr.{Ptr, block_ptr, null_ptr}
use Rattle.lp_pool.specs.Places.{Spot, chunk}

module _ (R : RattleType) where
  -- the record x lies in the slot
  abbrev pub held : Spot → R.Denot → Fml
  held (block_ptr b o, i) x = part_at R full_share x b (i * type_size R + o)
  held (null_ptr, i) x = ffalse

  -- the slot is empty
  abbrev pub vacant : Spot → Fml
  vacant (block_ptr b o, i) = froom (raw (lone R.mir)) b (i * type_size R + o)
  vacant (null_ptr, i) = ffalse

  -- the records lie in the first slots, and the others are empty
  abbrev pub row : List Spot → List R.Denot → Fml
  row [] xs = ftrue
  row (p ∷ ps) [] = fsep (vacant p) (row ps [])
  row (p ∷ ps) (x ∷ xs) = fsep (held p x) (row ps xs)

  abbrev pub held_lent : Spot → R.Denot → Lft → Fml
  held_lent (block_ptr b o, i) x = shared_of R x b (i * type_size R + o)
  held_lent (null_ptr, i) x = said ffalse

  abbrev pub row_lent : List Spot → List R.Denot → Lft → Fml
  row_lent [] xs = nothing
  row_lent (p ∷ ps) [] = nothing
  row_lent (p ∷ ps) (x ∷ xs) = beside (held_lent p x) (row_lent ps xs)

  -- a chunk takes fewer than 2 ^ 63 bytes
  abbrev pub fit : Fml
  fit = flt (chunk * type_size R) (2 ^ 63)

  abbrev pub records_own : List Spot → List R.Denot → Fml
  records_own ps xs = fsep fit (row ps xs)

  abbrev pub records_lent : List Spot → List R.Denot → Lft → Fml
  records_lent ps xs = beside (said fit) (row_lent ps xs)

  -- the allocator's token for a block of n slots
  abbrev pub deed_owns : (Ty → Ptr → Fml) → Ptr → ℕ → Fml
  deed_owns token p n = token (raw (ty_array (lone R.mir) n)) p
