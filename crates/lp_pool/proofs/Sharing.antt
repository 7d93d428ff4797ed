-- A `&` to the slots is made where one to a record is. Assumes `Logic`.
use Prim.Native.Nat.{◌+◌, ◌*◌}
use Rattle.std.specs.Prelude.{List, [], ◌∷◌}
use Rattle.std.specs.Mem.{type_size}
use seplogic.Ra.Ura.{Ura}
use base.Fml.{Lft, Incl, ftrue, ffalse}
use types.Logic.{Logic}
use denote.RattleType.{RattleType, RowLaws}
use denote.Param.Laws.{Laws}
use denote.RawPtr.{block_ptr, null_ptr}
use denote.Sharing.{ShrLaws, said}
use denote.SharingLaws.{beside_shr_laws, nothing_shr_laws, said_shr_laws}
use denote.Shares.{Shares-less}
use denote.Struct.Lending.{Lends, Lends-both, Lends-nothing, Lends-said, Lends-false}
use Rattle.lp_pool.specs.Places.{Spot}
use Rattle.lp_pool.specs.Ownership.{held, row, held_lent, row_lent, fit, records_own, records_lent}

module _ (R : RattleType) (L : RowLaws R) where
  held_lent_laws : (p : Spot) (x : R.Denot) → ShrLaws (held_lent R p x)
  held_lent_laws (block_ptr b o, i) x = L x b (i * type_size R + o)
  held_lent_laws (null_ptr, i) x = said_shr_laws ffalse tt

  row_lent_laws : (ps : List Spot) (xs : List R.Denot) → ShrLaws (row_lent R ps xs)
  row_lent_laws [] xs = nothing_shr_laws
  row_lent_laws (p ∷ ps) [] = nothing_shr_laws
  row_lent_laws (p ∷ ps) (x ∷ xs) = beside_shr_laws _ _ (held_lent_laws p x) (row_lent_laws ps xs)

  pub records_lent_laws : (ps : List Spot) (xs : List R.Denot) → ShrLaws (records_lent R ps xs)
  records_lent_laws ps xs = beside_shr_laws _ _ (said_shr_laws (fit R) tt) (row_lent_laws ps xs)

module _ {M : Type 1} {𝓤 : Ura M} (𝓛 : Logic 𝓤) (l : Lft) (R : RattleType) (L : Laws R) (inc : Incl l R.lives) where
  Lends-held : (p : Spot) (x : R.Denot) → Lends 𝓛 (held R p x) (held_lent R p x) l
  Lends-held (block_ptr b o, i) x = λ κ ts. Shares-less 𝓛 R R.lives l inc (L.shares 𝓛) x κ ts b (i * type_size R + o)
  Lends-held (null_ptr, i) x = Lends-false 𝓛 (said ffalse) l

  Lends-row : (ps : List Spot) (xs : List R.Denot) → Lends 𝓛 (row R ps xs) (row_lent R ps xs) l
  Lends-row [] xs = Lends-nothing 𝓛 ftrue l
  Lends-row (p ∷ ps) [] = Lends-nothing 𝓛 (row R (p ∷ ps) []) l
  Lends-row (p ∷ ps) (x ∷ xs) = Lends-both 𝓛 (held R p x) (row R ps xs) (held_lent R p x) (row_lent R ps xs) l (Lends-held p x) (Lends-row ps xs)

  pub Lends-records : (ps : List Spot) (xs : List R.Denot) → Lends 𝓛 (records_own R ps xs) (records_lent R ps xs) l
  Lends-records ps xs = Lends-both 𝓛 (fit R) (row R ps xs) (said (fit R)) (row_lent R ps xs) l (Lends-said 𝓛 (fit R) tt l) (Lends-row ps xs)
