-- A pool is opened to its slots, and shut with other records in them. Assumes `Logic`.
use mathlib.Core.Path.{◌≡◌, refl, sym, ◌∙◌}
use Prim.Native.Nat.{ℕ}
use mathlib.Core.List.{List, [], ◌∷◌}
use lib.ListN.{length}
use seplogic.Ra.Ura.{Ura}
use base.Fraction.{full_share}
use mir.Val.{Val, vstruct, of_list}
use base.Logic.{ent, sep}
use base.Fml.{Fml, ftrue, fsep, feq, fex}
use types.Logic.{Logic, sem}
use types.Kit.{‵, ◌$◌, ◌∵◌, !, qed, move, keep, fsplit, fjoin, fpick, fpack, done}
use denote.RattleType.{RattleType, Valss, owns, flat}
use denote.RawPtr.{RawPtr}
use denote.Memory.{part_at, part_of, cell_at}
use denote.Steps.{nothing}
use denote.Struct.Declared as Declared
use denote.Struct.Struct.{within}
use Rattle.core.proofs.mem.Param.{El, R, el_x}
use Rattle.lp_pool.specs.Pool.{Held, held, IsPool}
use Rattle.lp_pool.specs.Lends.{with_items}
use Rattle.lp_pool.specs.Ownership.{row, fit}
use Rattle.lp_pool.specs.contracts.pool.Pool as pool
use Rattle.lp_pool.specs.contracts.pool.Pool.TheInside as inside
use Rattle.lp_pool.specs.declared.pool.Pool.TheInside.{Inside}
use Rattle.lp_pool.proofs.Walks.{Mark}

abbrev first_row : List RattleType → RattleType
first_row [] = RawPtr
first_row (r ∷ rs) = r

abbrev later_rows : List RattleType → List RattleType
later_rows [] = []
later_rows (r ∷ rs) = rs

module _ (E : El) where
  abbrev pub Pl : RattleType
  Pl = pool.the_row (R E)

  abbrev Ins : Declared.Declared
  Ins = inside.the_type (R E)

  abbrev rows : List RattleType
  rows = Declared.fields Ins

  -- the fields behind a pool, and the machine values of all of them and of each
  abbrev pub Opened : Held (el_x E) → Type 0
  Opened d = ((a : Inside (el_x E)) × ((held a.records.items a.records.spots ≡ d) × IsPool a.chunks.items a.len a.records.items a.records.spots)) × (List Val × Valss rows)

  module _ (rb ro : ℕ) where
    -- all but the slots
    abbrev pub Kept : (d : Held (el_x E)) → Opened d → Fml
    Kept d z =
        let a = z.0.0 in let us = z.1.0 in let vss = z.1.1 in let fields = Ins.to a in
        fsep (fit (R E)) (fsep ((Mark E).own_val (tt, tt) vss.1.1.0) (fsep (owns (later_rows (later_rows (later_rows rows))) fields.1.1.1 vss.1.1.1) (fsep ((first_row (later_rows rows)).own_val fields.1.0 vss.1.0)
        (fsep ((first_row rows).own_val fields.0 vss.0) (fsep (feq (List Val) us (vstruct (of_list (flat rows vss)) ∷ [])) (cell_at full_share Pl.mir us rb ro))))))

    module _ {M : Type 1} {𝓤 : Ura M} (𝓛 : Logic 𝓤) where
      pub opens_pool : (d : Held (el_x E)) → ent 𝓤 (sem 𝓛 (part_at Pl full_share d rb ro)) (sem 𝓛 (fex (Opened d) (λ z. fsep (row (R E) z.0.0.records.spots z.0.0.records.items) (Kept d z))))
      unfolding part_of
      opens_pool d = qed 𝓛 (‵ (part_at Pl full_share d rb ro) ∷ []) ∵ fpick ! (λ us. fsplit ! $ move ! (1 ∷ []) $ fpick ! (λ h. fsplit ! $ fpick ! (λ vss. fsplit ! $ move ! (1 ∷ []) $
          fsplit ! $ move ! (1 ∷ []) $ fsplit ! $ move ! (1 ∷ []) $ fsplit ! $ fsplit ! $ move ! (1 ∷ []) $ fsplit ! $
          -- [fit; the slots; the mark; the handle; the count; the chunks; the fields' values; nothing; the cell]
          move ! (6 ∷ 8 ∷ []) $ fjoin ! $ move ! (6 ∷ 0 ∷ []) $ fjoin ! $ move ! (5 ∷ 0 ∷ []) $ fjoin ! $ move ! (4 ∷ 0 ∷ []) $ fjoin ! $ move ! (3 ∷ 0 ∷ []) $ fjoin ! $ move ! (1 ∷ 0 ∷ []) $ fjoin ! $ move ! (1 ∷ 0 ∷ []) $ fjoin ! $
          fpack ! (Opened d) (λ z. fsep (row (R E) z.0.0.records.spots z.0.0.records.items) (Kept d z)) (h, (us, vss)) $ keep ! (0 ∷ []) $ done !)))

      pub shuts_pool : (d : Held (el_x E)) (z : Opened d) (xs : List (el_x E)) → length xs ≡ length z.0.0.records.items
          → ent 𝓤 (sep 𝓤 (sem 𝓛 (row (R E) z.0.0.records.spots xs)) (sem 𝓛 (Kept d z))) (sem 𝓛 (part_at Pl full_share (held xs z.0.0.records.spots) rb ro))
      unfolding part_of
      shuts_pool d z xs e =
          let a = z.0.0 in let us = z.1.0 in let vss = z.1.1 in
          let b : Inside (el_x E) = record { chunks = a.chunks; len = a.len; records = with_items a.records xs; alloc = a.alloc } in
          let is : IsPool b.chunks.items b.len b.records.items b.records.spots = record { counted = z.0.1.1.counted ∙ sym e; laid = z.0.1.1.laid; within = z.0.1.1.within; small = z.0.1.1.small } in
          qed 𝓛 (‵ (row (R E) a.records.spots xs) ∷ ‵ (Kept d z) ∷ []) ∵ move ! (1 ∷ []) $ fsplit ! $ move ! (0 ∷ 2 ∷ []) $ fjoin ! $ move ! (1 ∷ []) $
          fsplit ! $ move ! (0 ∷ 2 ∷ []) $ fjoin ! $ move ! (1 ∷ []) $ fsplit ! $ move ! (2 ∷ 0 ∷ []) $ fjoin ! $ move ! (1 ∷ []) $ fsplit ! $ move ! (0 ∷ 2 ∷ []) $ fjoin ! $
          move ! (1 ∷ []) $ fsplit ! $ move ! (0 ∷ 2 ∷ []) $ fjoin ! $ move ! (1 ∷ []) $ fsplit ! $ move ! (0 ∷ 2 ∷ []) $ fjoin ! $ fpack ! (Valss rows) (within (Declared.shape Ins) (Ins.to b) us) vss $
          nothing ! $ move ! (1 ∷ 0 ∷ []) $ fjoin ! $ fpack ! ((x : Inside (el_x E)) × ((held x.records.items x.records.spots ≡ held xs a.records.spots) × IsPool x.chunks.items x.len x.records.items x.records.spots)) (λ x. fsep ((Declared.row Ins).own_val x.0 us) ftrue) (b, (refl, is)) $
          move ! (1 ∷ 0 ∷ []) $ fjoin ! $ fpack ! (List Val) (λ us. fsep (cell_at full_share Pl.mir us rb ro) (Pl.own_val (held xs a.records.spots) us)) us $ done !
