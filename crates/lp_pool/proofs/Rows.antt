-- One slot or two are taken out of the row, put back, or seen; slots are added or given away. Assumes `Logic`.
use mathlib.Core.Path.{◌≡◌, refl, sym, ap}
use Prim.Native.Nat.{ℕ, zero, suc, ◌+◌, ◌*◌, ◌<◌, ◌≤◌}
use native.Mathlib.Omega.{arith}
use native.Mathlib.Nat.{suc-mul}
use mathlib.Core.List.{List, [], ◌∷◌, ◌++◌}
use lib.ListN.{length, set, get_or, take}
use seplogic.Ra.Ura.{Ura}
use base.Logic.{ent, sep, never, id⊢, mono_r}
use base.Fml.{Fml, Lft, ftrue, ffalse, fsep, froom}
use mir.Syntax.{ty_array}
use types.Logic.{Logic, sem}
use types.Kit.{‵, ◌⊛◌, ◌$◌, ◌∵◌, !, qed, by, move, keep, use1, use2, use3, split, frame, fsplit, fjoin, rewrite, done}
use denote.RawPtr.{block_ptr, null_ptr}
use denote.Steps.{nothing}
use Rattle.core.proofs.mem.Param.{El, R, el_x, elτ}
use Rattle.lp_pool.specs.Places.{Spot, nowhere, slots_in}
use Rattle.lp_pool.specs.Ownership.{held, vacant, row, held_lent, row_lent}
use Rattle.lp_pool.proofs.Walks.{sz}

module _ (E : El) where
  abbrev Row : List Spot → List (el_x E) → Fml
  Row = row (R E)

  -- the slots but for the one at a place
  abbrev pub besides : List Spot → List (el_x E) → ℕ → Fml
  besides [] xs k = ftrue
  besides (p ∷ ps) [] k = ftrue
  besides (p ∷ ps) (x ∷ xs) zero = Row ps xs
  besides (p ∷ ps) (x ∷ xs) (suc k) = fsep (held (R E) p x) (besides ps xs k)

  -- the slots but for those at two places
  abbrev pub besides_two : List Spot → List (el_x E) → ℕ → ℕ → Fml
  besides_two [] xs i j = ftrue
  besides_two (p ∷ ps) [] i j = ftrue
  besides_two (p ∷ ps) (x ∷ xs) zero zero = ftrue
  besides_two (p ∷ ps) (x ∷ xs) zero (suc j) = besides ps xs j
  besides_two (p ∷ ps) (x ∷ xs) (suc i) zero = besides ps xs i
  besides_two (p ∷ ps) (x ∷ xs) (suc i) (suc j) = fsep (held (R E) p x) (besides_two ps xs i j)

  -- the slots but for the first empty one
  abbrev pub but_next : List Spot → List (el_x E) → Fml
  but_next [] xs = ftrue
  but_next (p ∷ ps) [] = Row ps []
  but_next (p ∷ ps) (x ∷ xs) = fsep (held (R E) p x) (but_next ps xs)

module _ (E : El) {M : Type 1} {𝓤 : Ura M} (𝓛 : Logic 𝓤) where
  open 𝓛 use {H}

  abbrev Held : Spot → el_x E → Fml
  Held = held (R E)

  pub slot_out : (ps : List Spot) (xs : List (el_x E)) (k : ℕ) (d : el_x E) → k < length ps → k < length xs
      → ent 𝓤 (sem 𝓛 (row (R E) ps xs)) (sep 𝓤 (sem 𝓛 (Held (get_or ps k nowhere) (get_or xs k d))) (sem 𝓛 (besides E ps xs k)))
  slot_out [] xs k d l m = absurd (omega arith)
  slot_out (p ∷ ps) [] k d l m = absurd (omega arith)
  slot_out (p ∷ ps) (x ∷ xs) zero d l m = id⊢ 𝓤 _
  slot_out (p ∷ ps) (x ∷ xs) (suc k) d l m = qed 𝓛 (‵ (fsep (Held p x) (row (R E) ps xs)) ∷ []) ∵ fsplit ! $ move ! (1 ∷ []) $
      use1 𝓛 (‵ (Held (get_or ps k nowhere) (get_or xs k d)) ⊛ ‵ (besides E ps xs k)) (slot_out ps xs k d (omega arith) (omega arith)) $ split ! $ move ! (2 ∷ 1 ∷ []) $ fjoin ! $ move ! (1 ∷ 0 ∷ []) $ done !

  pub slot_in : (ps : List Spot) (xs : List (el_x E)) (k : ℕ) (w : el_x E) → k < length ps → k < length xs
      → ent 𝓤 (sep 𝓤 (sem 𝓛 (Held (get_or ps k nowhere) w)) (sem 𝓛 (besides E ps xs k))) (sem 𝓛 (row (R E) ps (set xs k w)))
  slot_in [] xs k w l m = absurd (omega arith)
  slot_in (p ∷ ps) [] k w l m = absurd (omega arith)
  slot_in (p ∷ ps) (x ∷ xs) zero w l m = id⊢ 𝓤 _
  slot_in (p ∷ ps) (x ∷ xs) (suc k) w l m = qed 𝓛 (‵ (Held (get_or ps k nowhere) w) ∷ ‵ (fsep (Held p x) (besides E ps xs k)) ∷ []) ∵ move ! (1 ∷ []) $ fsplit ! $ move ! (2 ∷ 1 ∷ []) $
      use2 𝓛 (‵ (row (R E) ps (set xs k w))) (slot_in ps xs k w (omega arith) (omega arith)) $ move ! (1 ∷ 0 ∷ []) $ fjoin ! $ done !

  pub pair_out : (ps : List Spot) (xs : List (el_x E)) (i j : ℕ) (d : el_x E) → i < length ps → i < length xs → j < length ps → j < length xs → ¬ (i ≡ j)
      → ent 𝓤 (sem 𝓛 (row (R E) ps xs)) (sep 𝓤 (sem 𝓛 (Held (get_or ps i nowhere) (get_or xs i d))) (sep 𝓤 (sem 𝓛 (Held (get_or ps j nowhere) (get_or xs j d))) (sem 𝓛 (besides_two E ps xs i j))))
  pair_out [] xs i j d l m l' m' ne = absurd (omega arith)
  pair_out (p ∷ ps) [] i j d l m l' m' ne = absurd (omega arith)
  pair_out (p ∷ ps) (x ∷ xs) zero zero d l m l' m' ne = absurd (ne refl)
  pair_out (p ∷ ps) (x ∷ xs) zero (suc j) d l m l' m' ne = mono_r 𝓤 (sem 𝓛 (Held p x)) (slot_out ps xs j d (omega arith) (omega arith))
  pair_out (p ∷ ps) (x ∷ xs) (suc i) zero d l m l' m' ne = qed 𝓛 (‵ (fsep (Held p x) (row (R E) ps xs)) ∷ []) ∵ fsplit ! $ move ! (1 ∷ []) $
      use1 𝓛 (‵ (Held (get_or ps i nowhere) (get_or xs i d)) ⊛ ‵ (besides E ps xs i)) (slot_out ps xs i d (omega arith) (omega arith)) $ split ! $ move ! (0 ∷ 2 ∷ 1 ∷ []) $ done !
  pair_out (p ∷ ps) (x ∷ xs) (suc i) (suc j) d l m l' m' ne = qed 𝓛 (‵ (fsep (Held p x) (row (R E) ps xs)) ∷ []) ∵ fsplit ! $ move ! (1 ∷ []) $
      use1 𝓛 (‵ (Held (get_or ps i nowhere) (get_or xs i d)) ⊛ ‵ (Held (get_or ps j nowhere) (get_or xs j d)) ⊛ ‵ (besides_two E ps xs i j))
      (pair_out ps xs i j d (omega arith) (omega arith) (omega arith) (omega arith) (λ e. ne (ap suc e))) $ split ! $ move ! (1 ∷ []) $ split ! $ move ! (3 ∷ 1 ∷ []) $ fjoin ! $ move ! (2 ∷ 1 ∷ 0 ∷ []) $ done !

  pub pair_in : (ps : List Spot) (xs : List (el_x E)) (i j : ℕ) (v w : el_x E) → i < length ps → i < length xs → j < length ps → j < length xs → ¬ (i ≡ j)
      → ent 𝓤 (sep 𝓤 (sem 𝓛 (Held (get_or ps i nowhere) v)) (sep 𝓤 (sem 𝓛 (Held (get_or ps j nowhere) w)) (sem 𝓛 (besides_two E ps xs i j)))) (sem 𝓛 (row (R E) ps (set (set xs i v) j w)))
  pair_in [] xs i j v w l m l' m' ne = absurd (omega arith)
  pair_in (p ∷ ps) [] i j v w l m l' m' ne = absurd (omega arith)
  pair_in (p ∷ ps) (x ∷ xs) zero zero v w l m l' m' ne = absurd (ne refl)
  pair_in (p ∷ ps) (x ∷ xs) zero (suc j) v w l m l' m' ne = mono_r 𝓤 (sem 𝓛 (Held p v)) (slot_in ps xs j w (omega arith) (omega arith))
  pair_in (p ∷ ps) (x ∷ xs) (suc i) zero v w l m l' m' ne = qed 𝓛 (‵ (Held (get_or ps i nowhere) v) ∷ ‵ (Held p w) ∷ ‵ (besides E ps xs i) ∷ []) ∵ move ! (0 ∷ 2 ∷ []) $
      use2 𝓛 (‵ (row (R E) ps (set xs i v))) (slot_in ps xs i v (omega arith) (omega arith)) $ move ! (1 ∷ 0 ∷ []) $ fjoin ! $ done !
  pair_in (p ∷ ps) (x ∷ xs) (suc i) (suc j) v w l m l' m' ne = qed 𝓛 (‵ (Held (get_or ps i nowhere) v) ∷ ‵ (Held (get_or ps j nowhere) w) ∷ ‵ (fsep (Held p x) (besides_two E ps xs i j)) ∷ []) ∵
      move ! (2 ∷ []) $ fsplit ! $ move ! (2 ∷ 3 ∷ 1 ∷ []) $
      use3 𝓛 (‵ (row (R E) ps (set (set xs i v) j w))) (pair_in ps xs i j v w (omega arith) (omega arith) (omega arith) (omega arith) (λ e. ne (ap suc e))) $ move ! (1 ∷ 0 ∷ []) $ fjoin ! $ done !

  pub next_out : (ps : List Spot) (xs : List (el_x E)) → length xs < length ps
      → ent 𝓤 (sem 𝓛 (row (R E) ps xs)) (sep 𝓤 (sem 𝓛 (vacant (R E) (get_or ps (length xs) nowhere))) (sem 𝓛 (but_next E ps xs)))
  next_out [] xs l = absurd (omega arith)
  next_out (p ∷ ps) [] l = id⊢ 𝓤 _
  next_out (p ∷ ps) (x ∷ xs) l = qed 𝓛 (‵ (fsep (Held p x) (row (R E) ps xs)) ∷ []) ∵ fsplit ! $ move ! (1 ∷ []) $
      use1 𝓛 (‵ (vacant (R E) (get_or ps (length xs) nowhere)) ⊛ ‵ (but_next E ps xs)) (next_out ps xs (omega arith)) $ split ! $ move ! (2 ∷ 1 ∷ []) $ fjoin ! $ move ! (1 ∷ 0 ∷ []) $ done !

  pub next_in : (ps : List Spot) (xs : List (el_x E)) → length xs < length ps
      → ent 𝓤 (sep 𝓤 (sem 𝓛 (vacant (R E) (get_or ps (length xs) nowhere))) (sem 𝓛 (but_next E ps xs))) (sem 𝓛 (row (R E) ps xs))
  next_in [] xs l = absurd (omega arith)
  next_in (p ∷ ps) [] l = id⊢ 𝓤 _
  next_in (p ∷ ps) (x ∷ xs) l = qed 𝓛 (‵ (vacant (R E) (get_or ps (length xs) nowhere)) ∷ ‵ (fsep (Held p x) (but_next E ps xs)) ∷ []) ∵ move ! (1 ∷ []) $ fsplit ! $ move ! (2 ∷ 1 ∷ []) $
      use2 𝓛 (‵ (row (R E) ps xs)) (next_in ps xs (omega arith)) $ move ! (1 ∷ 0 ∷ []) $ fjoin ! $ done !

  pub last_out : (ps : List Spot) (xs : List (el_x E)) (w : el_x E) → length xs < length ps
      → ent 𝓤 (sem 𝓛 (row (R E) ps (xs ++ w ∷ []))) (sep 𝓤 (sem 𝓛 (Held (get_or ps (length xs) nowhere) w)) (sem 𝓛 (but_next E ps xs)))
  last_out [] xs w l = absurd (omega arith)
  last_out (p ∷ ps) [] w l = id⊢ 𝓤 _
  last_out (p ∷ ps) (x ∷ xs) w l = qed 𝓛 (‵ (fsep (Held p x) (row (R E) ps (xs ++ w ∷ []))) ∷ []) ∵ fsplit ! $ move ! (1 ∷ []) $
      use1 𝓛 (‵ (Held (get_or ps (length xs) nowhere) w) ⊛ ‵ (but_next E ps xs)) (last_out ps xs w (omega arith)) $ split ! $ move ! (2 ∷ 1 ∷ []) $ fjoin ! $ move ! (1 ∷ 0 ∷ []) $ done !

  pub last_in : (ps : List Spot) (xs : List (el_x E)) (w : el_x E) → length xs < length ps
      → ent 𝓤 (sep 𝓤 (sem 𝓛 (Held (get_or ps (length xs) nowhere) w)) (sem 𝓛 (but_next E ps xs))) (sem 𝓛 (row (R E) ps (xs ++ w ∷ [])))
  last_in [] xs w l = absurd (omega arith)
  last_in (p ∷ ps) [] w l = id⊢ 𝓤 _
  last_in (p ∷ ps) (x ∷ xs) w l = qed 𝓛 (‵ (Held (get_or ps (length xs) nowhere) w) ∷ ‵ (fsep (Held p x) (but_next E ps xs)) ∷ []) ∵ move ! (1 ∷ []) $ fsplit ! $ move ! (2 ∷ 1 ∷ []) $
      use2 𝓛 (‵ (row (R E) ps (xs ++ w ∷ []))) (last_in ps xs w (omega arith)) $ move ! (1 ∷ 0 ∷ []) $ fjoin ! $ done !

  pub joins : (ps qs : List Spot) (xs : List (el_x E)) → length xs ≤ length ps → ent 𝓤 (sep 𝓤 (sem 𝓛 (row (R E) ps xs)) (sem 𝓛 (row (R E) qs []))) (sem 𝓛 (row (R E) (ps ++ qs) xs))
  joins [] qs [] l = qed 𝓛 (‵ ftrue ∷ ‵ (row (R E) qs []) ∷ []) ∵ keep ! (1 ∷ []) $ done !
  joins [] qs (x ∷ xs) l = absurd (omega arith)
  joins (p ∷ ps) qs [] l = qed 𝓛 (‵ (fsep (vacant (R E) p) (row (R E) ps [])) ∷ ‵ (row (R E) qs []) ∷ []) ∵ fsplit ! $ move ! (1 ∷ 2 ∷ []) $
      use2 𝓛 (‵ (row (R E) (ps ++ qs) [])) (joins ps qs [] (omega arith)) $ move ! (1 ∷ 0 ∷ []) $ fjoin ! $ done !
  joins (p ∷ ps) qs (x ∷ xs) l = qed 𝓛 (‵ (fsep (Held p x) (row (R E) ps xs)) ∷ ‵ (row (R E) qs []) ∷ []) ∵ fsplit ! $ move ! (1 ∷ 2 ∷ []) $
      use2 𝓛 (‵ (row (R E) (ps ++ qs) xs)) (joins ps qs xs (omega arith)) $ move ! (1 ∷ 0 ∷ []) $ fjoin ! $ done !

  pub cuts : (ps qs : List Spot) (xs : List (el_x E)) → length xs ≤ length ps → ent 𝓤 (sem 𝓛 (row (R E) (ps ++ qs) xs)) (sep 𝓤 (sem 𝓛 (row (R E) ps xs)) (sem 𝓛 (row (R E) qs [])))
  cuts [] qs [] l = qed 𝓛 (‵ (row (R E) qs []) ∷ []) ∵ nothing ! $ done !
  cuts [] qs (x ∷ xs) l = absurd (omega arith)
  cuts (p ∷ ps) qs [] l = qed 𝓛 (‵ (fsep (vacant (R E) p) (row (R E) (ps ++ qs) [])) ∷ []) ∵ fsplit ! $ move ! (1 ∷ []) $
      use1 𝓛 (‵ (row (R E) ps []) ⊛ ‵ (row (R E) qs [])) (cuts ps qs [] (omega arith)) $ split ! $ move ! (2 ∷ 0 ∷ []) $ fjoin ! $ done !
  cuts (p ∷ ps) qs (x ∷ xs) l = qed 𝓛 (‵ (fsep (Held p x) (row (R E) (ps ++ qs) xs)) ∷ []) ∵ fsplit ! $ move ! (1 ∷ []) $
      use1 𝓛 (‵ (row (R E) ps xs) ⊛ ‵ (row (R E) qs [])) (cuts ps qs xs (omega arith)) $ split ! $ move ! (2 ∷ 0 ∷ []) $ fjoin ! $ done !

  module _ (b o : ℕ) where
    next : (i : ℕ) → i * sz E + o + sz E ≡ suc i * sz E + o
    next i = omega (arith, suc-mul i (sz E))

    pub of_room : (n i : ℕ) → ent 𝓤 (H.room (ty_array (elτ E) n) b (i * sz E + o)) (sem 𝓛 (row (R E) (slots_in (block_ptr b o) i n) []))
    of_room zero i = qed 𝓛 (‵ (froom (ty_array (elτ E) 0) b (i * sz E + o)) ∷ []) ∵ keep ! [] $ done !
    of_room (suc n) i = qed 𝓛 (‵ (froom (ty_array (elτ E) (suc n)) b (i * sz E + o)) ∷ []) ∵
        use1 𝓛 (‵ (froom (elτ E) b (i * sz E + o)) ⊛ ‵ (froom (ty_array (elτ E) n) b (i * sz E + o + sz E))) (𝓛.laws.room_uncons (elτ E) n b (i * sz E + o)) $ split ! $
        use1 𝓛 (‵ (vacant (R E) (block_ptr b o, i))) (𝓛.laws.room-raw (elτ E) b (i * sz E + o)) $ frame ! $
        rewrite ! 0 (λ (k : ℕ). ‵ (froom (ty_array (elτ E) n) b k)) (next i) refl $ by ! (of_room n (suc i))

    pub to_room : (n i : ℕ) → ent 𝓤 (sem 𝓛 (row (R E) (slots_in (block_ptr b o) i n) [])) (H.room (ty_array (elτ E) n) b (i * sz E + o))
    to_room zero i = 𝓛.laws.room_nil (elτ E) b (i * sz E + o)
    to_room (suc n) i = qed 𝓛 (‵ (vacant (R E) (block_ptr b o, i)) ∷ ‵ (row (R E) (slots_in (block_ptr b o) (suc i) n) []) ∷ []) ∵
        use1 𝓛 (‵ (froom (elτ E) b (i * sz E + o))) (𝓛.laws.raw-room (elτ E) b (i * sz E + o)) $ move ! (1 ∷ []) $
        use1 𝓛 (‵ (froom (ty_array (elτ E) n) b (suc i * sz E + o))) (to_room n (suc i)) $
        rewrite ! 0 (λ (k : ℕ). ‵ (froom (ty_array (elτ E) n) b k)) (sym (next i)) refl $ move ! (1 ∷ []) $ by ! (𝓛.laws.room_cons (elτ E) n b (i * sz E + o))

  pub slot_seen : (κ : Lft) (ps : List Spot) (xs : List (el_x E)) (k : ℕ) (d : el_x E) → k < length ps → k < length xs
      → ent 𝓤 (sem 𝓛 (row_lent (R E) ps xs κ)) (sem 𝓛 (held_lent (R E) (get_or ps k nowhere) (get_or xs k d) κ))
  slot_seen κ [] xs k d l m = absurd (omega arith)
  slot_seen κ (p ∷ ps) [] k d l m = absurd (omega arith)
  slot_seen κ (p ∷ ps) (x ∷ xs) zero d l m = qed 𝓛 (‵ (fsep (held_lent (R E) p x κ) (row_lent (R E) ps xs κ)) ∷ []) ∵ fsplit ! $ keep ! (0 ∷ []) $ done !
  slot_seen κ (p ∷ ps) (x ∷ xs) (suc k) d l m = qed 𝓛 (‵ (fsep (held_lent (R E) p x κ) (row_lent (R E) ps xs κ)) ∷ []) ∵ fsplit ! $ keep ! (1 ∷ []) $ by ! (slot_seen κ ps xs k d (omega arith) (omega arith))

-- a list without its last item, and that item
pub last_split : {X : Type 0} (xs : List X) (n : ℕ) (d : X) → n + 1 ≡ length xs → take n xs ++ get_or xs n d ∷ [] ≡ xs
last_split [] n d e = absurd (omega (arith, e))
last_split (x ∷ []) zero d e = refl
last_split (x ∷ y ∷ xs) zero d e = absurd (omega (arith, e))
last_split (x ∷ xs) (suc n) d e = ap (λ l. x ∷ l) (last_split xs n d (omega (arith, e)))

pub length_init : {X : Type 0} (xs : List X) (n : ℕ) → n + 1 ≡ length xs → length (take n xs) ≡ n
length_init [] n e = absurd (omega (arith, e))
length_init (x ∷ xs) zero e = refl
length_init (x ∷ xs) (suc n) e = ap suc (length_init xs n (omega (arith, e)))

-- no chunk lies at null
pub null_row : (E : El) {M : Type 1} {𝓤 : Ura M} (𝓛 : Logic 𝓤) (n : ℕ) → 0 < n → ent 𝓤 (sem 𝓛 (row (R E) (slots_in null_ptr 0 n) [])) (never 𝓤)
null_row E 𝓛 zero l = absurd (omega arith)
null_row E {𝓤 = 𝓤} 𝓛 (suc n) l = qed 𝓛 (‵ (fsep ffalse (row (R E) (slots_in null_ptr 1 n) [])) ∷ []) ∵ fsplit ! $ keep ! (0 ∷ []) $ by ! (id⊢ 𝓤 (never 𝓤))
