-- Parts of vectors that go the way of their range are places one after another.
use Rattle.std.proofs.Common.{◌≡◌, ℕ, zero, suc, ◌+◌, ◌-◌, ◌<◌, ◌≤◌, Bool, true, false, List, [], ◌∷◌, ◌++◌, Some, refl, sym, ap, ◌∙◌, arith, append-nil, append_assoc}
use Rattle.std.specs.Prelude.{map, nat_le, slice_get, drop}
use Rattle.std.proofs.lemmas.Bool.{le-leb, leb-true}
use Rattle.std.proofs.lemmas.Grind.{flat_map-append}
use Rattle.lp_model.specs.Bits as model
use Rattle.lp_model.specs.Bits.{between, select}
use Rattle.lp_model.specs.declared.bits.Bit.{Bit}
use Rattle.lp_model.specs.declared.bits.Bit.TheVariants as bits
use Rattle.lp_model.specs.declared.netlist.BitRange.{BitRange}
use Rattle.lp_model.specs.declared.graph.EdgeFrom.{EdgeFrom}
use Rattle.lp_model.specs.declared.graph.EdgeFrom.TheVariants.{Node as FromNode, Const as FromConst}
use Rattle.lp_text.specs.declared.names.NameId.{NameId}
use Rattle.lp_spec_design.specs.Netlists.{upward}
use Rattle.lp_spec_bridge.specs.Templates.{at_start}
use Rattle.lp_templates.specs.declared.spot.Spot.{Spot}
use Rattle.lp_templates.specs.declared.piece.Piece.{Piece}
use Rattle.lp_templates.specs.Pieces.{places_from, piece_places, places_in}
use Rattle.lp_templates.specs.Numbered.{Declared, offset_in, place_at, from_place, place_of, spot_of}
use Rattle.lp_templates.specs.Values.{places_of, part_places}

-- the tests of a range
not-le : (a b : ℕ) → b < a → nat_le a b ≡ false
not-le a b l = by (nat_le a b) refl
  where
    by : (t : Bool) → nat_le a b ≡ t → t ≡ false
    by true e = absurd (omega (arith, leb-true a b e, l))
    by false e = refl

up-offset : (r : BitRange) (i : ℕ) → r.left ≤ r.right → r.left ≤ i → i ≤ r.right → offset_in r i ≡ Some (i - r.left)
up-offset r i o a b = rw (le-leb r.left r.right o, le-leb r.left i a, le-leb i r.right b) refl

down-offset : (r : BitRange) (i : ℕ) → r.right < r.left → r.right ≤ i → i ≤ r.left → offset_in r i ≡ Some (r.left - i)
down-offset r i o a b = rw (not-le r.left r.right o, le-leb r.right i a, le-leb i r.left b) refl

module _ (start : ℕ) (r : BitRange) (first : ℕ) where
  abbrev spot : Spot
  spot = record { start = start; range = Some r }

  up-from : (n k : ℕ) → r.left ≤ r.right → r.left ≤ first → first + k + n ≤ r.right + 1
      → map (λ i. at_start i (FromNode (record { 0 = start + (first - r.left) }))) (upward n k) ≡ map (λ i. from_place (place_at (Some i) spot)) (model.indices true first k n)
  up-from zero k o a b = refl
  up-from (suc n) k o a b =
      let here : offset_in r (first + k) ≡ Some (first + k - r.left) = up-offset r (first + k) o (omega (arith, a)) (omega (arith, b)) in
      let e : k + (start + (first - r.left)) ≡ first + k - r.left + start = omega (arith, a) in
      let head : FromNode (record { 0 = k + (start + (first - r.left)) }) ≡ from_place (place_at (Some (first + k)) spot) = rw here (ap (λ z. FromNode (record { 0 = z })) e) in
      λ i. head i ∷ up-from n (k + 1) o a (omega (arith, b)) i

  down-from : (n k : ℕ) → r.right < r.left → first ≤ r.left → r.right + k + n ≤ first + 1
      → map (λ i. at_start i (FromNode (record { 0 = start + (r.left - first) }))) (upward n k) ≡ map (λ i. from_place (place_at (Some i) spot)) (model.indices false first k n)
  down-from zero k o a b = refl
  down-from (suc n) k o a b =
      let here : offset_in r (first - k) ≡ Some (r.left - (first - k)) = down-offset r (first - k) o (omega (arith, b)) (omega (arith, a)) in
      let e : k + (start + (r.left - first)) ≡ r.left - (first - k) + start = omega (arith, a, b) in
      let head : FromNode (record { 0 = k + (start + (r.left - first)) }) ≡ from_place (place_at (Some (first - k)) spot) = rw here (ap (λ z. FromNode (record { 0 = z })) e) in
      λ i. head i ∷ down-from n (k + 1) o a (omega (arith, b)) i

  pub up_part : (last : ℕ) → r.left ≤ r.right → r.left ≤ first → first ≤ last → last ≤ r.right
      → places_from (FromNode (record { 0 = start + (first - r.left) })) (last - first + 1) ≡ part_places spot first last
  up_part last o a p b =
      let here : between first last ≡ model.indices true first 0 (last - first + 1) = rw (le-leb first last p) refl in
      up-from (last - first + 1) 0 o a (omega (arith, p, b)) ∙ ap (map (λ i. from_place (place_at (Some i) spot))) (sym here)

  pub down_part : (last : ℕ) → r.right < r.left → first ≤ r.left → last < first → r.right ≤ last
      → places_from (FromNode (record { 0 = start + (r.left - first) })) (first - last + 1) ≡ part_places spot first last
  down_part last o a p b =
      let here : between first last ≡ model.indices false first 0 (first - last + 1) = rw (not-le first last p) refl in
      down-from (first - last + 1) 0 o a (omega (arith, p, b)) ∙ ap (map (λ i. from_place (place_at (Some i) spot))) (sym here)

-- ---- a run

map-select : (d : Declared) (name : NameId) (x : Spot) → spot_of d name.0 ≡ Some x → (ks : List ℕ)
    → map (λ k. from_place (place_at (Some k) x)) ks ≡ map (place_of d) (map (λ k. bits.Select name k) ks)
map-select d name x e [] = refl
map-select d name x e (k ∷ ks) = let head : from_place (place_at (Some k) x) ≡ place_of d (bits.Select name k) = rw e refl in λ i. head i ∷ map-select d name x e ks i

pub selected : (d : Declared) (name : NameId) (x : Spot) (i j : ℕ) → spot_of d name.0 ≡ Some x → part_places x i j ≡ places_of d (select name i j)
selected d name x i j e = map-select d name x e (between i j)

-- ---- one by one

pub drop_at : {A : Type 0} (xs : List A) (k : ℕ) (x : A) → slice_get xs k ≡ Some x → drop k xs ≡ x ∷ drop (k + 1) xs
drop_at [] k x e = cc
drop_at (y ∷ ys) zero x e = let same : y ≡ x = cc in ap (λ z. z ∷ ys) same
drop_at (y ∷ ys) (suc k) x e =
    let n : suc k + 1 ≡ suc (k + 1) = omega arith in
    drop_at ys k x e ∙ ap (λ z. x ∷ drop z (y ∷ ys)) (sym n)

start-zero : (from : EdgeFrom) → at_start 0 from ≡ from
start-zero (FromNode k) = let e : 0 + k.0 ≡ k.0 = omega arith in ap (λ z. FromNode (record { 0 = z })) e
start-zero (FromConst b) = refl

pub one_place : (from : EdgeFrom) → places_from from 1 ≡ from ∷ []
one_place from = ap (λ z. z ∷ []) (start-zero from)

-- one more piece of one place
pub one_more : (ps : List Piece) (p : Piece) (d : Declared) (bs : List Bit) (k : ℕ) (b : Bit) (goal : List EdgeFrom) → slice_get bs k ≡ Some b → piece_places p ≡ place_of d b ∷ []
    → places_in ps ++ places_of d (drop k bs) ≡ goal → places_in (ps ++ p ∷ []) ++ places_of d (drop (k + 1) bs) ≡ goal
one_more ps p d bs k b goal got is e =
    let rest = places_of d (drop (k + 1) bs) in
    ap (λ z. z ++ rest) (flat_map-append piece_places ps (p ∷ []))
    ∙ ap (λ z. (places_in ps ++ z) ++ rest) (append-nil (piece_places p) ∙ is)
    ∙ append_assoc (places_in ps) (place_of d b ∷ []) rest
    ∙ ap (λ z. places_in ps ++ places_of d z) (sym (drop_at bs k b got))
    ∙ e
