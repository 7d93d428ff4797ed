-- The place of a bit by the number of its name is the place of that bit among the module's bits.
use Rattle.std.proofs.Common.{◌≡◌, ◌⊎◌, ℕ, zero, suc, ◌+◌, ◌-◌, ◌<◌, ◌≤◌, ◌==◌, Bool, true, false, List, [], ◌∷◌, ◌++◌, map, length, Option, Some, None, inl, inr, refl, sym, ap, ◌∙◌, subst, arith}
use Rattle.std.specs.Prelude.{flat_map, nat_le, ◌&&◌, sum_by, slice_get, slice_index_or, if◌then◌else◌}
use Rattle.std.specs.Option.{option_map, option_and_then}
use Rattle.std.proofs.lemmas.Bool.{and_parts, true≢false, eqb-true, leb-true, leb-false, le-leb, lt-ltb}
use Rattle.std.proofs.lemmas.List.{map-append}
use Rattle.std.proofs.lemmas.List.Sums.{sum_by-cons}
use Rattle.lp_text.specs.Texts.{text_at, distinct, true-same_text}
use Rattle.lp_model.specs.declared.bits.Bit.{Bit}
use Rattle.lp_model.specs.declared.bits.Bit.TheVariants as bits
use Rattle.lp_model.specs.declared.graph.EdgeFrom.{EdgeFrom}
use Rattle.lp_model.specs.declared.graph.EdgeFrom.TheVariants.{Node as FromNode}
use Rattle.lp_model.specs.declared.netlist.BitRange.{BitRange}
use Rattle.lp_model.specs.declared.netlist.Module.{Module}
use Rattle.lp_model.specs.declared.netlist.NetDecl.{NetDecl}
use Rattle.lp_model.specs.declared.netlist.Port.{Port}
use Rattle.lp_model.specs.Agreement.{numbers_below}
use Rattle.lp_model.specs.NetlistView.{BitView, NetBit, SelectBit, ConstBit, PortView, NetView, ModuleView, bit_view, bit_numbers, port_view, net_view, module_view}
use Rattle.lp_spec_design.specs.Keys.{Name}
use Rattle.lp_spec_design.specs.Netlists.{upward, downward, indices}
use Rattle.lp_spec_design.specs.Winners.{IsIn}
use Rattle.lp_spec_design.proofs.Members.{in-either, of-map, of-flat, in-map}
use Rattle.lp_spec_faults.specs.Modules.{bit_count}
use Rattle.lp_spec_bridge.specs.Keyed.{IsApart}
use Rattle.lp_spec_bridge.specs.Names.{net_names}
use Rattle.lp_spec_bridge.specs.Templates.{bit_named, bits_in, place_bit, has_place}
use Rattle.lp_spec_bridge.proofs.Trails.{map-map}
use Rattle.lp_spec_layout.proofs.Lists.{get-left, get-right, get-map, flat-append, flat-map}
use Rattle.lp_places.specs.Places.{place_of_number}
use Rattle.lp_places.proofs.Numbers.{below-head, below-tail, same_name}
use Rattle.lp_spec_numbered.specs.Read.{IsBitOf}
use Rattle.lp_templates.specs.Numbered.{spots_from, port_width, declared_in, offset_of, place_at, spot_of, from_place, place_named, place_of}

-- ---- indices

pub get-upward : (n k j : ℕ) → j < n → slice_get (upward n k) j ≡ Some (k + j)
get-upward zero k j h = absurd (omega (arith, h))
get-upward (suc n) k zero h = let e : k ≡ k + 0 = omega arith in ap (λ z. Some z) e
get-upward (suc n) k (suc j) h = let e : k + 1 + j ≡ k + suc j = omega arith in get-upward n (k + 1) j (omega (arith, h)) ∙ ap (λ z. Some z) e

get-downward : (n k j : ℕ) → j < n → slice_get (downward n k) j ≡ Some (k - j)
get-downward zero k j h = absurd (omega (arith, h))
get-downward (suc n) k zero h = let e : k ≡ k - 0 = omega arith in ap (λ z. Some z) e
get-downward (suc n) k (suc j) h = let e : k - 1 - j ≡ k - suc j = omega arith in get-downward n (k - 1) j (omega (arith, h)) ∙ ap (λ z. Some z) e

in-upward : (n k i : ℕ) → IsIn i (upward n k) → (k ≤ i) × (i < k + n)
in-upward zero k i h = absurd h
in-upward (suc n) k i (inl is) = omega (arith, is)
in-upward (suc n) k i (inr h) = let more = in-upward n (k + 1) i h in omega (arith, more.0, more.1)

in-downward : (n k i : ℕ) → n ≤ k + 1 → IsIn i (downward n k) → (i ≤ k) × (k < i + n)
in-downward zero k i low h = absurd h
in-downward (suc n) k i low (inl is) = omega (arith, is)
in-downward (suc n) k i low (inr h) = let more = in-downward n (k - 1) i (omega (arith, low)) h in omega (arith, more.0, more.1)

length-upward : (n k : ℕ) → length (upward n k) ≡ n
length-upward zero k = refl
length-upward (suc n) k = omega (arith, length-upward n (k + 1))

length-downward : (n k : ℕ) → length (downward n k) ≡ n
length-downward zero k = refl
length-downward (suc n) k = omega (arith, length-downward n (k - 1))

pub length-map : {A B : Type 0} (f : A → B) (xs : List A) → length (map f xs) ≡ length xs
length-map f [] = refl
length-map f (x ∷ xs) = ap suc (length-map f xs)

pub length-indices : (r : Option BitRange) → length (indices r) ≡ bit_count r
length-indices None = refl
length-indices (Some r) = by (nat_le r.left r.right)
  where
    by : (b : Bool) → length (map (λ (i : ℕ). Some i) (if b then upward (r.right + 1 - r.left) r.left else downward (r.left + 1 - r.right) r.left)) ≡ (if b then r.right + 1 - r.left else r.left + 1 - r.right)
    by true = length-map (λ (i : ℕ). Some i) (upward (r.right + 1 - r.left) r.left) ∙ length-upward (r.right + 1 - r.left) r.left
    by false = length-map (λ (i : ℕ). Some i) (downward (r.left + 1 - r.right) r.left) ∙ length-downward (r.left + 1 - r.right) r.left

-- the index at an offset
offset-at : (r : Option BitRange) (i : Option ℕ) (j : ℕ) → offset_of r i ≡ Some j → slice_get (indices r) j ≡ Some i
offset-at None None j e = let is : j ≡ 0 = cc in ap (slice_get (None ∷ [])) is
offset-at None (Some i) j e = cc
offset-at (Some r) None j e = cc
offset-at (Some r) (Some i) j e = by (nat_le r.left r.right) refl (nat_le r.left i && nat_le i r.right) refl (nat_le r.right i && nat_le i r.left) refl e
  where
    by : (up : Bool) → nat_le r.left r.right ≡ up → (a : Bool) → (nat_le r.left i && nat_le i r.right) ≡ a → (b : Bool) → (nat_le r.right i && nat_le i r.left) ≡ b
        → (if up then (if a then Some (i - r.left) else None) else (if b then Some (r.left - i) else None)) ≡ Some j
        → slice_get (map (λ (k : ℕ). Some k) (if up then upward (r.right + 1 - r.left) r.left else downward (r.left + 1 - r.right) r.left)) j ≡ Some (Some i)
    by true u true f b g h =
        let parts = and_parts (nat_le r.left i) (nat_le i r.right) f in
        let low = leb-true r.left i parts.0 in
        let high = leb-true i r.right parts.1 in
        let is : i - r.left ≡ j = cc in
        let back : r.left + j ≡ i = omega (arith, is, low) in
        get-map (λ (k : ℕ). Some k) (upward (r.right + 1 - r.left) r.left) j (r.left + j) (get-upward (r.right + 1 - r.left) r.left j (omega (arith, is, low, high))) ∙ ap (λ k. Some (Some k)) back
    by true u false f b g h = cc
    by false u a f true g h =
        let parts = and_parts (nat_le r.right i) (nat_le i r.left) g in
        let low = leb-true r.right i parts.0 in
        let high = leb-true i r.left parts.1 in
        let is : r.left - i ≡ j = cc in
        let back : r.left - j ≡ i = omega (arith, is, high) in
        get-map (λ (k : ℕ). Some k) (downward (r.left + 1 - r.right) r.left) j (r.left - j) (get-downward (r.left + 1 - r.right) r.left j (omega (arith, is, low, high))) ∙ ap (λ k. Some (Some k)) back
    by false u a f false g h = cc

-- the offset of an index
offset-of : (r : Option BitRange) (i : Option ℕ) → IsIn i (indices r) → (j : ℕ) × (offset_of r i ≡ Some j)
offset-of None None h = (0, refl)
offset-of None (Some i) (inl is) = cc
offset-of None (Some i) (inr h) = absurd h
offset-of (Some r) None h = let there = of-map (λ (k : ℕ). Some k) None (if nat_le r.left r.right then upward (r.right + 1 - r.left) r.left else downward (r.left + 1 - r.right) r.left) h in let is = there.2 in cc
offset-of (Some r) (Some i) h =
    let there = of-map (λ (k : ℕ). Some k) (Some i) (if nat_le r.left r.right then upward (r.right + 1 - r.left) r.left else downward (r.left + 1 - r.right) r.left) h in
    let found : Some i ≡ Some there.0 = there.2 in
    let is : there.0 ≡ i = cc in
    by (nat_le r.left r.right) refl (subst (λ k. IsIn k (if nat_le r.left r.right then upward (r.right + 1 - r.left) r.left else downward (r.left + 1 - r.right) r.left)) is there.1)
  where
    by : (up : Bool) → nat_le r.left r.right ≡ up → IsIn i (if up then upward (r.right + 1 - r.left) r.left else downward (r.left + 1 - r.right) r.left)
        → (j : ℕ) × ((if up then (if nat_le r.left i && nat_le i r.right then Some (i - r.left) else None) else (if nat_le r.right i && nat_le i r.left then Some (r.left - i) else None)) ≡ Some j)
    by true u g =
        let way = leb-true r.left r.right u in
        let within = in-upward (r.right + 1 - r.left) r.left i g in
        (i - r.left, rw (le-leb r.left i within.0, le-leb i r.right (omega (arith, within.1, way))) refl)
    by false u g =
        let way = leb-false r.left r.right u in
        let within = in-downward (r.left + 1 - r.right) r.left i (omega arith) g in
        (r.left - i, rw (le-leb r.right i (omega (arith, within.1, way)), le-leb i r.left within.0) refl)

-- ---- nets with their names and ranges

abbrev pub Net : Type 0
Net = ℕ × Option BitRange

abbrev pub numbers : List Net → List ℕ
numbers ds = map (λ (d : Net). d.0) ds

abbrev pub ranges : List Net → List (Option BitRange)
ranges ds = map (λ (d : Net). d.1) ds

abbrev pub nets_of : Module → List Net
nets_of m = map (λ (p : Port). (p.name.0, p.range)) m.ports ++ map (λ (n : NetDecl). (n.name.0, n.range)) m.nets

abbrev pub bits_of : List (List ℕ) → Net → List BitView
bits_of texts d = map (bit_named (text_at texts d.0)) (indices d.1)

-- the place of a name's bit, where names begin at a place
abbrev pub position : ℕ → Option ℕ → ℕ → List Net → Option ℕ
position n i k ds = option_and_then (place_at i) (option_and_then (slice_get (spots_from k (ranges ds))) (place_of_number n (numbers ds)))

position-step : (n : ℕ) (i : Option ℕ) (k : ℕ) (d : Net) (ds : List Net) → position n i k (d ∷ ds) ≡ (if n == d.0 then option_map (λ j. j + k) (offset_of d.1 i) else position n i (k + bit_count d.1) ds)
position-step n i k d ds = by (n == d.0) (place_of_number n (numbers ds))
  where
    by : (b : Bool) (r : Option ℕ) → option_and_then (place_at i) (option_and_then (slice_get (spots_from k (ranges (d ∷ ds)))) (if b then Some 0 else option_map suc r))
        ≡ (if b then option_map (λ j. j + k) (offset_of d.1 i) else option_and_then (place_at i) (option_and_then (slice_get (spots_from (k + bit_count d.1) (ranges ds))) r))
    by true r = refl
    by false None = refl
    by false (Some j) = refl

option-mapped : {A B : Type 0} (f : A → B) (o : Option A) (y : B) → option_map f o ≡ Some y → (x : A) × (o ≡ Some x) × (f x ≡ y)
option-mapped f None y e = cc
option-mapped f (Some x) y e = let is : f x ≡ y = cc in (x, refl, is)

module _ (texts : List (List ℕ)) where
  -- what stands at a place that is found
  pub bit-at : (n : ℕ) (i : Option ℕ) (k : ℕ) (ds : List Net) (q : ℕ) → position n i k ds ≡ Some q → (t : ℕ) × (q ≡ k + t) × (slice_get (flat_map (bits_of texts) ds) t ≡ Some (bit_named (text_at texts n) i))
  bit-at n i k [] q e = cc
  bit-at n i k (d ∷ ds) q e = by (n == d.0) refl (sym (position-step n i k d ds) ∙ e) (bit-at n i (k + bit_count d.1) ds q)
    where
      by : (b : Bool) → (n == d.0) ≡ b → (if b then option_map (λ j. j + k) (offset_of d.1 i) else position n i (k + bit_count d.1) ds) ≡ Some q
          → (position n i (k + bit_count d.1) ds ≡ Some q → (t : ℕ) × (q ≡ k + bit_count d.1 + t) × (slice_get (flat_map (bits_of texts) ds) t ≡ Some (bit_named (text_at texts n) i)))
          → (t : ℕ) × (q ≡ k + t) × (slice_get (flat_map (bits_of texts) (d ∷ ds)) t ≡ Some (bit_named (text_at texts n) i))
      by true s h later =
          let there = option-mapped (λ j. j + k) (offset_of d.1 i) q h in
          let name : bit_named (text_at texts d.0) i ≡ bit_named (text_at texts n) i = ap (λ z. bit_named (text_at texts z) i) (sym (eqb-true n d.0 s)) in (
            there.0,
            omega (arith, there.2),
            get-left (bits_of texts d) (flat_map (bits_of texts) ds) there.0 (bit_named (text_at texts n) i) (get-map (bit_named (text_at texts d.0)) (indices d.1) there.0 i (offset-at d.1 i there.0 there.1) ∙ ap (λ b. Some b) name),
          )
      by false s h later =
          let more = later h in
          let size : length (bits_of texts d) ≡ bit_count d.1 = length-map (bit_named (text_at texts d.0)) (indices d.1) ∙ length-indices d.1 in (
            bit_count d.1 + more.0,
            omega (arith, more.1),
            ap (λ z. slice_get (bits_of texts d ++ flat_map (bits_of texts) ds) (z + more.0)) (sym size) ∙ get-right (bits_of texts d) (flat_map (bits_of texts) ds) more.0 ∙ more.2,
          )

  named-same : (a b : Name) (i j : Option ℕ) → bit_named a i ≡ bit_named b j → (a ≡ b) × (i ≡ j)
  named-same a b None None e = let is : a ≡ b = cc in (is, refl)
  named-same a b None (Some j) e = cc
  named-same a b (Some i) None e = cc
  named-same a b (Some i) (Some j) e = let is : a ≡ b = cc in let at : i ≡ j = cc in (is, ap (λ z. Some z) at)

  -- a bit that stands there has a place
  module _ (apart : distinct texts ≡ true) where
    pub bit-found : (n : ℕ) (i : Option ℕ) (k : ℕ) (ds : List Net) → n < length texts → numbers_below (length texts) (numbers ds) ≡ true → IsApart (map (text_at texts) (numbers ds))
        → IsIn (bit_named (text_at texts n) i) (flat_map (bits_of texts) ds) → (q : ℕ) × (position n i k ds ≡ Some q)
    bit-found n i k [] low below names h = absurd h
    bit-found n i k (d ∷ ds) low below names h =
        let found = by (n == d.0) refl (in-either (bit_named (text_at texts n) i) (bits_of texts d) (flat_map (bits_of texts) ds) h) (bit-found n i (k + bit_count d.1) ds low (below-tail (length texts) d.0 (numbers ds) below) names.1) in
        (found.0, position-step n i k d ds ∙ found.1)
      where
        same : IsIn (bit_named (text_at texts n) i) (bits_of texts d) → (text_at texts n ≡ text_at texts d.0) × IsIn i (indices d.1)
        same g =
            let there = of-map (bit_named (text_at texts d.0)) (bit_named (text_at texts n) i) (indices d.1) g in
            let parts = named-same (text_at texts n) (text_at texts d.0) i there.0 there.2 in
            (parts.0, subst (λ z. IsIn z (indices d.1)) (sym parts.1) there.1)

        later : IsIn (bit_named (text_at texts n) i) (flat_map (bits_of texts) ds) → IsIn (text_at texts n) (map (text_at texts) (numbers ds))
        later g =
            let there = of-flat (bits_of texts) (bit_named (text_at texts n) i) ds g in
            let bit = of-map (bit_named (text_at texts there.0.0)) (bit_named (text_at texts n) i) (indices there.0.1) there.2 in
            let parts = named-same (text_at texts n) (text_at texts there.0.0) i bit.0 bit.2 in
            subst (λ z. IsIn z (map (text_at texts) (numbers ds))) (sym parts.0) (in-map (text_at texts) there.0.0 (numbers ds) (in-map (λ (z : Net). z.0) there.0 ds there.1))

        by : (b : Bool) → (n == d.0) ≡ b → IsIn (bit_named (text_at texts n) i) (bits_of texts d) ⊎ IsIn (bit_named (text_at texts n) i) (flat_map (bits_of texts) ds)
            → (IsIn (bit_named (text_at texts n) i) (flat_map (bits_of texts) ds) → (q : ℕ) × (position n i (k + bit_count d.1) ds ≡ Some q))
            → (q : ℕ) × ((if b then option_map (λ j. j + k) (offset_of d.1 i) else position n i (k + bit_count d.1) ds) ≡ Some q)
        by true s (inl here) more = let there = offset-of d.1 i (same here).1 in (there.0 + k, ap (option_map (λ j. j + k)) there.1)
        by true s (inr g) more =
            let is : text_at texts n ≡ text_at texts d.0 = ap (text_at texts) (eqb-true n d.0 s) in
            absurd (names.0 (subst (λ z. IsIn z (map (text_at texts) (numbers ds))) is (later g)))
        by false s (inl here) more =
            let text = (same here).0 in
            absurd (true≢false (sym (true-same_text (text_at texts n) (text_at texts d.0) text) ∙ same_name texts apart n d.0 low (below-head (length texts) d.0 (numbers ds) below) ∙ s))
        by false s (inr g) more = more g

-- ---- the nets of a module

spots-parted : (k : ℕ) (ps : List Port) (rs : List (Option BitRange)) → spots_from k (map (λ (p : Port). p.range) ps ++ rs) ≡ spots_from k (map (λ (p : Port). p.range) ps) ++ spots_from (k + sum_by port_width ps) rs
spots-parted k [] rs = let e : k ≡ k + 0 = omega arith in ap (λ z. spots_from z rs) e
spots-parted k (p ∷ ps) rs =
    let e : k + port_width p + sum_by port_width ps ≡ k + sum_by port_width (p ∷ ps) = omega (arith, sum_by-cons port_width p ps) in
    ap (λ r. record { start = k; range = p.range } ∷ r) (spots-parted (k + port_width p) ps rs ∙ ap (λ z. spots_from (k + port_width p) (map (λ (x : Port). x.range) ps) ++ spots_from z rs) e)

module _ (m : Module) where
  ports : List Net
  ports = map (λ (p : Port). (p.name.0, p.range)) m.ports

  nets : List Net
  nets = map (λ (n : NetDecl). (n.name.0, n.range)) m.nets

  pub names-declared : numbers (nets_of m) ≡ (declared_in m).names
  unfolding ports nets
  names-declared =
      map-append (λ (d : Net). d.0) ports nets
      ∙ (λ i. map-map (λ (d : Net). d.0) (λ (p : Port). (p.name.0, p.range)) m.ports i ++ map-map (λ (d : Net). d.0) (λ (n : NetDecl). (n.name.0, n.range)) m.nets i)

  spots-declared : spots_from 0 (ranges (nets_of m)) ≡ (declared_in m).spots
  unfolding ports nets
  spots-declared =
      let e : 0 + sum_by port_width m.ports ≡ sum_by port_width m.ports = omega arith in
      ap (spots_from 0) (map-append (λ (d : Net). d.1) ports nets)
      ∙ (λ i. spots_from 0 (map-map (λ (d : Net). d.1) (λ (p : Port). (p.name.0, p.range)) m.ports i ++ map-map (λ (d : Net). d.1) (λ (n : NetDecl). (n.name.0, n.range)) m.nets i))
      ∙ spots-parted 0 m.ports (map (λ (n : NetDecl). n.range) m.nets)
      ∙ ap (λ z. spots_from 0 (map (λ (p : Port). p.range) m.ports) ++ spots_from z (map (λ (n : NetDecl). n.range) m.nets)) e

  pub position-declared : (n : ℕ) (i : Option ℕ) → position n i 0 (nets_of m) ≡ option_and_then (place_at i) (spot_of (declared_in m) n)
  position-declared n i =
      ap (λ z. option_and_then (place_at i) (option_and_then (slice_get z) (place_of_number n (numbers (nets_of m))))) spots-declared
      ∙ ap (λ z. option_and_then (place_at i) (option_and_then (slice_get (declared_in m).spots) (place_of_number n z))) names-declared

-- ---- bits of a module

-- a place that is found means the bit
pub record IsPlaced (v : ModuleView) (b : BitView) (f : EdgeFrom) : Type 0 where
  pub bit : place_bit v f ≡ b
  pub within : has_place v f ≡ true

-- and is no constant
pub record IsDriven (v : ModuleView) (b : BitView) (f : EdgeFrom) : Type 0 where
  pub place : ℕ
  pub is : f ≡ FromNode (record { 0 = place })
  pub at : slice_get (bits_in v) place ≡ Some b

pub within-list : {A : Type 0} (xs : List A) (k : ℕ) (x : A) → slice_get xs k ≡ Some x → k < length xs
within-list [] k x e = cc
within-list (y ∷ xs) zero x e = omega arith
within-list (y ∷ xs) (suc k) x e = omega (arith, within-list xs k x e)

pub entry-or : {A : Type 0} (xs : List A) (k : ℕ) (x d : A) → slice_get xs k ≡ Some x → slice_index_or xs k d ≡ x
entry-or [] k x d e = cc
entry-or (y ∷ xs) zero x d e = let is : y ≡ x = cc in is
entry-or (y ∷ xs) (suc k) x d e = entry-or xs k x d e

pub driven-placed : (v : ModuleView) (b : BitView) (f : EdgeFrom) → IsDriven v b f → IsPlaced v b f
driven-placed v b f r = record {
  bit = ap (place_bit v) r.is ∙ entry-or (bits_in v) r.place b (ConstBit true) r.at;
  within = ap (has_place v) r.is ∙ lt-ltb r.place (length (bits_in v)) (within-list (bits_in v) r.place b r.at);
}

not-constant : (n : Name) (i : Option ℕ) (c : Bool) → ConstBit c ≡ bit_named n i → ⊥
not-constant n None c e = cc
not-constant n (Some i) c e = cc

no-constant-of : {A : Type 0} (name : A → Name) (range : A → Option BitRange) (c : Bool) (xs : List A) → IsIn (ConstBit c) (flat_map (λ x. map (bit_named (name x)) (indices (range x))) xs) → ⊥
no-constant-of name range c xs h =
    let there = of-flat (λ x. map (bit_named (name x)) (indices (range x))) (ConstBit c) xs h in
    let bit = of-map (bit_named (name there.0)) (ConstBit c) (indices (range there.0)) there.2 in
    not-constant (name there.0) bit.0 c bit.2

-- the bits of a module are no constants
pub no-constant : (v : ModuleView) (c : Bool) → IsIn (ConstBit c) (bits_in v) → ⊥
no-constant v c h = elim (in-either (ConstBit c) (flat_map (λ (x : PortView). map (bit_named x.name) (indices x.range)) v.ports) (flat_map (λ (x : NetView). map (bit_named x.name) (indices x.range)) v.nets) h) [
  | inl port ↦ no-constant-of (λ (x : PortView). x.name) (λ (x : PortView). x.range) c v.ports port
  | inr net ↦ no-constant-of (λ (x : NetView). x.name) (λ (x : NetView). x.range) c v.nets net
]

module _ (texts : List (List ℕ)) (m : Module) where
  bits-same : flat_map (bits_of texts) (nets_of m) ≡ bits_in (module_view texts m)
  bits-same =
      flat-append (bits_of texts) (map (λ (p : Port). (p.name.0, p.range)) m.ports) (map (λ (n : NetDecl). (n.name.0, n.range)) m.nets)
      ∙ (λ i. (flat-map (bits_of texts) (λ (p : Port). (p.name.0, p.range)) m.ports ∙ sym (flat-map (λ (x : PortView). map (bit_named x.name) (indices x.range)) (port_view texts) m.ports)) i
      ++ (flat-map (bits_of texts) (λ (n : NetDecl). (n.name.0, n.range)) m.nets ∙ sym (flat-map (λ (x : NetView). map (bit_named x.name) (indices x.range)) (net_view texts) m.nets)) i)

  names-same : net_names (module_view texts m) ≡ map (text_at texts) (numbers (nets_of m))
  names-same =
      (λ i. (map-map (λ (q : PortView). q.name) (port_view texts) m.ports ∙ sym (map-map (λ (d : Net). text_at texts d.0) (λ (p : Port). (p.name.0, p.range)) m.ports)) i
      ++ (map-map (λ (x : NetView). x.name) (net_view texts) m.nets ∙ sym (map-map (λ (d : Net). text_at texts d.0) (λ (n : NetDecl). (n.name.0, n.range)) m.nets)) i)
      ∙ sym (map-append (λ (d : Net). text_at texts d.0) (map (λ (p : Port). (p.name.0, p.range)) m.ports) (map (λ (n : NetDecl). (n.name.0, n.range)) m.nets))
      ∙ sym (map-map (text_at texts) (λ (d : Net). d.0) (nets_of m))

  module _ (apart : distinct texts ≡ true) (below : numbers_below (length texts) (numbers (nets_of m)) ≡ true) (names : IsApart (net_names (module_view texts m))) where
    named-driven : (n : ℕ) (i : Option ℕ) → n < length texts → IsIn (bit_named (text_at texts n) i) (bits_in (module_view texts m)) → IsDriven (module_view texts m) (bit_named (text_at texts n) i) (place_named (declared_in m) n i)
    named-driven n i low h =
        let found = bit-found texts apart n i 0 (nets_of m) low below (subst IsApart names-same names) (subst (IsIn (bit_named (text_at texts n) i)) (sym bits-same) h) in
        let there = bit-at texts n i 0 (nets_of m) found.0 found.1 in
        let place : there.0 ≡ found.0 = omega (arith, there.1) in
        record {
          place = found.0;
          is = ap from_place (sym (position-declared m n i) ∙ found.1);
          at = ap (λ bs. slice_get bs found.0) (sym bits-same) ∙ ap (slice_get (flat_map (bits_of texts) (nets_of m))) (sym place) ∙ there.2;
        }

    pub bit-driven : (b : Bit) → numbers_below (length texts) (bit_numbers b) ≡ true → IsIn (bit_view texts b) (bits_in (module_view texts m)) → IsDriven (module_view texts m) (bit_view texts b) (place_of (declared_in m) b)
    bit-driven (bits.Net n) low h = named-driven n.0 None (below-head (length texts) n.0 [] low) h
    bit-driven (bits.Select n i) low h = named-driven n.0 (Some i) (below-head (length texts) n.0 [] low) h
    bit-driven (bits.Const c) low h = absurd (no-constant (module_view texts m) c h)

    pub bit-placed : (b : Bit) → numbers_below (length texts) (bit_numbers b) ≡ true → IsBitOf (module_view texts m) (bit_view texts b) → IsPlaced (module_view texts m) (bit_view texts b) (place_of (declared_in m) b)
    bit-placed (bits.Net n) low h = driven-placed (module_view texts m) (NetBit (text_at texts n.0)) (place_named (declared_in m) n.0 None) (named-driven n.0 None (below-head (length texts) n.0 [] low) h)
    bit-placed (bits.Select n i) low h = driven-placed (module_view texts m) (SelectBit (text_at texts n.0) i) (place_named (declared_in m) n.0 (Some i)) (named-driven n.0 (Some i) (below-head (length texts) n.0 [] low) h)
    bit-placed (bits.Const c) low h = record { bit = refl; within = refl }
