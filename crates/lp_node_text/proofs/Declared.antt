-- The bit at a place of a module by its numbers has the text of the bit by its name.
use Rattle.std.proofs.Common.{◌≡◌, ◌<◌, ◌≤◌, ◌+◌, ◌-◌, ℕ, zero, suc, Bool, true, false, List, [], ◌∷◌, ◌++◌, map, length, length-append, Option, Some, None, inl, inr, refl, ap, ◌∙◌, arith}
use Rattle.std.specs.Prelude.{flat_map, nat_le, if◌then◌else◌, slice_get}
use Rattle.std.proofs.lemmas.Bool.{cases_lt, lt-ltb, le-ltb}
use Rattle.std.proofs.lemmas.List.{length-map}
use Rattle.lp_text.specs.Texts.{text_at}
use Rattle.lp_text.specs.declared.names.NameId.{NameId}
use Rattle.lp_model.specs.declared.graph.NodeName.{NodeName}
use Rattle.lp_model.specs.declared.netlist.BitRange.{BitRange}
use Rattle.lp_model.specs.declared.netlist.Module.{Module}
use Rattle.lp_model.specs.declared.netlist.NetDecl.{NetDecl}
use Rattle.lp_model.specs.declared.netlist.Port.{Port}
use Rattle.lp_model.specs.NetlistView.{BitView, PortView, NetView, port_view, net_view, module_view}
use Rattle.lp_fault_text.specs.Paths.{bit_name}
use Rattle.lp_spec_design.specs.Keys.{Path}
use Rattle.lp_spec_design.specs.Netlists.{upward, downward, indices, node_of}
use Rattle.lp_spec_bridge.specs.Templates.{bit_named as bit_view_named, bits_in}
use Rattle.lp_spec_layout.proofs.Lists.{get-left, get-right, get-map}
use Rattle.lp_spec_faults.specs.Modules.{bit_count}
use Rattle.lp_node_text.specs.declared.bits.Own.{Own}
use Rattle.lp_node_text.specs.declared.bits.Own.TheVariants as owns
use Rattle.lp_node_text.specs.Numbered.{Declaration, port_declared, net_declared, index_in, bit_named, bit_from, or_from, own_bit}
use Rattle.lp_node_text.specs.Paths.{path_text, node_text}

-- ---- the indices of a vector

get-upward : (n from k : ℕ) → k < n → slice_get (map (λ i. Some i) (upward n from)) k ≡ Some (Some (from + k))
get-upward zero from k low = absurd (omega (arith, low))
get-upward (suc n) from zero low = let place : from ≡ from + 0 = omega arith in ap (λ i. Some (Some i)) place
get-upward (suc n) from (suc k) low = let place : (from + 1) + k ≡ from + suc k = omega arith in get-upward n (from + 1) k (omega (arith, low)) ∙ ap (λ i. Some (Some i)) place

get-downward : (n from k : ℕ) → k < n → slice_get (map (λ i. Some i) (downward n from)) k ≡ Some (Some (from - k))
get-downward zero from k low = absurd (omega (arith, low))
get-downward (suc n) from zero low = let place : from ≡ from - 0 = omega arith in ap (λ i. Some (Some i)) place
get-downward (suc n) from (suc k) low = let place : (from - 1) - k ≡ from - suc k = omega arith in get-downward n (from - 1) k (omega (arith, low)) ∙ ap (λ i. Some (Some i)) place

-- a scalar has none
abbrev index_at : Option BitRange → ℕ → Option ℕ
index_at None k = None
index_at (Some r) k = Some (index_in r k)

index-is : (r : Option BitRange) (k : ℕ) → k < bit_count r → slice_get (indices r) k ≡ Some (index_at r k)
index-is None zero low = refl
index-is None (suc k) low = absurd (omega (arith, low))
index-is (Some r) k low = by (nat_le r.left r.right) low
  where
    by : (b : Bool) → k < (if b then r.right + 1 - r.left else r.left + 1 - r.right)
        → slice_get (map (λ i. Some i) (if b then upward (r.right + 1 - r.left) r.left else downward (r.left + 1 - r.right) r.left)) k ≡ Some (Some (if b then r.left + k else r.left - k))
    by true low = get-upward (r.right + 1 - r.left) r.left k low
    by false low = get-downward (r.left + 1 - r.right) r.left k low

count-upward : (n from : ℕ) → length (upward n from) ≡ n
count-upward zero from = refl
count-upward (suc n) from = ap suc (count-upward n (from + 1))

count-downward : (n from : ℕ) → length (downward n from) ≡ n
count-downward zero from = refl
count-downward (suc n) from = ap suc (count-downward n (from - 1))

count-indices : (r : Option BitRange) → length (indices r) ≡ bit_count r
count-indices None = refl
count-indices (Some r) = by (nat_le r.left r.right)
  where
    by : (b : Bool) → length (map (λ i. Some i) (if b then upward (r.right + 1 - r.left) r.left else downward (r.left + 1 - r.right) r.left)) ≡ (if b then r.right + 1 - r.left else r.left + 1 - r.right)
    by true = length-map (upward (r.right + 1 - r.left) r.left) (λ i. Some i) ∙ count-upward (r.right + 1 - r.left) r.left
    by false = length-map (downward (r.left + 1 - r.right) r.left) (λ i. Some i) ∙ count-downward (r.left + 1 - r.right) r.left

-- ---- the bits of declarations

module _ (texts : List (List ℕ)) where
  abbrev declared_bits : Declaration → List BitView
  declared_bits d = map (bit_view_named (text_at texts d.0.0)) (indices d.1)

  abbrev all_bits : List Declaration → List BitView
  all_bits ds = flat_map declared_bits ds

  count-declared : (d : Declaration) → length (declared_bits d) ≡ bit_count d.1
  count-declared d = length-map (indices d.1) (bit_view_named (text_at texts d.0.0)) ∙ count-indices d.1

  -- a bit has the text of the bit by its name
  abbrev IsText : NodeName → BitView → Type 0
  IsText bit view = (p : Path) → node_text (node_of p view) ≡ path_text p ++ bit_name texts bit

  named-text : (n : NameId) (r : Option BitRange) (k : ℕ) → IsText (bit_named n r k) (bit_view_named (text_at texts n.0) (index_at r k))
  named-text n None k p = refl
  named-text n (Some r) k p = refl

  record HasBit (found : Own) (bits : List BitView) (k : ℕ) : Type 0 where
    pub bit : NodeName
    pub view : BitView
    pub is : found ≡ owns.Bit bit
    pub at : slice_get bits k ≡ Some view
    pub text : IsText bit view

  bit-at : (ds : List Declaration) (k : ℕ) → k < length (all_bits ds) → HasBit (bit_from ds k) (all_bits ds) k
  bit-at [] k low = absurd (omega (arith, low))
  bit-at (d ∷ ds) k low = elim (cases_lt k (bit_count d.1)) [
    | inl here ↦ record {
      bit = bit_named d.0 d.1 k;
      view = bit_view_named (text_at texts d.0.0) (index_at d.1 k);
      is = ap (λ b. if b then owns.Bit (bit_named d.0 d.1 k) else bit_from ds (k - bit_count d.1)) (lt-ltb k (bit_count d.1) here);
      at = get-left (declared_bits d) (all_bits ds) k (bit_view_named (text_at texts d.0.0) (index_at d.1 k)) (get-map (bit_view_named (text_at texts d.0.0)) (indices d.1) k (index_at d.1 k) (index-is d.1 k here));
      text = named-text d.0 d.1 k;
    }
    | inr behind ↦
        let size = length-append (declared_bits d) (all_bits ds) in
        let own = count-declared d in
        let more = bit-at ds (k - bit_count d.1) (omega (arith, low, size, own, behind)) in
        let place : k ≡ length (declared_bits d) + (k - bit_count d.1) = omega (arith, own, behind) in
        record {
          bit = more.bit;
          view = more.view;
          is = ap (λ b. if b then owns.Bit (bit_named d.0 d.1 k) else bit_from ds (k - bit_count d.1)) (le-ltb k (bit_count d.1) behind) ∙ more.is;
          at = ap (slice_get (declared_bits d ++ all_bits ds)) place ∙ get-right (declared_bits d) (all_bits ds) (k - bit_count d.1) ∙ more.at;
          text = more.text;
        }
  ]

  behind-all : (ds : List Declaration) (k : ℕ) → length (all_bits ds) ≤ k → bit_from ds k ≡ owns.Behind (k - length (all_bits ds))
  behind-all [] k high = let same : k ≡ k - 0 = omega arith in ap (λ n. owns.Behind n) same
  behind-all (d ∷ ds) k high =
      let size = length-append (declared_bits d) (all_bits ds) in
      let own = count-declared d in
      let behind : bit_count d.1 ≤ k = omega (arith, high, size, own) in
      let same : (k - bit_count d.1) - length (all_bits ds) ≡ k - length (declared_bits d ++ all_bits ds) = omega (arith, size, own) in
      ap (λ b. if b then owns.Bit (bit_named d.0 d.1 k) else bit_from ds (k - bit_count d.1)) (le-ltb k (bit_count d.1) behind)
      ∙ behind-all ds (k - bit_count d.1) (omega (arith, high, size, own))
      ∙ ap (λ n. owns.Behind n) same

  -- ---- the bits of a module

  ports-are : (ps : List Port) → flat_map (λ (x : PortView). map (bit_view_named x.name) (indices x.range)) (map (port_view texts) ps) ≡ all_bits (map port_declared ps)
  ports-are [] = refl
  ports-are (p ∷ ps) = ap (λ r. map (bit_view_named (text_at texts p.name.0)) (indices p.range) ++ r) (ports-are ps)

  nets-are : (ns : List NetDecl) → flat_map (λ (x : NetView). map (bit_view_named x.name) (indices x.range)) (map (net_view texts) ns) ≡ all_bits (map net_declared ns)
  nets-are [] = refl
  nets-are (n ∷ ns) = ap (λ r. map (bit_view_named (text_at texts n.name.0)) (indices n.range) ++ r) (nets-are ns)

  bits-are : (m : Module) → bits_in (module_view texts m) ≡ all_bits (map port_declared m.ports) ++ all_bits (map net_declared m.nets)
  bits-are m = λ i. ports-are m.ports i ++ nets-are m.nets i

  -- the bit at a place that is one of a module's own
  pub record HasOwn (m : Module) (k : ℕ) : Type 0 where
    pub bit : NodeName
    pub view : BitView
    pub is : own_bit m k ≡ owns.Bit bit
    pub at : slice_get (bits_in (module_view texts m)) k ≡ Some view
    pub text : IsText bit view

  pub own-at : (m : Module) (k : ℕ) → k < length (bits_in (module_view texts m)) → HasOwn m k
  own-at m k low =
      let ports = all_bits (map port_declared m.ports) in
      let nets = all_bits (map net_declared m.nets) in
      let all : length (bits_in (module_view texts m)) ≡ length (all_bits (map port_declared m.ports) ++ all_bits (map net_declared m.nets)) = ap (λ (xs : List BitView). length xs) (bits-are m) in
      let size = length-append (all_bits (map port_declared m.ports)) (all_bits (map net_declared m.nets)) in
      elim (cases_lt k (length (all_bits (map port_declared m.ports)))) [
        | inl here ↦
            let found = bit-at (map port_declared m.ports) k here in
            record {
              bit = found.bit;
              view = found.view;
              is = ap (or_from (map net_declared m.nets)) found.is;
              at = ap (λ (xs : List BitView). slice_get xs k) (bits-are m) ∙ get-left ports nets k found.view found.at;
              text = found.text;
            }
        | inr behind ↦
            let found = bit-at (map net_declared m.nets) (k - length (all_bits (map port_declared m.ports))) (omega (arith, low, all, size, behind)) in
            let place : k ≡ length (all_bits (map port_declared m.ports)) + (k - length (all_bits (map port_declared m.ports))) = omega (arith, behind) in
            record {
              bit = found.bit;
              view = found.view;
              is = ap (or_from (map net_declared m.nets)) (behind-all (map port_declared m.ports) k behind) ∙ found.is;
              at = ap (λ (xs : List BitView). slice_get xs k) (bits-are m) ∙ ap (slice_get (ports ++ nets)) place ∙ get-right ports nets (k - length (all_bits (map port_declared m.ports))) ∙ found.at;
              text = found.text;
            }
      ]

  -- a place behind them
  pub own-behind : (m : Module) (k : ℕ) → length (bits_in (module_view texts m)) ≤ k → (j : ℕ) × (own_bit m k ≡ owns.Behind j)
  own-behind m k high =
      let all : length (bits_in (module_view texts m)) ≡ length (all_bits (map port_declared m.ports) ++ all_bits (map net_declared m.nets)) = ap (λ (xs : List BitView). length xs) (bits-are m) in
      let size = length-append (all_bits (map port_declared m.ports)) (all_bits (map net_declared m.nets)) in
      let rest = k - length (all_bits (map port_declared m.ports)) in (
        (k - length (all_bits (map port_declared m.ports))) - length (all_bits (map net_declared m.nets)),
        ap (or_from (map net_declared m.nets)) (behind-all (map port_declared m.ports) k (omega (arith, high, all, size)))
            ∙ behind-all (map net_declared m.nets) (k - length (all_bits (map port_declared m.ports))) (omega (arith, high, all, size)),
      )
