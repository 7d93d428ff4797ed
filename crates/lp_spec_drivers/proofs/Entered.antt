-- No place of a module is connected outside twice.
use Rattle.std.proofs.Common.{◌≡◌, ◌≤◌, ◌+◌, ℕ, Bool, true, false, List, [], ◌∷◌, map, length, Option, Some, None, inl, inr, refl, sym, ap, ◌∙◌, subst, arith}
use Rattle.std.specs.Prelude.{filter, flat_map, nat_lt, slice_index_or}
use Rattle.std.specs.List.{list_all}
use Rattle.lp_model.specs.NetlistView.{BitView, ConstBit, PortView, NetView, InstanceView, ModuleView}
use Rattle.lp_spec_design.specs.Keys.{Name}
use Rattle.lp_spec_design.specs.Netlists.{Structure, indices, connected, is_input}
use Rattle.lp_spec_design.specs.Graph.{pairs, and_more, some_of, numbered, when}
use Rattle.lp_spec_design.specs.Winners.{IsIn}
use Rattle.lp_spec_design.proofs.Members.{of-map}
use Rattle.lp_spec_bridge.specs.Keyed.{IsApart}
use Rattle.lp_spec_bridge.specs.Names.{HasNamesApart}
use Rattle.lp_spec_bridge.specs.Templates.{bit_named, bits_in}
use Rattle.lp_spec_bridge.proofs.Distinct.{apart-left, apart-filter, apart-map, apart-flat}
use Rattle.lp_spec_bridge.proofs.Driven.{indices-apart}
use Rattle.lp_spec_bridge.proofs.Readers.{map-flat}
use Rattle.lp_spec_bridge.proofs.Trails.{map-map}
use Rattle.lp_spec_layout.specs.Parts.{Joint, Child, BitPair, port_pairs, input_pairs, joint_bits, IsChild}
use Rattle.lp_spec_layout.specs.Sites.{port_bits}
use Rattle.lp_spec_layout.proofs.Lists.{get-in, flat-equal}
use Rattle.lp_spec_drivers.specs.Drivers.{joint_places, input_places}
use Rattle.lp_spec_drivers.proofs.Placed.{joints-below, top-below}

-- ---- the top

input-high : (k x : ℕ) (ports : List Bool) → IsIn x (some_of (λ (z : ℕ × Bool). when z.1 z.0) (numbered k ports)) → k ≤ x
input-high k x [] h = absurd h
input-high k x (b ∷ ports) h = by b h (λ r. let more = input-high (k + 1) x ports r in omega (arith, more))
  where
    by : (b : Bool) → IsIn x (and_more (when b k) (some_of (λ (z : ℕ × Bool). when z.1 z.0) (numbered (k + 1) ports))) → (IsIn x (some_of (λ (z : ℕ × Bool). when z.1 z.0) (numbered (k + 1) ports)) → k ≤ x) → k ≤ x
    by true (inl is) more = omega (arith, is)
    by true (inr r) more = more r
    by false r more = more r

inputs-apart : (k : ℕ) (ports : List Bool) → IsApart (some_of (λ (z : ℕ × Bool). when z.1 z.0) (numbered k ports))
inputs-apart k [] = tt
inputs-apart k (b ∷ ports) = by b (inputs-apart (k + 1) ports)
  where
    by : (b : Bool) → IsApart (some_of (λ (z : ℕ × Bool). when z.1 z.0) (numbered (k + 1) ports)) → IsApart (and_more (when b k) (some_of (λ (z : ℕ × Bool). when z.1 z.0) (numbered (k + 1) ports)))
    by true more = ((λ h. let high = input-high (k + 1) k ports h in absurd (omega (arith, high))), more)
    by false more = more

pub top-apart : (m : ModuleView) → IsApart (input_places (port_bits m)) × (list_all (λ k. nat_lt k (length (bits_in m))) (input_places (port_bits m)) ≡ true)
top-apart m = (inputs-apart 0 (port_bits m), top-below m)

-- ---- another instance

named-bits : (m n : Name) (i j : Option ℕ) → bit_named m i ≡ bit_named n j → (m ≡ n) × (i ≡ j)
named-bits m n None None e = let same : m ≡ n = cc in (same, refl)
named-bits m n None (Some j) e = absurd cc
named-bits m n (Some i) None e = absurd cc
named-bits m n (Some i) (Some j) e =
    let same : m ≡ n = cc in
    let index : i ≡ j = cc in
    (same, ap (λ k. Some k) index)

pairs-in : {A B : Type 0} (x : A) (xs : List A) (ys : List B) → IsIn x (map (λ (z : A × B). z.0) (pairs xs ys)) → IsIn x xs
pairs-in x [] ys h = absurd h
pairs-in x (a ∷ xs) [] h = absurd h
pairs-in x (a ∷ xs) (b ∷ ys) (inl is) = inl is
pairs-in x (a ∷ xs) (b ∷ ys) (inr h) = inr (pairs-in x xs ys h)

pairs-apart : {A B : Type 0} (xs : List A) (ys : List B) → IsApart xs → IsApart (map (λ (z : A × B). z.0) (pairs xs ys))
pairs-apart [] ys a = tt
pairs-apart (x ∷ xs) [] a = tt
pairs-apart (x ∷ xs) (y ∷ ys) a = ((λ h. a.0 (pairs-in x xs ys h)), pairs-apart xs ys a.1)

module _ (y : InstanceView) (inner : ModuleView) where
  -- the bits of a port that are connected
  abbrev bits_at : PortView → List BitView
  bits_at port = map (λ (z : Option ℕ × BitView). bit_named port.name z.0) (pairs (indices port.range) (connected inner.ports port.name y.connections))

  input-bits : map (λ (b : BitPair). b.0) (input_pairs y inner) ≡ flat_map bits_at (filter is_input inner.ports)
  input-bits =
      map-flat (λ (b : BitPair). b.0) (port_pairs y inner) (filter is_input inner.ports)
      ∙ flat-equal (λ (port : PortView). map (λ (b : BitPair). b.0) (port_pairs y inner port)) bits_at (filter is_input inner.ports)
      (λ port. map-map (λ (b : BitPair). b.0) (λ (z : Option ℕ × BitView). (bit_named port.name z.0, z.1)) (pairs (indices port.range) (connected inner.ports port.name y.connections)))

  inputs-once : IsApart (map (λ (x : PortView). x.name) inner.ports) → IsApart (map (λ (b : BitPair). b.0) (input_pairs y inner))
  inputs-once names =
      subst IsApart (sym input-bits)
      (apart-flat (λ (x : PortView). x.name) bits_at (filter is_input inner.ports)
      (apart-filter (λ (x : PortView). x.name) (λ (x : PortView). x.name) is_input inner.ports names (λ x z e. e))
      (λ port h. apart-map (λ (z : Option ℕ × BitView). z.0) (λ (z : Option ℕ × BitView). bit_named port.name z.0) (pairs (indices port.range) (connected inner.ports port.name y.connections))
      (pairs-apart (indices port.range) (connected inner.ports port.name y.connections) (indices-apart port.range)) (λ a b e. (named-bits port.name port.name a.0 b.0 e).1))
      (λ p q b hp hq bp bq.
      let i = of-map (λ (z : Option ℕ × BitView). bit_named p.name z.0) b (pairs (indices p.range) (connected inner.ports p.name y.connections)) bp in
      let j = of-map (λ (z : Option ℕ × BitView). bit_named q.name z.0) b (pairs (indices q.range) (connected inner.ports q.name y.connections)) bq in
      (named-bits p.name q.name i.0.0 j.0.0 (sym i.2 ∙ j.2)).0))

pub child-apart : (s : Structure) (m : ModuleView) (y : InstanceView) (c : Child) → HasNamesApart s → (is : IsChild s m y c)
    → IsApart (joint_places c.inputs) × (list_all (λ k. nat_lt k (length (bits_in is.inner))) (joint_places c.inputs) ≡ true)
child-apart s m y c names is =
    let inner = is.inner in
    let nets = names.nets is.inner (get-in s.modules c.of is.inner is.has_inner) in
    let ports = apart-left (map (λ (x : PortView). x.name) inner.ports) (map (λ (x : NetView). x.name) inner.nets) nets in
    let first : map (λ (j : Joint). (joint_bits is.inner m j).0) c.inputs ≡ map (λ (b : BitPair). b.0) (input_pairs y is.inner) =
    sym (map-map (λ (b : BitPair). b.0) (joint_bits is.inner m) c.inputs) ∙ ap (map (λ (b : BitPair). b.0)) is.inputs.same in (
      apart-map (λ (j : Joint). (joint_bits is.inner m j).0) (λ (j : Joint). j.0) c.inputs (subst IsApart (sym first) (inputs-once y is.inner ports)) (λ a b e. ap (λ k. slice_index_or (bits_in is.inner) k (ConstBit true)) e),
      joints-below is.inner m c.inputs is.inputs.within,
    )
