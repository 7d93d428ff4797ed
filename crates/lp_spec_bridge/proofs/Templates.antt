-- A module's bits, resolved once, are right in each instance.
use Rattle.std.proofs.Common.{◌≡◌, ◌<◌, ◌+◌, ℕ, zero, suc, true, false, List, [], ◌∷◌, ◌++◌, map, length, get_or, take, Option, Some, None, refl, sym, ap, ◌∙◌, arith}
use Rattle.std.specs.Prelude.{flat_map, slice_get}
use Rattle.std.specs.List.{list_all}
use Rattle.std.proofs.lemmas.Bool.{ltb-true}
use Rattle.std.proofs.lemmas.List.{length-append, length-map, map-append, get_or-map, get_or_append_left}
use Rattle.std.proofs.lemmas.List.Concat.{get_or-flat_map}
use Rattle.std.proofs.lemmas.Option.{slice_get_within, get_or_from_slice_get}
use Rattle.lp_model.specs.declared.graph.EdgeFrom.{EdgeFrom}
use Rattle.lp_model.specs.declared.graph.EdgeFrom.TheVariants.{Node as FromNode, Const as FromConst}
use Rattle.lp_model.specs.declared.netlist.BitRange.{BitRange}
use Rattle.lp_model.specs.NetlistView.{BitView, ConstBit, PortView, NetView, ModuleView}
use Rattle.lp_spec_design.specs.Keys.{Name, Path, Node, Inner, Fixed}
use Rattle.lp_spec_design.specs.Netlists.{Structure, module_at, indices, node_of}
use Rattle.lp_spec_design.specs.Instances.{module_instances}
use Rattle.lp_spec_design.specs.Nodes.{nodes_in, inner_nodes, outer_in}
use Rattle.lp_spec_design.specs.Reads.{one, other}
use Rattle.lp_spec_bridge.specs.Keyed.{keys_of, node_at}
use Rattle.lp_spec_bridge.specs.Represents.{from_key}
use Rattle.lp_spec_bridge.specs.Elaborates.{starts_from}
use Rattle.lp_spec_bridge.specs.Templates.{bit_named, bits_in, place_bit, has_place, IsResolved, at_start, start_of}

-- ---- the bits of a module at a path

bit-node : (p : Path) (n : Name) (idx : List (Option ℕ)) → map (node_of p) (map (bit_named n) idx) ≡ map (λ i. Inner n i p) idx
bit-node p n [] = refl
bit-node p n (None ∷ idx) = ap (λ r. Inner n None p ∷ r) (bit-node p n idx)
bit-node p n (Some i ∷ idx) = ap (λ r. Inner n (Some i) p ∷ r) (bit-node p n idx)

net-nodes : {A : Type 0} (name : A → Name) (range : A → Option BitRange) (p : Path) (xs : List A) → map (node_of p) (flat_map (λ x. map (bit_named (name x)) (indices (range x))) xs) ≡ flat_map (λ x. map (λ i. Inner (name x) i p) (indices (range x))) xs
net-nodes name range p [] = refl
net-nodes name range p (x ∷ xs) =
    map-append (node_of p) (map (bit_named (name x)) (indices (range x))) (flat_map (λ z. map (bit_named (name z)) (indices (range z))) xs)
    ∙ ap (λ r. r ++ map (node_of p) (flat_map (λ z. map (bit_named (name z)) (indices (range z))) xs)) (bit-node p (name x) (indices (range x)))
    ∙ ap (λ r. map (λ i. Inner (name x) i p) (indices (range x)) ++ r) (net-nodes name range p xs)

pub bits-nodes : (p : Path) (m : ModuleView) → map (node_of p) (bits_in m) ≡ nodes_in p (Some m)
bits-nodes p m =
    let ports = flat_map (λ (x : PortView). map (bit_named x.name) (indices x.range)) m.ports in
    let nets = flat_map (λ (x : NetView). map (bit_named x.name) (indices x.range)) m.nets in
    map-append (node_of p) ports nets
    ∙ ap (λ r. r ++ map (node_of p) nets) (net-nodes (λ (x : PortView). x.name) (λ (x : PortView). x.range) p m.ports)
    ∙ ap (λ r. flat_map (λ (x : PortView). map (λ i. Inner x.name i p) (indices x.range)) m.ports ++ r) (net-nodes (λ (x : NetView). x.name) (λ (x : NetView). x.range) p m.nets)

-- ---- the first nodes of instances

flat-size : {A B : Type 0} (f : A → List B) (xs : List A) (k j : ℕ) (d : A) → k < length xs → j < length (f (get_or xs k d)) → length (flat_map f (take k xs)) + j < length (flat_map f xs)
flat-size f [] k j d h g = absurd (omega arith)
flat-size f (x ∷ xs) zero j d h g = let size = length-append (f x) (flat_map f xs) in omega (arith, size)
flat-size f (x ∷ xs) (suc k) j d h g =
    let size = length-append (f x) (flat_map f xs) in
    let front = length-append (f x) (flat_map f (take k xs)) in
    let rest = flat-size f xs k j d (omega arith) g in
    omega (arith, size, front, rest)

module _ (s : Structure) where
  pub starts-at : (start : ℕ) (ps : List Path) (k : ℕ) → k < length ps → get_or (starts_from s start ps) k 0 ≡ start + length (flat_map (λ p. nodes_in p (module_at s p)) (take k ps))
  starts-at start [] k h = absurd (omega arith)
  starts-at start (p ∷ ps) zero h = omega arith
  starts-at start (p ∷ ps) (suc k) h =
      let size = length-append (nodes_in p (module_at s p)) (flat_map (λ q. nodes_in q (module_at s q)) (take k ps)) in
      let rest = starts-at (start + length (nodes_in p (module_at s p))) ps k (omega arith) in
      omega (arith, size, rest)

  -- a bit of an instance by number
  pub node-in : (m : ModuleView) (k : ℕ) (p : Path) (j : ℕ) → slice_get (module_instances s) k ≡ Some p → module_at s p ≡ Some m → j < length (bits_in m) → node_at (keys_of s) (start_of s k + j) ≡ node_of p (get_or (bits_in m) j (ConstBit true))
  unfolding inner_nodes
  node-in m k p j at is low =
      let f = λ (q : Path). nodes_in q (module_at s q) in
      let within : k < length (module_instances s) = slice_get_within (module_instances s) k p at in
      let here : get_or (module_instances s) k [] ≡ p = get_or_from_slice_get (module_instances s) k p [] at in
      let bits : nodes_in (get_or (module_instances s) k []) (module_at s (get_or (module_instances s) k [])) ≡ map (node_of p) (bits_in m) =
      ap (λ q. nodes_in q (module_at s q)) here ∙ ap (nodes_in p) is ∙ sym (bits-nodes p m) in
      let size : j < length (nodes_in (get_or (module_instances s) k []) (module_at s (get_or (module_instances s) k []))) = omega (arith, ap (λ (xs : List Node). length xs) bits, length-map (bits_in m) (node_of p)) in
      let start : start_of s k ≡ length (flat_map (λ q. nodes_in q (module_at s q)) (take k (module_instances s))) = omega (arith, starts-at 0 (module_instances s) k within) in
      let entry = get_or-flat_map (λ q. nodes_in q (module_at s q)) (module_instances s) k j [] (Fixed false) within size in
      let inner = flat_map (λ q. nodes_in q (module_at s q)) (module_instances s) in
      let before = length (flat_map (λ q. nodes_in q (module_at s q)) (take k (module_instances s))) in
      let room : before + j < length inner = flat-size (λ q. nodes_in q (module_at s q)) (module_instances s) k j [] within size in
      ap (λ n. get_or (inner ++ outer_in (module_at s [])) (n + j) (Fixed false)) start
      ∙ get_or_append_left inner (outer_in (module_at s [])) (Fixed false) (before + j) room
      ∙ entry
      ∙ ap (λ l. get_or l j (Fixed false)) bits
      ∙ get_or-map (node_of p) (bits_in m) j (ConstBit true) (Fixed false) low

  module _ (m : ModuleView) (k : ℕ) (p : Path) (at : slice_get (module_instances s) k ≡ Some p) (is : module_at s p ≡ Some m) where
    place-in : (f : EdgeFrom) → has_place m f ≡ true → from_key (keys_of s) (at_start (start_of s k) f) ≡ node_of p (place_bit m f)
    place-in (FromConst b) h = refl
    place-in (FromNode j) h = node-in m k p j.0 at is (ltb-true j.0 (length (bits_in m)) h)

    places-in : (places : List EdgeFrom) → list_all (has_place m) places ≡ true → map (λ f. from_key (keys_of s) (at_start (start_of s k) f)) places ≡ map (node_of p) (map (place_bit m) places)
    places-in [] h = refl
    places-in (f ∷ places) h =
        ap (λ x. x ∷ map (λ g. from_key (keys_of s) (at_start (start_of s k) g)) places) (place-in f (one (has_place m f) (list_all (has_place m) places) h))
        ∙ ap (λ r. node_of p (place_bit m f) ∷ r) (places-in places (other (has_place m f) (list_all (has_place m) places) h))

pub template_serves : (s : Structure) (m : ModuleView) (bits : List BitView) (places : List EdgeFrom) → IsResolved m bits places → (k : ℕ) (p : Path) → slice_get (module_instances s) k ≡ Some p → module_at s p ≡ Some m → map (λ f. from_key (keys_of s) (at_start (start_of s k) f)) places ≡ map (node_of p) bits
template_serves s m bits places r k p at is = places-in s m k p at is places r.within ∙ ap (map (node_of p)) r.same
