-- What is joined in a module's templates means the module's drives, at any path.
use Rattle.std.proofs.Common.{◌≡◌, ◌≤◌, ◌+◌, ℕ, suc, Bool, true, false, not, List, [], ◌∷◌, ◌++◌, map, length, get_or, Option, Some, None, refl, sym, ap, ◌∙◌, arith}
use Rattle.std.specs.Prelude.{filter, flat_map, nat_lt, if◌then◌else◌, slice_get, slice_index_or}
use Rattle.std.specs.List.{list_all}
use Rattle.std.proofs.lemmas.Bool.{ltb-true}
use Rattle.std.proofs.lemmas.List.{map-append}
use Rattle.std.proofs.lemmas.Option.{slice_get-get_or}
use Rattle.lp_model.specs.declared.graph.EdgeFrom.{EdgeFrom}
use Rattle.lp_model.specs.declared.graph.EdgeFrom.TheVariants.{Node as FromNode, Const as FromConst}
use Rattle.lp_model.specs.declared.graph.EdgeKind.{EdgeKind}
use Rattle.lp_model.specs.declared.graph.EdgeKind.TheVariants.{In, Out, Assign}
use Rattle.lp_model.specs.NetlistView.{BitView, NetBit, SelectBit, ConstBit, PortView, InstanceView, AssignView, ModuleView}
use Rattle.lp_spec_design.specs.Keys.{Name, Path, Node, Inner, Outer, Fixed, PortBit, AssignBit, From, same_node}
use Rattle.lp_spec_design.specs.Netlists.{Structure, node_of, indices, connected, is_input}
use Rattle.lp_spec_design.specs.Graph.{pairs, numbered}
use Rattle.lp_spec_design.specs.Reads.{one, other, node-true, node-self}
use Rattle.lp_spec_bridge.specs.Tables.{Tables}
use Rattle.lp_spec_bridge.specs.Edges.{connected_drives, output_drives, assign_drives}
use Rattle.lp_spec_bridge.specs.Keyed.{Keyed}
use Rattle.lp_spec_bridge.specs.Templates.{bit_named, bits_in, place_bit, has_place, at_start}
use Rattle.lp_spec_bridge.proofs.Trails.{map-map}
use Rattle.lp_spec_bridge.proofs.Inputs.{map-same}
use Rattle.lp_spec_bridge.proofs.Readers.{map-flat}
use Rattle.lp_spec_layout.specs.Parts.{Joint, BitPair, port_pairs, input_pairs, output_pairs, joint_bits, has_joint, IsJoined}
use Rattle.lp_spec_layout.specs.Feeds.{joint_feed}
use Rattle.lp_spec_layout.proofs.Lists.{flat-equal}
use Rattle.lp_spec_layout.proofs.Numbered.{Along, Meant, drive_meant, from_node, feed_meant}

-- the bits of a module stand at a path from a node on
abbrev pub BitsAt : Keyed → Path → ModuleView → ℕ → Type 0
BitsAt ks p m start = (j : ℕ) (b : BitView) → slice_get (bits_in m) j ≡ Some b → slice_get ks.nodes (start + j) ≡ Some (node_of p b)

-- a pair of bits at two paths
abbrev pub pair_meant : Path → Path → EdgeKind → BitPair → Meant
pair_meant p q kind b = (Some (node_of p b.0), Along (Some (node_of q b.1)) kind)

named-node : (p : Path) (n : Name) (i : Option ℕ) → node_of p (bit_named n i) ≡ Inner n i p
named-node p n None = refl
named-node p n (Some i) = refl

abbrev path_in : Node → Path
path_in (Inner n i p) = p
path_in (Outer n i) = []
path_in (Fixed b) = []

-- no bit of an instance is one of an instance inside it
not-below : (p : Path) (b : BitView) (n : Name) (i : Option ℕ) (x : Name) → same_node (node_of p b) (Inner n i (x ∷ p)) ≡ false
not-below p b n i x = by (same_node (node_of p b) (Inner n i (x ∷ p))) refl
  where
    longer : (q : Path) → length q ≤ length p → q ≡ x ∷ p → ⊥
    longer q low e = let size : length q ≡ suc (length p) = ap (λ (r : Path). length r) e in omega (arith, low, size)

    at : (b : BitView) → length (path_in (node_of p b)) ≤ length p
    at (NetBit m) = omega arith
    at (SelectBit m j) = omega arith
    at (ConstBit c) = omega arith

    by : (c : Bool) → same_node (node_of p b) (Inner n i (x ∷ p)) ≡ c → same_node (node_of p b) (Inner n i (x ∷ p)) ≡ false
    by false e = e
    by true e = absurd (longer (path_in (node_of p b)) (at b) (ap path_in (node-true (node_of p b) (Inner n i (x ∷ p)) e)))

-- ---- joints

module _ (s : Structure) (ks : Keyed) (t : Tables) where
  module _ (p : Path) (m : ModuleView) (start : ℕ) (bits : BitsAt ks p m start) where
    pub bit-at : (k : ℕ) → nat_lt k (length (bits_in m)) ≡ true → slice_get ks.nodes (start + k) ≡ Some (node_of p (slice_index_or (bits_in m) k (ConstBit true)))
    bit-at k low = bits k (get_or (bits_in m) k (ConstBit true)) (slice_get-get_or (bits_in m) k (ConstBit true) (ltb-true k (length (bits_in m)) low))

    from-at : (f : EdgeFrom) → has_place m f ≡ true → from_node ks (at_start start f) ≡ Some (node_of p (place_bit m f))
    from-at (FromNode k) h = bit-at k.0 h
    from-at (FromConst b) h = refl

  module _ (p q : Path) (to from : ModuleView) (start start2 : ℕ) (kind : EdgeKind) (bits : BitsAt ks p to start) (bits2 : BitsAt ks q from start2) where
    joints-by : (joints : List Joint) → list_all (has_joint to from) joints ≡ true → map (feed_meant s ks t) (map (joint_feed start start2 kind) joints) ≡ map (pair_meant p q kind) (map (joint_bits to from) joints)
    joints-by [] h = refl
    joints-by (j ∷ js) h =
        let here = one (has_joint to from j) (list_all (has_joint to from) js) h in
        let low = one (nat_lt j.0 (length (bits_in to))) (has_place from j.1) here in
        let has = other (nat_lt j.0 (length (bits_in to))) (has_place from j.1) here in
        ap (λ n. (n, Along (from_node ks (at_start start2 j.1)) kind) ∷ map (feed_meant s ks t) (map (joint_feed start start2 kind) js)) (bit-at p to start bits j.0 low)
        ∙ ap (λ o. (Some (node_of p (slice_index_or (bits_in to) j.0 (ConstBit true))), Along o kind) ∷ map (feed_meant s ks t) (map (joint_feed start start2 kind) js)) (from-at q from start2 bits2 j.1 has)
        ∙ ap (λ r. pair_meant p q kind (joint_bits to from j) ∷ r) (joints-by js (other (has_joint to from j) (list_all (has_joint to from) js) h))

    pub joints-mean : (both : List BitPair) (joints : List Joint) → IsJoined to from both joints → map (feed_meant s ks t) (map (joint_feed start start2 kind) joints) ≡ map (pair_meant p q kind) both
    joints-mean both joints r = joints-by joints r.within ∙ ap (map (pair_meant p q kind)) r.same

-- ---- the drives of ports and assigns ls pairs of bits

module _ (q : Path) (y : InstanceView) (m : ModuleView) where
  port-in : (port : PortView) → map drive_meant (connected_drives (y.name ∷ q) port y m) ≡ map (pair_meant (y.name ∷ q) q In) (port_pairs y m port)
  port-in port =
      let joined = pairs (indices port.range) (connected m.ports port.name y.connections) in
      map-map drive_meant (λ (pair : Option ℕ × BitView). (Inner port.name pair.0 (y.name ∷ q), From (PortBit (y.name ∷ q) port.name pair.0) (node_of q pair.1))) joined
      ∙ map-same (λ (pair : Option ℕ × BitView). drive_meant (Inner port.name pair.0 (y.name ∷ q), From (PortBit (y.name ∷ q) port.name pair.0) (node_of q pair.1))) (λ (pair : Option ℕ × BitView). pair_meant (y.name ∷ q) q In (bit_named port.name pair.0, pair.1)) joined (λ pair. at pair.0 pair.1)
      ∙ sym (map-map (pair_meant (y.name ∷ q) q In) (λ (pair : Option ℕ × BitView). (bit_named port.name pair.0, pair.1)) joined)
    where
      at : (i : Option ℕ) (b : BitView) → drive_meant (Inner port.name i (y.name ∷ q), From (PortBit (y.name ∷ q) port.name i) (node_of q b)) ≡ pair_meant (y.name ∷ q) q In (bit_named port.name i, b)
      at i b =
          ap {B = Meant} (λ c. (Some (Inner port.name i (y.name ∷ q)), Along (Some (node_of q b)) (if c then In else Out))) (node-self (Inner port.name i (y.name ∷ q)))
          ∙ ap {B = Meant} (λ k. (Some k, Along (Some (node_of q b)) In)) (sym (named-node (y.name ∷ q) port.name i))

  pub inputs-mean : map drive_meant (flat_map (λ port. connected_drives (y.name ∷ q) port y m) (filter is_input m.ports)) ≡ map (pair_meant (y.name ∷ q) q In) (input_pairs y m)
  inputs-mean =
      map-flat drive_meant (λ port. connected_drives (y.name ∷ q) port y m) (filter is_input m.ports)
      ∙ flat-equal (λ port. map drive_meant (connected_drives (y.name ∷ q) port y m)) (λ port. map (pair_meant (y.name ∷ q) q In) (port_pairs y m port)) (filter is_input m.ports) port-in
      ∙ sym (map-flat (pair_meant (y.name ∷ q) q In) (port_pairs y m) (filter is_input m.ports))

  port-out : (port : PortView) → map drive_meant (output_drives q y m port) ≡ map (pair_meant q (y.name ∷ q) Out) (map (λ (b : BitPair). (b.1, b.0)) (port_pairs y m port))
  port-out port =
      let joined = pairs (indices port.range) (connected m.ports port.name y.connections) in
      map-map drive_meant (λ (pair : Option ℕ × BitView). (node_of q pair.1, From (PortBit (y.name ∷ q) port.name pair.0) (Inner port.name pair.0 (y.name ∷ q)))) joined
      ∙ map-same (λ (pair : Option ℕ × BitView). drive_meant (node_of q pair.1, From (PortBit (y.name ∷ q) port.name pair.0) (Inner port.name pair.0 (y.name ∷ q)))) (λ (pair : Option ℕ × BitView). pair_meant q (y.name ∷ q) Out (pair.1, bit_named port.name pair.0)) joined (λ pair. at pair.0 pair.1)
      ∙ sym (map-map (pair_meant q (y.name ∷ q) Out) (λ (pair : Option ℕ × BitView). (pair.1, bit_named port.name pair.0)) joined)
      ∙ ap (map (pair_meant q (y.name ∷ q) Out)) (sym (map-map (λ (b : BitPair). (b.1, b.0)) (λ (pair : Option ℕ × BitView). (bit_named port.name pair.0, pair.1)) joined))
    where
      at : (i : Option ℕ) (b : BitView) → drive_meant (node_of q b, From (PortBit (y.name ∷ q) port.name i) (Inner port.name i (y.name ∷ q))) ≡ pair_meant q (y.name ∷ q) Out (b, bit_named port.name i)
      at i b =
          ap {B = Meant} (λ c. (Some (node_of q b), Along (Some (Inner port.name i (y.name ∷ q))) (if c then In else Out))) (not-below q b port.name i y.name)
          ∙ ap {B = Meant} (λ k. (Some (node_of q b), Along (Some k) Out)) (sym (named-node (y.name ∷ q) port.name i))

  pub outputs-mean : map drive_meant (flat_map (output_drives q y m) (filter (λ port. not (is_input port)) m.ports)) ≡ map (pair_meant q (y.name ∷ q) Out) (output_pairs y m)
  outputs-mean =
      map-flat drive_meant (output_drives q y m) (filter (λ port. not (is_input port)) m.ports)
      ∙ flat-equal (λ port. map drive_meant (output_drives q y m port)) (λ port. map (pair_meant q (y.name ∷ q) Out) (map (λ (b : BitPair). (b.1, b.0)) (port_pairs y m port))) (filter (λ port. not (is_input port)) m.ports) port-out
      ∙ sym (map-flat (pair_meant q (y.name ∷ q) Out) (λ port. map (λ (b : BitPair). (b.1, b.0)) (port_pairs y m port)) (filter (λ port. not (is_input port)) m.ports))

module _ (p : Path) where
  assign-bits : (a k : ℕ) (bs : List BitPair) → map drive_meant (map (λ (pair : ℕ × BitPair). (node_of p pair.1.0, From (AssignBit p a pair.0) (node_of p pair.1.1))) (numbered k bs)) ≡ map (pair_meant p p Assign) bs
  assign-bits a k [] = refl
  assign-bits a k (b ∷ bs) = ap (λ r. pair_meant p p Assign b ∷ r) (assign-bits a (k + 1) bs)

  pub assigns-mean : (k : ℕ) (ls : List AssignView) → map drive_meant (flat_map (assign_drives p) (numbered k ls)) ≡ map (pair_meant p p Assign) (flat_map (λ (a : AssignView). pairs a.left a.right) ls)
  assigns-mean k [] = refl
  assigns-mean k (a ∷ ls) =
      map-append drive_meant (assign_drives p (k, a)) (flat_map (assign_drives p) (numbered (k + 1) ls))
      ∙ ap (λ r. r ++ map drive_meant (flat_map (assign_drives p) (numbered (k + 1) ls))) (assign-bits k 0 (pairs a.left a.right))
      ∙ ap (λ r. map (pair_meant p p Assign) (pairs a.left a.right) ++ r) (assigns-mean (k + 1) ls)
      ∙ sym (map-append (pair_meant p p Assign) (pairs a.left a.right) (flat_map (λ (a : AssignView). pairs a.left a.right) ls))
