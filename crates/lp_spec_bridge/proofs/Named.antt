-- What an elaboration keeps is the elaborated netlist.
use Rattle.std.proofs.Common.{◌≡◌, ◌+◌, ℕ, suc, List, [], ◌∷◌, ◌++◌, map, take, Option, Some, None, refl, sym, ap, ◌∙◌, arith}
use Rattle.std.specs.Prelude.{flat_map, slice_get, slice_index_or}
use Rattle.std.proofs.lemmas.Option.{get_or_from_slice_get}
use Rattle.lp_text.specs.Texts.{text_at}
use Rattle.lp_model.specs.declared.graph.Leaf.{Leaf}
use Rattle.lp_model.specs.declared.graph.Node.{Node as NodeRow}
use Rattle.lp_model.specs.declared.graph.NodeName.{NodeName}
use Rattle.lp_model.specs.declared.graph.NodeName.TheVariants.{Scalar, Bit, Added}
use Rattle.lp_model.specs.NetlistView.{ModuleView}
use Rattle.lp_spec_design.specs.Keys.{Name, Path, Node}
use Rattle.lp_spec_design.specs.Netlists.{Structure, module_at, node_of}
use Rattle.lp_spec_design.specs.Instances.{Placed, module_instances, cell_instances}
use Rattle.lp_spec_design.specs.Graph.{numbered}
use Rattle.lp_spec_design.specs.Nodes.{nodes_in, inner_nodes}
use Rattle.lp_spec_bridge.specs.Tables.{Tables}
use Rattle.lp_spec_bridge.specs.Names.{HasNamesApart}
use Rattle.lp_spec_bridge.specs.Driven.{JoinsSingleBits}
use Rattle.lp_spec_bridge.specs.Elaborates.{Elaborates, inner_key, placed_key}
use Rattle.lp_spec_bridge.specs.Kept.{AllStand, IsKept}
use Rattle.lp_spec_bridge.specs.Named.{name_bit, bits_of, NamedAt, names_at, IsNamed}
use Rattle.lp_spec_bridge.proofs.Trails.{map-map}
use Rattle.lp_spec_bridge.proofs.Inputs.{map-same}
use Rattle.lp_spec_bridge.proofs.Readers.{map-flat}
use Rattle.lp_spec_bridge.proofs.Templates.{bits-nodes}
use Rattle.lp_spec_bridge.proofs.Ways.{keys_apart}
use Rattle.lp_spec_bridge.proofs.Kept.{represents_kept}

module _ (texts : List (List ℕ)) (s : Structure) (t : Tables) where
  leaves-named : (ls : List Leaf) (keyed : List Placed) → AllStand s t ls keyed → map (λ (l : Leaf). text_at texts l.name.0) ls ≡ map (λ (a : Placed). a.instance) keyed → map (placed_key texts (module_instances s)) ls ≡ keyed
  leaves-named [] [] h same = refl
  leaves-named [] (a ∷ keyed) h same = absurd h
  leaves-named (l ∷ ls) [] h same = absurd h
  leaves-named (l ∷ ls) (a ∷ keyed) h same =
      let here : text_at texts l.name.0 ≡ a.instance = cc in
      let rest : map (λ (l : Leaf). text_at texts l.name.0) ls ≡ map (λ (a : Placed). a.instance) keyed = cc in
      let path : slice_index_or (module_instances s) l.inst.0 [] ≡ a.path = get_or_from_slice_get (module_instances s) l.inst.0 a.path [] h.0.inst in
      let one_leaf : placed_key texts (module_instances s) l ≡ a = ap {B = Placed} (λ (p : Path). record { path = p; instance = text_at texts l.name.0 }) path ∙ ap {B = Placed} (λ (n : Name). record { path = a.path; instance = n }) here in
      ap (λ x. x ∷ map (placed_key texts (module_instances s)) ls) one_leaf ∙ ap (λ r. a ∷ r) (leaves-named ls keyed h.1 rest)

  name-key : (p : Path) (n : NodeName) → inner_key texts p n ≡ node_of p (name_bit texts n)
  name-key p (Scalar n) = refl
  name-key p (Bit n i) = refl
  name-key p (Added w) = refl

  bits-key : (p : Path) (o : Option ModuleView) → map (node_of p) (bits_of o) ≡ nodes_in p o
  bits-key p None = refl
  bits-key p (Some m) = bits-nodes p m

  -- a name in an instance as a node
  abbrev named_key : NamedAt → Node
  named_key z = inner_key texts (slice_index_or (module_instances s) z.0 []) z.1

  module _ (names : ℕ → List NodeName) (each : (k : ℕ) (p : Path) → slice_get (module_instances s) k ≡ Some p → map (name_bit texts) (names k) ≡ bits_of (module_at s p)) where
    instance-key : (k : ℕ) (p : Path) → slice_get (module_instances s) k ≡ Some p → map named_key (names_at names (k, p)) ≡ nodes_in p (module_at s p)
    instance-key k p at =
        let path : slice_index_or (module_instances s) k [] ≡ p = get_or_from_slice_get (module_instances s) k p [] at in
        map-map named_key (λ (n : NodeName). (k, n)) (names k)
        ∙ ap (λ q. map (λ (n : NodeName). inner_key texts q n) (names k)) path
        ∙ map-same (λ (n : NodeName). inner_key texts p n) (λ (n : NodeName). node_of p (name_bit texts n)) (names k) (λ n. name-key p n)
        ∙ sym (map-map (node_of p) (name_bit texts) (names k))
        ∙ ap (map (node_of p)) (each k p at)
        ∙ bits-key p (module_at s p)

    instances-key : (k : ℕ) (ps : List Path) → ((i : ℕ) (p : Path) → slice_get ps i ≡ Some p → slice_get (module_instances s) (k + i) ≡ Some p)
        → flat_map (λ z. map named_key (names_at names z)) (numbered k ps) ≡ flat_map (λ p. nodes_in p (module_at s p)) ps
    instances-key k [] rows = refl
    instances-key k (p ∷ ps) rows =
        let place : k ≡ k + 0 = omega arith in
        let at : slice_get (module_instances s) k ≡ Some p = ap (slice_get (module_instances s)) place ∙ rows 0 p refl in
        ap (λ xs. xs ++ flat_map (λ z. map named_key (names_at names z)) (numbered (k + 1) ps)) (instance-key k p at)
        ∙ ap (λ xs. nodes_in p (module_at s p) ++ xs)
        (instances-key (k + 1) ps (λ i q g. let next : (k + 1) + i ≡ k + suc i = omega arith in ap (slice_get (module_instances s)) next ∙ rows (suc i) q (later i ∙ g)))
      where
        later : (i : ℕ) → slice_get (p ∷ ps) (suc i) ≡ slice_get ps i
        later i = refl

  bits-named : (n : IsNamed texts s t) → map (λ (x : NodeRow). inner_key texts (slice_index_or (module_instances s) x.inst.0 []) x.name) (take t.inner t.nodes) ≡ inner_nodes s
  unfolding inner_nodes
  bits-named n =
      sym (map-map named_key (λ (x : NodeRow). (x.inst.0, x.name)) (take t.inner t.nodes))
      ∙ ap (map named_key) n.bits
      ∙ map-flat named_key (names_at n.names) (numbered 0 (module_instances s))
      ∙ instances-key n.names n.each 0 (module_instances s) (λ i p g. let place : 0 + i ≡ i = omega arith in ap (slice_get (module_instances s)) place ∙ g)

  pub elaborates_kept : HasNamesApart s → JoinsSingleBits s → IsKept s t → IsNamed texts s t → Elaborates texts s t
  elaborates_kept names single k n = record {
    represents = represents_kept s t names single k;
    apart = keys_apart s names;
    instances = n.instances;
    modules = n.modules;
    starts = n.starts;
    leaves = leaves-named t.leaves (cell_instances s) k.leaves n.leaves;
    inner = n.inner;
    inner_bits = bits-named n;
    outer_bits = n.outer_bits;
    edges = n.edges;
    shapes = n.shapes;
  }
