-- The nodes have the names of their modules' bits, and the outer sides those of the top's ports.
use Rattle.std.proofs.Common.{◌≡◌, ℕ, zero, suc, ◌+◌, ◌≤◌, ◌<◌, List, [], ◌∷◌, ◌++◌, length, take, drop, Option, Some, None, refl, ap, ◌∙◌, arith}
use Rattle.std.specs.Prelude.{map, flat_map, slice_get, slice_index_or}
use Rattle.std.proofs.lemmas.List.{map-append}
use Rattle.lp_text.specs.declared.names.NameId.{NameId}
use Rattle.lp_text.specs.Texts.{text_at}
use Rattle.lp_model.specs.declared.graph.Node.{Node as NodeRow}
use Rattle.lp_model.specs.declared.graph.NodeName.{NodeName}
use Rattle.lp_model.specs.declared.netlist.Module.{Module}
use Rattle.lp_model.specs.declared.netlist.Port.{Port}
use Rattle.lp_model.specs.NetlistView.{PortView, port_view, module_view}
use Rattle.lp_spec_design.specs.Keys.{Node, Outer}
use Rattle.lp_spec_design.specs.Netlists.{indices}
use Rattle.lp_spec_design.specs.Graph.{numbered}
use Rattle.lp_spec_design.specs.Nodes.{outer_in}
use Rattle.lp_spec_bridge.specs.Elaborates.{outer_key}
use Rattle.lp_spec_layout.specs.Sites.{Site}
use Rattle.lp_spec_layout.specs.Laid.{no_label, name_rows}
use Rattle.lp_layout.specs.Held.{word}
use Rattle.lp_layout.specs.Labels.{name_at, names_in, port_names, bit_names, labels_of}
use Rattle.lp_layout.specs.Nodes.{named_at, module_nodes, site_nodes, inner_nodes, outer_nodes}
use Rattle.lp_layout.proofs.Noted.{names_of}

word-same : (k : ℕ) → k < 4294967296 → word k ≡ k
word-same k low = omega (arith, low)

-- ---- nodes of instances

bits-named : (k : ℕ) (ns : List NodeName) → k < 4294967296 → names_of (map (named_at (record { 0 = word k })) ns) ≡ map (λ n. (k, n)) ns
bits-named k [] low = refl
bits-named k (n ∷ ns) low = λ i. (word-same k low i, n) ∷ bits-named k ns low i

module-named : (ms : List Module) (k of : ℕ) → k < 4294967296 → names_of (module_nodes k (slice_get ms of)) ≡ map (λ n. (k, n)) (slice_index_or (labels_of ms) of no_label).bits
module-named [] k of low = refl
module-named (m ∷ ms) k zero low = bits-named k (bit_names m) low
module-named (m ∷ ms) k (suc of) low = module-named ms k of low

sites-named : (ms : List Module) (k : ℕ) (xs : List Site) → k + length xs ≤ 4294967296
    → names_of (flat_map (site_nodes ms) (numbered k xs)) ≡ flat_map (λ (z : ℕ × Site). map (λ n. (z.0, n)) (slice_index_or (labels_of ms) z.1.of no_label).bits) (numbered k xs)
sites-named ms k [] low = refl
sites-named ms k (x ∷ xs) low =
    map-append (λ (y : NodeRow). (y.inst.0, y.name)) (module_nodes k (slice_get ms x.of)) (flat_map (site_nodes ms) (numbered (k + 1) xs))
    ∙ (λ i. module-named ms k x.of (omega (arith, low)) i ++ sites-named ms (k + 1) xs (omega (arith, low)) i)

pub inner_named : (ms : List Module) (xs : List Site) → length xs ≤ 4294967296 → names_of (inner_nodes ms xs) ≡ name_rows (labels_of ms) xs
inner_named ms xs low = sites-named ms 0 xs (omega (arith, low))

-- ---- outer sides

module _ (texts : List (List ℕ)) where
  abbrev pub outer-of : ℕ × NodeName → Node
  outer-of z = outer_key texts z.1

  bits-outer : (n : NameId) (is : List (Option ℕ)) → map (outer_key texts) (map (name_at n) is) ≡ map (λ i. Outer (text_at texts n.0) i) is
  bits-outer n [] = refl
  bits-outer n (None ∷ is) = ap (λ z. outer_key texts (name_at n None) ∷ z) (bits-outer n is)
  bits-outer n (Some i ∷ is) = ap (λ z. outer_key texts (name_at n (Some i)) ∷ z) (bits-outer n is)

  ports-outer : (ps : List Port) → map (outer_key texts) (port_names ps) ≡ flat_map (λ (x : PortView). map (λ i. Outer x.name i) (indices x.range)) (map (port_view texts) ps)
  ports-outer [] = refl
  ports-outer (p ∷ ps) = map-append (outer_key texts) (names_in p.name p.range) (port_names ps) ∙ (λ i. bits-outer p.name (indices p.range) i ++ ports-outer ps i)

  named-outer : (ns : List NodeName) → map outer-of (names_of (map (named_at (record { 0 = 0 })) ns)) ≡ map (outer_key texts) ns
  named-outer [] = refl
  named-outer (n ∷ ns) = ap (λ z. outer_key texts n ∷ z) (named-outer ns)

  pub outer_named : (m : Module) → map outer-of (names_of (outer_nodes (Some m))) ≡ outer_in (Some (module_view texts m))
  outer_named m = named-outer (port_names m.ports) ∙ ports-outer m.ports

-- ---- parts of lists

pub names_taken : (k : ℕ) (xs : List NodeRow) → names_of (take k xs) ≡ take k (names_of xs)
names_taken zero xs = refl
names_taken (suc k) [] = refl
names_taken (suc k) (x ∷ xs) = ap (λ z. (x.inst.0, x.name) ∷ z) (names_taken k xs)

pub names_left : (k : ℕ) (xs : List NodeRow) → names_of (drop k xs) ≡ drop k (names_of xs)
names_left zero xs = refl
names_left (suc k) [] = refl
names_left (suc k) (x ∷ xs) = names_left k xs

pub names_apart : (xs ys : List NodeRow) → take (length xs) (names_of (xs ++ ys)) ≡ names_of xs
names_apart [] ys = refl
names_apart (x ∷ xs) ys = ap (λ z. (x.inst.0, x.name) ∷ z) (names_apart xs ys)

pub names_behind : (xs ys : List NodeRow) → drop (length xs) (names_of (xs ++ ys)) ≡ names_of ys
names_behind [] ys = refl
names_behind (x ∷ xs) ys = names_behind xs ys

pub outer_mapped : (texts : List (List ℕ)) (xs : List NodeRow) → map (λ (x : NodeRow). outer_key texts x.name) xs ≡ map (outer-of texts) (names_of xs)
outer_mapped texts [] = refl
outer_mapped texts (x ∷ xs) = ap (λ z. outer_key texts x.name ∷ z) (outer_mapped texts xs)
