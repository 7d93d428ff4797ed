-- All readers by number are those by paths: outputs of the top too.
use Rattle.std.proofs.Common.{◌≡◌, ◌<◌, ◌+◌, ℕ, zero, suc, List, [], ◌∷◌, ◌++◌, map, length, get_or, Option, Some, None, refl, sym, ap, ◌∙◌, arith}
use Rattle.std.specs.Prelude.{flat_map, slice_get}
use Rattle.std.proofs.lemmas.List.{map-append, length-map, get_or_default}
use Rattle.std.proofs.lemmas.Option.{slice_get_within}
use Rattle.lp_model.specs.declared.graph.EdgeFrom.{EdgeFrom}
use Rattle.lp_model.specs.LibraryView.{CellView}
use Rattle.lp_spec_design.specs.Netlists.{Structure}
use Rattle.lp_spec_design.specs.Instances.{Placed}
use Rattle.lp_spec_design.specs.Graph.{numbered, pins_of}
use Rattle.lp_spec_bridge.specs.Tables.{Tables}
use Rattle.lp_spec_bridge.specs.Keyed.{Keyed, leaf_at}
use Rattle.lp_spec_bridge.specs.Readers.{ReaderRow, leaf_readers, reader_with_node}
use Rattle.lp_spec_design.specs.Keys.{CellPin, SwitchedPin}
use Rattle.lp_model.specs.LibraryView.{PgPinView, PinView}
use Rattle.lp_model.specs.NetlistView.{PortView, NetView, ModuleView}
use Rattle.std.specs.Prelude.{filter, bytes_eq, if◌then◌else◌}
use Rattle.std.specs.List.{list_any}
use Rattle.std.proofs.Common.{Bool, true, false, not, ◌&&◌, drop, inl, inr, subst}
use Rattle.std.proofs.lemmas.List.{drop_at, get_or-append-add}
use Rattle.std.proofs.lemmas.Option.{slice_get_cases, get_or_from_slice_get}
use Rattle.lp_model.specs.declared.graph.Node.{Node as NodeRow}
use Rattle.lp_model.specs.declared.graph.Source.{Source as SourceRow}
use Rattle.lp_model.specs.declared.graph.Source.TheVariants.{Nothing, Env, Leaf as OfLeaf, Edge as OfEdge}
use Rattle.lp_spec_design.specs.Keys.{Name, Node, Inner, Outer, Fixed, Source, Environment, From, PortBit, same_index}
use Rattle.lp_spec_design.specs.Netlists.{module_at, indices, is_input}
use Rattle.lp_spec_design.specs.Graph.{Reader, TopOutput, and_more, some_of, outside, source_of, readers, top_outputs}
use Rattle.lp_spec_design.specs.Instances.{cell_instances}
use Rattle.lp_spec_design.specs.Nodes.{inner_nodes, outer_in}
use Rattle.lp_spec_design.specs.Winners.{IsIn}
use Rattle.lp_spec_design.specs.Reads.{both, name-true, name-self}
use Rattle.lp_spec_design.proofs.Looped.{head_of, source_by, outer_by}
use Rattle.lp_spec_design.proofs.Members.{in-either, of-map, in-map, any-in}
use Rattle.lp_spec_bridge.specs.Keyed.{IsApart, keys_of, node_at}
use Rattle.lp_spec_bridge.specs.Represents.{outputs_in, source_key, cell_of}
use Rattle.lp_spec_bridge.specs.Readers.{top_readers, readers_by, output_row, top_output}
use Rattle.lp_spec_bridge.specs.Names.{HasNamesApart}
use Rattle.lp_spec_bridge.specs.Elaborates.{Elaborates}
use Rattle.lp_spec_bridge.proofs.Apart.{in-at, index-self}
use Rattle.lp_spec_bridge.proofs.Distinct.{apart-left, module-in}
use Rattle.lp_spec_bridge.proofs.Readers.{leaves_read}

-- ---- outputs of the top

top-form : Node → Option Source → Option (Reader × Node)
top-form k (Some Environment) = None
top-form k o = Some (top_output k, k)

-- what is not driven by the environment is an output
not-env : (k : Node) (o : Option Source) → (o ≡ Some Environment → ⊥) → top-form k o ≡ Some (top_output k, k)
unfolding top-form
not-env k None out = refl
not-env k (Some (CellPin p x q)) out = refl
not-env k (Some (SwitchedPin p x q)) out = refl
not-env k (Some Environment) out = absurd (out refl)
not-env k (Some (From w j)) out = refl

abbrev HasNoEnv : List Source → Type 0
HasNoEnv xs = (x : Source) → IsIn x xs → x ≡ Environment → ⊥

outputs-no-env : (a : Placed) (c : Option CellView) (pin : ℕ) → slice_get (outputs_in a c) pin ≡ Some Environment → ⊥
outputs-no-env a None pin e = elim (slice_get_cases {X = Source} [] pin).1 [ inl found ↦ omega (arith, found.1) | inr past ↦ let no : None ≡ Some Environment = sym past.1 ∙ e in cc ]
outputs-no-env a (Some c) pin e =
    let pins = map (λ (q : PinView). CellPin a.path a.instance q.name) c.pins in
    let pgs = map (λ (g : PgPinView). SwitchedPin a.path a.instance g.name) c.pgs in
    let xs = pins ++ pgs in
    let low : pin < length (map (λ (q : PinView). CellPin a.path a.instance q.name) c.pins ++ map (λ (g : PgPinView). SwitchedPin a.path a.instance g.name) c.pgs) = slice_get_within xs pin Environment e in
    let there : IsIn Environment (map (λ (q : PinView). CellPin a.path a.instance q.name) c.pins ++ map (λ (g : PgPinView). SwitchedPin a.path a.instance g.name) c.pgs) = subst (λ z. IsIn z (map (λ (q : PinView). CellPin a.path a.instance q.name) c.pins ++ map (λ (g : PgPinView). SwitchedPin a.path a.instance g.name) c.pgs)) (get_or_from_slice_get xs pin Environment Environment e) (in-at xs pin Environment low) in
    elim (in-either Environment pins pgs there) [
      | inl l ↦ let q = of-map (λ (q : PinView). CellPin a.path a.instance q.name) Environment c.pins l in let no : Environment ≡ CellPin a.path a.instance q.0.name = q.2 in absurd cc
      | inr l ↦ let g = of-map (λ (g : PgPinView). SwitchedPin a.path a.instance g.name) Environment c.pgs l in let no : Environment ≡ SwitchedPin a.path a.instance g.0.name = g.2 in absurd cc
    ]

module _ (s : Structure) (ks : Keyed) (t : Tables) where
  listed : (j : ℕ) (k : Node) (rest : List (ReaderRow × EdgeFrom)) (more : List (Reader × Node)) → node_at ks j ≡ k → map (reader_with_node s ks t) rest ≡ more → (top_output (node_at ks j), node_at ks j) ∷ map (reader_with_node s ks t) rest ≡ (top_output k, k) ∷ more
  listed j k rest more key same = ap (λ z. (top_output z, z) ∷ map (reader_with_node s ks t) rest) key ∙ ap (λ r. (top_output k, k) ∷ r) same

  -- one node of the environment's side
  one-output : (j : ℕ) (x : SourceRow) (k : Node) (rest : List (ReaderRow × EdgeFrom)) (more : List (Reader × Node)) → node_at ks j ≡ k → source_key s ks t x ≡ source_of s k → map (reader_with_node s ks t) rest ≡ more
      → map (reader_with_node s ks t) (and_more (output_row j x) rest) ≡ and_more (top-form k (source_of s k)) more
  unfolding top-form
  one-output j Env k rest more key is same = same ∙ ap (λ o. and_more (top-form k o) more) is
  one-output j Nothing k rest more key is same = listed j k rest more key same ∙ ap (λ o. and_more o more) (sym (not-env k None (λ e. cc))) ∙ ap (λ o. and_more (top-form k o) more) is
  one-output j (OfLeaf pin leaf) k rest more key is same =
      listed j k rest more key same
      ∙ ap (λ o. and_more o more) (sym (not-env k (slice_get (outputs_in (leaf_at ks leaf.0) (cell_of s t leaf.0)) pin) (outputs-no-env (leaf_at ks leaf.0) (cell_of s t leaf.0) pin)))
      ∙ ap (λ o. and_more (top-form k o) more) is
  one-output j (OfEdge e) k rest more key is same = listed j k rest more key same ∙ ap (λ o. and_more (top-form k o) more) is

  -- from one number on
  outputs-from : (j : ℕ) (rows : List NodeRow) (keyed : List Node) → map (λ (x : NodeRow). source_key s ks t x.source) rows ≡ map (source_of s) keyed → ((i : ℕ) (d : Node) → i < length keyed → node_at ks (j + i) ≡ get_or keyed i d)
      → map (reader_with_node s ks t) (some_of (λ (z : ℕ × NodeRow). output_row z.0 z.1.source) (numbered j rows)) ≡ some_of (λ k. top-form k (source_of s k)) keyed
  outputs-from j [] [] same keys = refl
  outputs-from j [] (k ∷ keyed) same keys = absurd cc
  outputs-from j (x ∷ rows) [] same keys = absurd cc
  outputs-from j (x ∷ rows) (k ∷ keyed) same keys =
      let here : source_key s ks t x.source ≡ source_of s k = cc in
      let later : map (λ (x : NodeRow). source_key s ks t x.source) rows ≡ map (source_of s) keyed = cc in
      let place : j + 0 ≡ j = omega arith in
      let key : node_at ks j ≡ k = ap (node_at ks) (sym place) ∙ keys 0 k (omega arith) in
      one-output j x.source k (some_of (λ (z : ℕ × NodeRow). output_row z.0 z.1.source) (numbered (j + 1) rows)) (some_of (λ k. top-form k (source_of s k)) keyed) key here
      (outputs-from (j + 1) rows keyed later (λ i d low. let next : (j + 1) + i ≡ j + suc i = omega arith in ap (node_at ks) next ∙ keys (suc i) d (omega arith)))

more-append : {B : Type 0} (o : Option B) (xs ys : List B) → and_more o (xs ++ ys) ≡ and_more o xs ++ ys
more-append None xs ys = refl
more-append (Some z) xs ys = refl

some-append : {A B : Type 0} (f : A → Option B) (xs ys : List A) → some_of f (xs ++ ys) ≡ some_of f xs ++ some_of f ys
some-append f [] ys = refl
some-append f (x ∷ xs) ys = ap (and_more (f x)) (some-append f xs ys) ∙ more-append (f x) (some_of f xs) (some_of f ys)

module _ (s : Structure) (apart : HasNamesApart s) (m : ModuleView) (top : module_at s [] ≡ Some m) where
  first-outside : (n : Name) (i : Option ℕ) (ports : List PortView) (x : PortView) → IsApart (map (λ (q : PortView). q.name) ports) → IsIn x ports → x.name ≡ n → IsIn i (indices x.range)
      → head_of (map (outside n i) (filter (λ port. bytes_eq port.name n && list_any (same_index i) (indices port.range)) ports)) ≡ Some (outside n i x)
  first-outside n i [] x names h e bit = absurd h
  first-outside n i (y ∷ ys) x names (inl is) e bit =
      let named : bytes_eq y.name n ≡ true = ap (λ z. bytes_eq y.name z) (sym e ∙ ap (λ (q : PortView). q.name) is) ∙ name-self y.name in
      let has : list_any (same_index i) (indices y.range) ≡ true = any-in (same_index i) i (indices y.range) (subst (λ (q : PortView). IsIn i (indices q.range)) is bit) (index-self i) in
      ap (λ b. head_of (map (outside n i) (if b then y ∷ filter (λ port. bytes_eq port.name n && list_any (same_index i) (indices port.range)) ys else filter (λ port. bytes_eq port.name n && list_any (same_index i) (indices port.range)) ys))) (both (bytes_eq y.name n) (list_any (same_index i) (indices y.range)) named has)
      ∙ ap (λ z. Some (outside n i z)) (sym is)
  first-outside n i (y ∷ ys) x names (inr h) e bit = by (bytes_eq y.name n) refl (first-outside n i ys x names.1 h e bit)
    where
      by : (b : Bool) → bytes_eq y.name n ≡ b → head_of (map (outside n i) (filter (λ port. bytes_eq port.name n && list_any (same_index i) (indices port.range)) ys)) ≡ Some (outside n i x)
          → head_of (map (outside n i) (if b && list_any (same_index i) (indices y.range) then y ∷ filter (λ port. bytes_eq port.name n && list_any (same_index i) (indices port.range)) ys else filter (λ port. bytes_eq port.name n && list_any (same_index i) (indices port.range)) ys)) ≡ Some (outside n i x)
      by true f more = absurd (names.0 (subst (λ z. IsIn z (map (λ (q : PortView). q.name) ys)) (e ∙ sym (name-true y.name n f)) (in-map (λ (q : PortView). q.name) x ys h)))
      by false f more = more

  outer-source : (x : PortView) → IsIn x m.ports → (i : Option ℕ) → IsIn i (indices x.range) → source_of s (Outer x.name i) ≡ Some (outside x.name i x)
  outer-source x h i bit =
      source_by s (Outer x.name i) (map (outside x.name i) (filter (λ port. bytes_eq port.name x.name && list_any (same_index i) (indices port.range)) m.ports)) (outer_by s x.name i (Some m) top)
      ∙ first-outside x.name i m.ports x (apart-left (map (λ (q : PortView). q.name) m.ports) (map (λ (z : NetView). z.name) m.nets) (apart.nets m (module-in s [] m top))) h refl bit

  port-form : (x : PortView) → IsIn x m.ports → (idx : List (Option ℕ)) → ((i : Option ℕ) → IsIn i idx → IsIn i (indices x.range)) → some_of (λ k. top-form k (source_of s k)) (map (λ i. Outer x.name i) idx) ≡ (if is_input x then [] else map (λ i. (TopOutput x.name i, Outer x.name i)) idx)
  unfolding top-form
  port-form x h [] within = by (is_input x)
    where
      by : (b : Bool) → ◌≡◌ {A = List (Reader × Node)} [] (if b then [] else [])
      by true = refl
      by false = refl
  port-form x h (i ∷ idx) within =
      ap (λ o. and_more (top-form (Outer x.name i) o) (some_of (λ k. top-form k (source_of s k)) (map (λ i. Outer x.name i) idx))) (outer-source x h i (within i (inl refl)))
      ∙ by (is_input x) (port-form x h idx (λ j g. within j (inr g)))
    where
      by : (b : Bool) → some_of (λ k. top-form k (source_of s k)) (map (λ i. Outer x.name i) idx) ≡ (if b then [] else map (λ i. (TopOutput x.name i, Outer x.name i)) idx)
          → and_more (top-form (Outer x.name i) (Some (if b then Environment else From (PortBit [] x.name i) (Inner x.name i [])))) (some_of (λ k. top-form k (source_of s k)) (map (λ i. Outer x.name i) idx)) ≡ (if b then [] else map (λ i. (TopOutput x.name i, Outer x.name i)) (i ∷ idx))
      by true more = more
      by false more = ap (λ r. (TopOutput x.name i, Outer x.name i) ∷ r) more

  ports-form : (qs : List PortView) → ((x : PortView) → IsIn x qs → IsIn x m.ports) → some_of (λ k. top-form k (source_of s k)) (flat_map (λ (x : PortView). map (λ i. Outer x.name i) (indices x.range)) qs) ≡ flat_map (λ (x : PortView). map (λ i. (TopOutput x.name i, Outer x.name i)) (indices x.range)) (filter (λ x. not (is_input x)) qs)
  ports-form [] within = refl
  ports-form (x ∷ qs) within =
      some-append (λ k. top-form k (source_of s k)) (map (λ i. Outer x.name i) (indices x.range)) (flat_map (λ (x : PortView). map (λ i. Outer x.name i) (indices x.range)) qs)
      ∙ ap (λ r. r ++ some_of (λ k. top-form k (source_of s k)) (flat_map (λ (x : PortView). map (λ i. Outer x.name i) (indices x.range)) qs)) (port-form x (within x (inl refl)) (indices x.range) (λ i g. g))
      ∙ by (is_input x) (ports-form qs (λ y g. within y (inr g)))
    where
      by : (b : Bool) → some_of (λ k. top-form k (source_of s k)) (flat_map (λ (x : PortView). map (λ i. Outer x.name i) (indices x.range)) qs) ≡ flat_map (λ (x : PortView). map (λ i. (TopOutput x.name i, Outer x.name i)) (indices x.range)) (filter (λ x. not (is_input x)) qs)
          → (if b then [] else map (λ i. (TopOutput x.name i, Outer x.name i)) (indices x.range)) ++ some_of (λ k. top-form k (source_of s k)) (flat_map (λ (x : PortView). map (λ i. Outer x.name i) (indices x.range)) qs)
          ≡ flat_map (λ (x : PortView). map (λ i. (TopOutput x.name i, Outer x.name i)) (indices x.range)) (if not b then x ∷ filter (λ x. not (is_input x)) qs else filter (λ x. not (is_input x)) qs)
      by true more = more
      by false more = ap (λ r. map (λ i. (TopOutput x.name i, Outer x.name i)) (indices x.range) ++ r) more

drop-map : {A B : Type 0} (n : ℕ) (f : A → B) (xs : List A) → map f (drop n xs) ≡ drop n (map f xs)
drop-map zero f xs = refl
drop-map (suc n) f [] = refl
drop-map (suc n) f (x ∷ xs) = drop-map n f xs

all-tops : (s : Structure) → HasNamesApart s → (o : Option ModuleView) → module_at s [] ≡ o → some_of (λ k. top-form k (source_of s k)) (outer_in o) ≡ top_outputs s
unfolding top-form
all-tops s apart None e = rw e refl
all-tops s apart (Some m) e = ports-form s apart m e m.ports (λ x g. g) ∙ rw e refl

pub all_read : (texts : List (List ℕ)) (s : Structure) (t : Tables) → HasNamesApart s → Elaborates texts s t → map (reader_with_node s (keys_of s) t) (readers_by s t) ≡ readers s
all_read texts s t apart e =
    let rows = flat_map (leaf_readers s t) (numbered 0 t.leaves) in
    let r = e.represents in
    let cut : map (λ (x : NodeRow). source_key s (keys_of s) t x.source) (drop t.inner t.nodes) ≡ map (source_of s) (outer_in (module_at s [])) =
    drop-map t.inner (λ (x : NodeRow). source_key s (keys_of s) t x.source) t.nodes
    ∙ ap (drop t.inner) r.sources
    ∙ ap (λ n. drop n (map (source_of s) (inner_nodes s ++ outer_in (module_at s [])))) e.inner
    ∙ ap (drop (length (inner_nodes s))) (map-append (source_of s) (inner_nodes s) (outer_in (module_at s [])))
    ∙ drop_at (map (source_of s) (inner_nodes s)) (map (source_of s) (outer_in (module_at s []))) (length (inner_nodes s)) (length-map (inner_nodes s) (source_of s)) in
    let keys : (i : ℕ) (d : Node) → i < length (outer_in (module_at s [])) → node_at (keys_of s) (t.inner + i) ≡ get_or (outer_in (module_at s [])) i d =
    λ i d low. ap (λ n. node_at (keys_of s) (n + i)) e.inner ∙ get_or-append-add (inner_nodes s) (outer_in (module_at s [])) i (Fixed false) ∙ get_or_default (outer_in (module_at s [])) i (Fixed false) d low in
    map-append (reader_with_node s (keys_of s) t) rows (top_readers t)
    ∙ ap (λ xs. xs ++ map (reader_with_node s (keys_of s) t) (top_readers t)) (leaves_read s (keys_of s) t r)
    ∙ ap (λ xs. flat_map (pins_of s) (cell_instances s) ++ xs) (outputs-from s (keys_of s) t t.inner (drop t.inner t.nodes) (outer_in (module_at s [])) cut keys ∙ all-tops s apart (module_at s []) refl)
