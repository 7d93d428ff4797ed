-- Readers behind an edge by number are those by paths.
use Rattle.std.proofs.Common.{◌≡◌, ◌<◌, ◌≤◌, ◌+◌, ℕ, zero, suc, Bool, true, false, List, [], ◌∷◌, ◌++◌, map, length, take, drop, Option, Some, None, refl, sym, ap, ◌∙◌, arith}
use Rattle.std.specs.Prelude.{filter, flat_map, nat_lt, slice_get, if◌then◌else◌}
use Rattle.std.specs.List.{list_all}
use Rattle.std.proofs.lemmas.Bool.{lt-ltb}
use Rattle.std.proofs.lemmas.List.{length-append}
use Rattle.lp_model.specs.declared.graph.EdgeFrom.{EdgeFrom}
use Rattle.lp_model.specs.declared.graph.EdgeFrom.TheVariants.{Node as FromNode}
use Rattle.lp_model.specs.declared.graph.Leaf.{Leaf}
use Rattle.lp_model.specs.declared.graph.Node.{Node as NodeRow}
use Rattle.lp_model.specs.declared.graph.PinNet.{PinNet}
use Rattle.lp_model.specs.declared.graph.PinNet.TheVariants.{Unconnected, Const as PinConst, Node as PinNode}
use Rattle.lp_model.specs.declared.graph.Source.{Source as SourceRow}
use Rattle.lp_model.specs.declared.graph.Source.TheVariants.{Nothing, Env, Leaf as OfLeaf, Edge as OfEdge}
use Rattle.lp_model.specs.LibraryView.{CellView, PinView}
use Rattle.lp_spec_design.specs.Keys.{Node}
use Rattle.lp_spec_design.specs.Netlists.{Structure, module_at}
use Rattle.lp_spec_design.specs.Nodes.{inner_nodes, outer_in}
use Rattle.lp_spec_design.specs.Graph.{Reader, and_more, pairs, some_of, numbered, is_output_pin, passes, readers_of}
use Rattle.lp_spec_design.specs.Reads.{one, other, both}
use Rattle.lp_spec_bridge.specs.Tables.{Tables, has_node, has_pin}
use Rattle.lp_spec_bridge.specs.Keyed.{keys_of, way_at}
use Rattle.lp_spec_bridge.specs.Represents.{row_of, row_size}
use Rattle.lp_spec_bridge.specs.Names.{HasNamesApart}
use Rattle.lp_spec_bridge.specs.Elaborates.{Elaborates}
use Rattle.lp_spec_bridge.specs.Walks.{passes_by}
use Rattle.lp_spec_bridge.specs.Inputs.{placed, input_at, inputs_in, inputs_by}
use Rattle.lp_spec_bridge.specs.Readers.{ReaderRow, LeafPin, leaf_readers, output_row, top_readers, readers_by, reader_key, reader_with_node, readers_behind}
use Rattle.lp_spec_bridge.proofs.Passed.{passes_key}
use Rattle.lp_spec_bridge.proofs.Trails.{map-map}
use Rattle.lp_spec_bridge.proofs.Tops.{all_read}

-- ---- lists

all-drop : {A : Type 0} (p : A → Bool) (n : ℕ) (xs : List A) → list_all p xs ≡ true → list_all p (drop n xs) ≡ true
all-drop p zero xs h = h
all-drop p (suc n) [] h = refl
all-drop p (suc n) (x ∷ xs) h = all-drop p n xs (other (p x) (list_all p xs) h)

all-take : {A : Type 0} (p : A → Bool) (n : ℕ) (xs : List A) → list_all p xs ≡ true → list_all p (take n xs) ≡ true
all-take p zero xs h = refl
all-take p (suc n) [] h = refl
all-take p (suc n) (x ∷ xs) h = both (p x) (list_all p (take n xs)) (one (p x) (list_all p xs) h) (all-take p n xs (other (p x) (list_all p xs) h))

all-both : {A : Type 0} (p : A → Bool) (xs ys : List A) → list_all p xs ≡ true → list_all p ys ≡ true → list_all p (xs ++ ys) ≡ true
all-both p [] ys h g = g
all-both p (x ∷ xs) ys h g = both (p x) (list_all p (xs ++ ys)) (one (p x) (list_all p xs) h) (all-both p xs ys (other (p x) (list_all p xs) h) g)

-- what passes a test stays, where its image passes a test that agrees
filter-image : {A B C : Type 0} (f : A → B) (g : A → C) (h : B → C) (p : A → Bool) (q : B → Bool) (ok : A → Bool) → ((x : A) → h (f x) ≡ g x) → ((x : A) → ok x ≡ true → q (f x) ≡ p x) → (xs : List A) → list_all ok xs ≡ true
    → map g (filter p xs) ≡ map h (filter q (map f xs))
filter-image f g h p q ok same agree [] all = refl
filter-image f g h p q ok same agree (x ∷ xs) all =
    by (p x) (filter-image f g h p q ok same agree xs (other (ok x) (list_all ok xs) all))
    ∙ ap (λ b. map h (if b then f x ∷ filter q (map f xs) else filter q (map f xs))) (sym (agree x (one (ok x) (list_all ok xs) all)))
  where
    by : (b : Bool) → map g (filter p xs) ≡ map h (filter q (map f xs)) → map g (if b then x ∷ filter p xs else filter p xs) ≡ map h (if b then f x ∷ filter q (map f xs) else filter q (map f xs))
    by true more = ap (λ y. y ∷ map g (filter p xs)) (sym (same x)) ∙ ap (λ r. h (f x) ∷ r) more
    by false more = more

-- ---- what readers read is in range

module _ (t : Tables) where
  -- a reader's place, and an input's
  abbrev reads : ReaderRow × EdgeFrom → Bool
  reads x = has_node t x.1

  abbrev joins : ℕ × EdgeFrom → Bool
  joins x = has_node t x.1

  placed-in : (b : Bool) (j : ℕ) (net : PinNet) (rest : List (ℕ × EdgeFrom)) → has_pin t net ≡ true → list_all joins rest ≡ true → list_all joins (and_more (if b then None else placed j net) rest) ≡ true
  placed-in true j net rest h g = g
  placed-in false j Unconnected rest h g = g
  placed-in false j (PinConst b) rest h g = g
  placed-in false j (PinNode k) rest h g = both (has_node t (FromNode k)) (list_all joins rest) h g

  row-in : (pins : List PinView) (row : List PinNet) (j : ℕ) → list_all (has_pin t) row ≡ true → list_all joins (some_of input_at (pairs (numbered j pins) row)) ≡ true
  row-in [] row j h = refl
  row-in (q ∷ pins) [] j h = refl
  row-in (q ∷ pins) (net ∷ row) j h =
      placed-in (is_output_pin q) j net (some_of input_at (pairs (numbered (j + 1) pins) row)) (one (has_pin t net) (list_all (has_pin t) row) h)
      (row-in pins row (j + 1) (other (has_pin t net) (list_all (has_pin t) row) h))

  inputs-in : (c : Option CellView) (row : List PinNet) → list_all (has_pin t) row ≡ true → list_all joins (inputs_in c row) ≡ true
  inputs-in None row h = refl
  inputs-in (Some c) row h = row-in c.pins row 0 h

  pins-in : (k : ℕ) (xs : List (ℕ × EdgeFrom)) → list_all joins xs ≡ true → list_all reads (map (λ (x : ℕ × EdgeFrom). (LeafPin k x.0, x.1)) xs) ≡ true
  pins-in k [] h = refl
  pins-in k (x ∷ xs) h = both (joins x) (list_all reads (map (λ (y : ℕ × EdgeFrom). (LeafPin k y.0, y.1)) xs)) (one (joins x) (list_all joins xs) h) (pins-in k xs (other (joins x) (list_all joins xs) h))

  leaves-in : (s : Structure) → list_all (has_pin t) t.pins ≡ true → (k : ℕ) (ls : List Leaf) → list_all reads (flat_map (leaf_readers s t) (numbered k ls)) ≡ true
  leaves-in s h k [] = refl
  leaves-in s h k (l ∷ ls) =
      let size = row_size (slice_get s.cells l.cell.0) in
      let row : list_all (has_pin t) (row_of s t l) ≡ true = all-take (has_pin t) size (drop l.start t.pins) (all-drop (has_pin t) l.start t.pins h) in
      all-both reads (leaf_readers s t (k, l)) (flat_map (leaf_readers s t) (numbered (k + 1) ls))
      (pins-in k (inputs_by s t l) (inputs-in (slice_get s.cells l.cell.0) (row_of s t l) row))
      (leaves-in s h (k + 1) ls)

  output-in : (k : ℕ) (x : SourceRow) (rest : List (ReaderRow × EdgeFrom)) → k < length t.nodes → list_all reads rest ≡ true → list_all reads (and_more (output_row k x) rest) ≡ true
  output-in k Env rest h g = g
  output-in k Nothing rest h g = both (nat_lt k (length t.nodes)) (list_all reads rest) (lt-ltb k (length t.nodes) h) g
  output-in k (OfLeaf pin leaf) rest h g = both (nat_lt k (length t.nodes)) (list_all reads rest) (lt-ltb k (length t.nodes) h) g
  output-in k (OfEdge e) rest h g = both (nat_lt k (length t.nodes)) (list_all reads rest) (lt-ltb k (length t.nodes) h) g

  tops-in : (k : ℕ) (xs : List NodeRow) → k + length xs ≤ length t.nodes → list_all reads (some_of (λ (z : ℕ × NodeRow). output_row z.0 z.1.source) (numbered k xs)) ≡ true
  tops-in k [] h = refl
  tops-in k (x ∷ xs) h = output-in k x.source (some_of (λ (z : ℕ × NodeRow). output_row z.0 z.1.source) (numbered (k + 1) xs)) (omega (arith, h)) (tops-in (k + 1) xs (omega (arith, h)))

drop-room : {A : Type 0} (n : ℕ) (xs : List A) → n ≤ length xs → n + length (drop n xs) ≤ length xs
drop-room zero xs h = omega arith
drop-room (suc n) [] h = absurd (omega (arith, h))
drop-room (suc n) (x ∷ xs) h = let rest = drop-room n xs (omega (arith, h)) in omega (arith, rest)

module _ (texts : List (List ℕ)) (s : Structure) (t : Tables) (names : HasNamesApart s) (e : Elaborates texts s t) where
  inner-low : t.inner ≤ length t.nodes
  inner-low =
      let size = length-append (inner_nodes s) (outer_in (module_at s [])) in
      omega (arith, e.inner, e.represents.count, size)

  pub readers-in : list_all (reads t) (readers_by s t) ≡ true
  readers-in =
      all-both (reads t) (flat_map (leaf_readers s t) (numbered 0 t.leaves)) (top_readers t) (leaves-in t s e.represents.closed.pins 0 t.leaves)
      (tops-in t t.inner (drop t.inner t.nodes) (drop-room t.inner t.nodes inner-low))

  pub behind_key : (fuel n : ℕ) → n < length t.edges → map (reader_key s (keys_of s) t) (readers_behind s t fuel n) ≡ readers_of s fuel (way_at (keys_of s) n)
  behind_key fuel n low =
      let w = way_at (keys_of s) n in
      let p = λ (x : ReaderRow × EdgeFrom). passes_by t fuel n x.1 in
      map-map (reader_key s (keys_of s) t) (λ (x : ReaderRow × EdgeFrom). x.0) (filter p (readers_by s t))
      ∙ filter-image (reader_with_node s (keys_of s) t) (λ (x : ReaderRow × EdgeFrom). reader_key s (keys_of s) t x.0) (λ (r : Reader × Node). r.0) p (λ (r : Reader × Node). passes s fuel w r.1) (reads t) (λ x. refl)
      (λ x ok. passes_key s (keys_of s) t e.represents e.apart fuel n x.1 low ok) (readers_by s t) readers-in
      ∙ ap (λ (xs : List (Reader × Node)). map (λ (r : Reader × Node). r.0) (filter (λ (r : Reader × Node). passes s fuel w r.1) xs)) (all_read texts s t names e)
