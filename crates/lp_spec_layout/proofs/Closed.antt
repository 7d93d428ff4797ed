-- The numbers in tables that are made module by module are in range.
use Rattle.std.proofs.Common.{◌≡◌, ◌+◌, ℕ, zero, suc, Bool, true, false, ◌&&◌, ◌==◌, List, [], ◌∷◌, ◌++◌, map, length, Some, ◌⊎◌, inl, inr, refl, sym, ap, ◌∙◌, subst, arith}
use Rattle.std.specs.Prelude.{nat_lt, if◌then◌else◌, slice_get, slice_index_or}
use Rattle.std.specs.List.{list_all}
use Rattle.std.proofs.lemmas.Bool.{lt-ltb, eq-eqb, eqb-true}
use Rattle.std.proofs.lemmas.Option.{slice_get_within}
use Rattle.lp_model.specs.declared.graph.Edge.{Edge as EdgeRow}
use Rattle.lp_model.specs.declared.graph.EdgeFrom.{EdgeFrom}
use Rattle.lp_model.specs.declared.graph.EdgeFrom.TheVariants.{Node as FromNode, Const as FromConst}
use Rattle.lp_model.specs.declared.graph.Leaf.{Leaf}
use Rattle.lp_model.specs.declared.graph.Node.{Node as NodeRow}
use Rattle.lp_model.specs.declared.graph.PinNet.{PinNet}
use Rattle.lp_model.specs.declared.graph.PinNet.TheVariants.{Unconnected, Const as PinConst, Node as PinNode}
use Rattle.lp_model.specs.declared.graph.Source.{Source as SourceRow}
use Rattle.lp_model.specs.declared.graph.Source.TheVariants.{Edge as OfEdge}
use Rattle.lp_spec_design.specs.Keys.{Node}
use Rattle.lp_model.specs.NetlistView.{ConstBit}
use Rattle.lp_spec_design.specs.Netlists.{Structure, node_of, upward}
use Rattle.lp_spec_design.specs.Instances.{Placed, module_instances}
use Rattle.lp_spec_design.specs.Graph.{and_more, some_of, numbered}
use Rattle.lp_spec_design.specs.Reads.{one, other, both}
use Rattle.lp_spec_bridge.specs.Tables.{Tables, has_node, has_source, has_pin, is_led}
use Rattle.lp_spec_bridge.specs.Edges.{Drive}
use Rattle.lp_spec_bridge.specs.Keyed.{Keyed, keys_of}
use Rattle.lp_spec_bridge.specs.Noted.{DriveRow, noted_at}
use Rattle.lp_spec_bridge.specs.Kept.{has_pin_place, pin_at_start}
use Rattle.lp_spec_bridge.specs.Templates.{bits_in}
use Rattle.lp_spec_layout.specs.Feeds.{Feed, source_in, edges_behind, rows_from, edge_row}
use Rattle.lp_spec_layout.specs.Leaves.{LeafSite, leaf_rows, pin_rows}
use Rattle.lp_spec_layout.proofs.Lists.{Has, has-head, has-tail}
use Rattle.lp_spec_layout.proofs.Numbered.{Meant, drive_meant, from_node, feed_meant, IsWay, IsOther, one-of}
use Rattle.lp_spec_layout.proofs.Joints.{BitsAt, bit-at}
use Rattle.lp_spec_layout.proofs.Fed.{bits-from}
use Rattle.lp_spec_layout.proofs.Leaves.{StandsAtLeaf, LeavesStand}

module _ (ks : Keyed) (t : Tables) (nodes : length t.nodes ≡ length ks.nodes) where
  node-low : (k : ℕ) (n : Node) → slice_get ks.nodes k ≡ Some n → nat_lt k (length t.nodes) ≡ true
  node-low k n h = let low = slice_get_within ks.nodes k n h in lt-ltb k (length t.nodes) (omega (arith, low, nodes))

  from-low : (f : EdgeFrom) (n : Node) → from_node ks f ≡ Some n → has_node t f ≡ true
  from-low (FromNode k) n h = node-low k.0 n h
  from-low (FromConst b) n h = refl

module _ (s : Structure) (ks : Keyed) (t : Tables) (nodes : length t.nodes ≡ length ks.nodes) (leaves : length t.leaves ≡ length ks.leaves) where
  pub edges-closed : (xs : List Feed) (ds : List Drive) → map (feed_meant s ks t) xs ≡ map drive_meant ds → list_all (λ (x : EdgeRow). has_node t x.from && nat_lt x.to.0 (length t.nodes)) (some_of edge_row xs) ≡ true
  edges-closed [] ds same = refl
  edges-closed (x ∷ xs) [] same = absurd cc
  edges-closed (x ∷ xs) (d ∷ ds) same =
      let here : feed_meant s ks t x ≡ drive_meant d = cc in
      let later : map (feed_meant s ks t) xs ≡ map drive_meant ds = cc in
      by (one-of s ks t x.0 x.1 d.0 d.1 (ap (λ (z : Meant). z.1) here)) (ap (λ (z : Meant). z.0) here) (edges-closed xs ds later)
    where
      by : IsWay ks (x.0, x.1) (d.0, d.1) ⊎ IsOther s ks t (x.0, x.1) (d.0, d.1) → slice_get ks.nodes x.0 ≡ Some d.0 → list_all (λ (x : EdgeRow). has_node t x.from && nat_lt x.to.0 (length t.nodes)) (some_of edge_row xs) ≡ true
          → list_all (λ (x : EdgeRow). has_node t x.from && nat_lt x.to.0 (length t.nodes)) (and_more (edge_row x) (some_of edge_row xs)) ≡ true
      by (inl w) node more =
          let row : edge_row x ≡ Some (record { from = w.from; to = record { 0 = x.0 }; kind = w.kind }) = ap (λ y. edge_row (x.0, y)) w.is_edge in
          let rest = list_all (λ (x : EdgeRow). has_node t x.from && nat_lt x.to.0 (length t.nodes)) (some_of edge_row xs) in
          ap (λ o. list_all (λ (x : EdgeRow). has_node t x.from && nat_lt x.to.0 (length t.nodes)) (and_more o (some_of edge_row xs))) row
          ∙ both (has_node t w.from && nat_lt x.0 (length t.nodes)) rest (both (has_node t w.from) (nat_lt x.0 (length t.nodes)) (from-low ks t nodes w.from w.node w.comes) (node-low ks t nodes x.0 d.0 node)) more
      by (inr o) node more = ap (λ z. list_all (λ (x : EdgeRow). has_node t x.from && nat_lt x.to.0 (length t.nodes)) (and_more z (some_of edge_row xs))) o.no_row ∙ more

  to-entry : (xs : List EdgeRow) (e k : ℕ) (x : EdgeRow) → slice_get xs e ≡ Some x → slice_index_or (map (λ (x : EdgeRow). x.to.0) xs) e k ≡ x.to.0
  to-entry [] e k x h = absurd cc
  to-entry (y ∷ ys) zero k x h = let is : y ≡ x = cc in ap (λ (z : EdgeRow). z.to.0) is
  to-entry (y ∷ ys) (suc e) k x h = to-entry ys e k x h

  -- a row's source is in range, and its edge leads to its node
  abbrev is_sound : DriveRow → Bool
  is_sound r = has_source t r.1 && is_led t r.0 r.1

  pub rows-closed : (xs : List Feed) (ds : List Drive) (e : ℕ) → map (feed_meant s ks t) xs ≡ map drive_meant ds → Has t.edges e (some_of edge_row xs) → list_all (λ (r : DriveRow). has_source t r.1 && is_led t r.0 r.1) (rows_from e xs) ≡ true
  rows-closed [] ds e same edges = refl
  rows-closed (x ∷ xs) [] e same edges = absurd cc
  rows-closed (x ∷ xs) (d ∷ ds) e same edges =
      let here : feed_meant s ks t x ≡ drive_meant d = cc in
      let later : map (feed_meant s ks t) xs ≡ map drive_meant ds = cc in
      by (one-of s ks t x.0 x.1 d.0 d.1 (ap (λ (z : Meant). z.1) here)) (λ n h. rows-closed xs ds n later h)
    where
      by : IsWay ks (x.0, x.1) (d.0, d.1) ⊎ IsOther s ks t (x.0, x.1) (d.0, d.1) → ((n : ℕ) → Has t.edges n (some_of edge_row xs) → list_all (λ (r : DriveRow). has_source t r.1 && is_led t r.0 r.1) (rows_from n xs) ≡ true)
          → ((has_source t (source_in e x.1) && is_led t x.0 (source_in e x.1)) && list_all (λ (r : DriveRow). has_source t r.1 && is_led t r.0 r.1) (rows_from (edges_behind e x.1) xs)) ≡ true
      by (inl w) later =
          let made : EdgeRow = record { from = w.from; to = record { 0 = x.0 }; kind = w.kind } in
          let row : edge_row x ≡ Some (record { from = w.from; to = record { 0 = x.0 }; kind = w.kind }) = ap (λ y. edge_row (x.0, y)) w.is_edge in
          let rows : Has t.edges e (record { from = w.from; to = record { 0 = x.0 }; kind = w.kind } ∷ some_of edge_row xs) = subst (λ o. Has t.edges e (and_more o (some_of edge_row xs))) row edges in
          let at = has-head t.edges e made (some_of edge_row xs) rows in
          let low : nat_lt e (length t.edges) ≡ true = lt-ltb e (length t.edges) (slice_get_within t.edges e made at) in
          let led : is_led t x.0 (OfEdge (record { 0 = e })) ≡ true = eq-eqb (slice_index_or (map (λ (x : EdgeRow). x.to.0) t.edges) e (suc x.0)) x.0 (to-entry t.edges e (suc x.0) made at) in
          let source : source_in e x.1 ≡ OfEdge (record { 0 = e }) = ap (source_in e) w.is_edge in
          let first : (has_source t (source_in e x.1) && is_led t x.0 (source_in e x.1)) ≡ true =
          ap (λ o. has_source t o && is_led t x.0 o) source ∙ both (has_source t (OfEdge (record { 0 = e }))) (is_led t x.0 (OfEdge (record { 0 = e }))) low led in
          let rest = later (e + 1) (has-tail t.edges e made (some_of edge_row xs) rows) in
          both (has_source t (source_in e x.1) && is_led t x.0 (source_in e x.1)) (list_all (λ (r : DriveRow). has_source t r.1 && is_led t r.0 r.1) (rows_from (edges_behind e x.1) xs)) first
          (ap (λ y. list_all (λ (r : DriveRow). has_source t r.1 && is_led t r.0 r.1) (rows_from (edges_behind e y) xs)) w.is_edge ∙ rest)
      by (inr o) later =
          let rows : Has t.edges e (some_of edge_row xs) = subst (λ z. Has t.edges e (and_more z (some_of edge_row xs))) o.no_row edges in
          both (has_source t (source_in e x.1) && is_led t x.0 (source_in e x.1)) (list_all (λ (r : DriveRow). has_source t r.1 && is_led t r.0 r.1) (rows_from (edges_behind e x.1) xs))
          (both (has_source t (source_in e x.1)) (is_led t x.0 (source_in e x.1)) (o.closed leaves e) (o.led e))
          (ap (λ n. list_all (λ (r : DriveRow). has_source t r.1 && is_led t r.0 r.1) (rows_from n xs)) (o.behind e) ∙ later e rows)

  -- what is noted at a node
  noted-closed : (rows : List DriveRow) (k : ℕ) → list_all (λ (r : DriveRow). has_source t r.1 && is_led t r.0 r.1) rows ≡ true → (has_source t (noted_at rows k) && is_led t k (noted_at rows k)) ≡ true
  noted-closed [] k h = refl
  noted-closed (r ∷ rows) k h = by (r.0 == k) refl (noted-closed rows k (other (has_source t r.1 && is_led t r.0 r.1) (list_all (λ (r : DriveRow). has_source t r.1 && is_led t r.0 r.1) rows) h))
    where
      by : (b : Bool) → (r.0 == k) ≡ b → (has_source t (noted_at rows k) && is_led t k (noted_at rows k)) ≡ true
          → (has_source t (if b then r.1 else noted_at rows k) && is_led t k (if b then r.1 else noted_at rows k)) ≡ true
      by false e more = more
      by true e more = ap (λ n. has_source t r.1 && is_led t n r.1) (sym (eqb-true r.0 k e)) ∙ one (has_source t r.1 && is_led t r.0 r.1) (list_all (λ (r : DriveRow). has_source t r.1 && is_led t r.0 r.1) rows) h

  -- each node by its number
  nodes-all : (g : ℕ → SourceRow) (p : ℕ → SourceRow → Bool) → ((k : ℕ) → p k (g k) ≡ true) → (rows : List NodeRow) (n k : ℕ) → map (λ (x : NodeRow). x.source) rows ≡ map g (upward n k) → list_all (λ (x : ℕ × NodeRow). p x.0 x.1.source) (numbered k rows) ≡ true
  nodes-all g p h [] n k same = refl
  nodes-all g p h (x ∷ rows) zero k same = absurd cc
  nodes-all g p h (x ∷ rows) (suc n) k same =
      let here : x.source ≡ g k = cc in
      let later : map (λ (x : NodeRow). x.source) rows ≡ map g (upward n (k + 1)) = cc in
      both (p k x.source) (list_all (λ (x : ℕ × NodeRow). p x.0 x.1.source) (numbered (k + 1) rows)) (ap (p k) here ∙ h k) (nodes-all g p h rows n (k + 1) later)

  without-numbers : (p : SourceRow → Bool) (rows : List NodeRow) (k : ℕ) → list_all (λ (x : ℕ × NodeRow). p x.1.source) (numbered k rows) ≡ list_all (λ (x : NodeRow). p x.source) rows
  without-numbers p [] k = refl
  without-numbers p (x ∷ rows) k = ap (λ b. p x.source && b) (without-numbers p rows (k + 1))

  module _ (rows : List DriveRow) (n : ℕ) (noted : map (λ (x : NodeRow). x.source) t.nodes ≡ map (noted_at rows) (upward n 0)) (closed : list_all (λ (r : DriveRow). has_source t r.1 && is_led t r.0 r.1) rows ≡ true) where
    pub sources-closed : list_all (λ (x : NodeRow). has_source t x.source) t.nodes ≡ true
    sources-closed =
        sym (without-numbers (has_source t) t.nodes 0)
        ∙ nodes-all (noted_at rows) (λ k o. has_source t o) (λ k. one (has_source t (noted_at rows k)) (is_led t k (noted_at rows k)) (noted-closed rows k closed)) t.nodes n 0 noted

    pub led-closed : list_all (λ (x : ℕ × NodeRow). is_led t x.0 x.1.source) (numbered 0 t.nodes) ≡ true
    led-closed = nodes-all (noted_at rows) (is_led t) (λ k. other (has_source t (noted_at rows k)) (is_led t k (noted_at rows k)) (noted-closed rows k closed)) t.nodes n 0 noted

module _ (s : Structure) (t : Tables) (nodes : length t.nodes ≡ length (keys_of s).nodes) where
  all-append : {A : Type 0} (p : A → Bool) (xs ys : List A) → list_all p xs ≡ true → list_all p ys ≡ true → list_all p (xs ++ ys) ≡ true
  all-append p [] ys h g = g
  all-append p (x ∷ xs) ys h g = both (p x) (list_all p (xs ++ ys)) (one (p x) (list_all p xs) h) (all-append p xs ys (other (p x) (list_all p xs) h) g)

  module _ (y : LeafSite) (a : Placed) (r : StandsAtLeaf s y a) where
    pin-closed : (n : PinNet) → has_pin_place r.of n ≡ true → has_pin t (pin_at_start y.start n) ≡ true
    pin-closed Unconnected h = refl
    pin-closed (PinConst b) h = refl
    pin-closed (PinNode k) h =
        let bits : BitsAt (keys_of s) a.path r.of y.start = subst (λ i. BitsAt (keys_of s) a.path r.of i) (sym r.start) (bits-from s y.inst a.path r.of r.inst r.is_of) in
        node-low (keys_of s) t nodes (y.start + k.0) (node_of a.path (slice_index_or (bits_in r.of) k.0 (ConstBit true))) (bit-at s (keys_of s) t a.path r.of y.start bits k.0 h)

    row-closed : (row : List PinNet) → list_all (has_pin_place r.of) row ≡ true → list_all (has_pin t) (map (pin_at_start y.start) row) ≡ true
    row-closed [] h = refl
    row-closed (n ∷ row) h =
        both (has_pin t (pin_at_start y.start n)) (list_all (has_pin t) (map (pin_at_start y.start) row)) (pin-closed n (one (has_pin_place r.of n) (list_all (has_pin_place r.of) row) h)) (row-closed row (other (has_pin_place r.of n) (list_all (has_pin_place r.of) row) h))

  pub pins-closed : (ys : List LeafSite) (keyed : List Placed) → LeavesStand s ys keyed → list_all (has_pin t) (pin_rows ys) ≡ true
  pins-closed [] keyed h = refl
  pins-closed (y ∷ ys) [] h = absurd h
  pins-closed (y ∷ ys) (a ∷ keyed) h = all-append (has_pin t) (map (pin_at_start y.start) y.cell.row) (pin_rows ys) (row-closed y a h.0 y.cell.row h.0.resolved.resolved.within) (pins-closed ys keyed h.1)

  pub leaves-closed : (name : ℕ → ℕ → ℕ) (ys : List LeafSite) (keyed : List Placed) (start : ℕ) → length t.instances ≡ length (module_instances s) → LeavesStand s ys keyed → list_all (λ (x : Leaf). nat_lt x.inst.0 (length t.instances)) (leaf_rows name start ys) ≡ true
  leaves-closed name [] keyed start size h = refl
  leaves-closed name (y ∷ ys) [] start size h = absurd h
  leaves-closed name (y ∷ ys) (a ∷ keyed) start size h =
      let low = slice_get_within (module_instances s) y.inst a.path h.0.inst in
      both (nat_lt y.inst (length t.instances)) (list_all (λ (x : Leaf). nat_lt x.inst.0 (length t.instances)) (leaf_rows name (start + length y.cell.row) ys)) (lt-ltb y.inst (length t.instances) (omega (arith, low, size)))
      (leaves-closed name ys keyed (start + length y.cell.row) size h.1)
