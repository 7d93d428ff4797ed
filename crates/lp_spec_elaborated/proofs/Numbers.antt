-- What drives nodes, edges and pins agree by number, as they do by path.
use Rattle.std.proofs.Common.{◌≡◌, ◌⊎◌, ◌<◌, ◌≤◌, ◌+◌, ℕ, zero, suc, Bool, true, false, ◌&&◌, List, [], ◌∷◌, ◌++◌, map, length, take, drop, get_or, Option, Some, None, inl, inr, refl, sym, ap, ◌∙◌, subst, arith}
use Rattle.std.specs.Prelude.{nat_lt, option_and_then, slice_get}
use Rattle.std.specs.List.{list_all}
use Rattle.std.proofs.lemmas.Bool.{eqb-true, ltb-true, lt-ltb, false≢true}
use Rattle.std.proofs.lemmas.List.{length-append, length-map}
use Rattle.std.proofs.lemmas.Option.{slice_get_within, get_or_from_slice_get}
use Rattle.lp_model.specs.LibraryView.{CellView}
use Rattle.lp_model.specs.declared.graph.Edge.{Edge as EdgeRow}
use Rattle.lp_model.specs.declared.graph.EdgeFrom.{EdgeFrom}
use Rattle.lp_model.specs.declared.graph.EdgeFrom.TheVariants.{Node as FromNode, Const as FromConst}
use Rattle.lp_model.specs.declared.graph.Leaf.{Leaf}
use Rattle.lp_model.specs.declared.graph.Node.{Node as NodeRow}
use Rattle.lp_model.specs.declared.graph.PinNet.{PinNet}
use Rattle.lp_model.specs.declared.graph.PinNet.TheVariants.{Unconnected, Const as PinConst, Node as PinNode}
use Rattle.lp_model.specs.declared.graph.Source.{Source as SourceRow}
use Rattle.lp_model.specs.declared.graph.Source.TheVariants.{Nothing, Env, Leaf as OfLeaf, Edge as OfEdge}
use Rattle.lp_spec_design.specs.Keys.{Node, Fixed, Way, Source, CellPin, SwitchedPin, Environment, From}
use Rattle.lp_spec_design.specs.Netlists.{Structure, cell_at}
use Rattle.lp_spec_design.specs.Instances.{Placed}
use Rattle.lp_spec_design.specs.Graph.{sources_of, source_of, trail, way_in, going_back}
use Rattle.lp_spec_design.specs.Nodes.{nodes_of, fuel_of, HasFuel}
use Rattle.lp_spec_design.specs.Winners.{IsIn}
use Rattle.lp_spec_design.proofs.Looped.{source_by}
use Rattle.lp_spec_bridge.specs.Tables.{Tables, has_node, has_source, has_pin, is_led, edge_from}
use Rattle.lp_spec_bridge.specs.Keyed.{Keyed, AreKeys, is_net_bit, keys_of, node_at, way_at, leaf_at}
use Rattle.lp_spec_bridge.specs.Represents.{Represents, from_key, source_key, outputs_in, cell_of, row_size, pin_key, nodes_at_pins}
use Rattle.lp_spec_bridge.proofs.Apart.{in-at, apart-at, list-at}
use Rattle.lp_spec_bridge.proofs.Passed.{pins_key, cell-entry}
use Rattle.lp_spec_bridge.proofs.Trails.{source-at, source-in}
use Rattle.lp_spec_layout.proofs.Lists.{get-map, get-in}
use Rattle.lp_spec_edits.specs.Net.{CellPins, Net, net_of, no_pins, cell_pins, outputs_of, pin_count, row_at, source_at, edge_at, pin_at, drives, cell_pins_at, from_node, through, before}
use Rattle.lp_spec_edits.specs.Sound.{IsEdge, HasEnds}
use Rattle.lp_spec_held.specs.Held.{Driving, driving, driving_of, AreCells}
use Rattle.lp_spec_held.proofs.Begun.{entry-of, map-at, one-size}
use Rattle.lp_spec_elaborated.specs.Elaborated.{HasSoundWires, DrivesByPins}
use Rattle.lp_spec_elaborated.proofs.Lists.{past, none-past, none-at, got, apart-same, apart-places, all-or, all-entry, all-take, all-drop, all-numbered}
use Rattle.lp_spec_elaborated.proofs.Pins.{Pin, signal_at, pg_at, pins_at, each-pin, outputs-size, pins-apart, IsPinOf, pin-of, pin-drives, pin-source}

the-same : {A : Type 0} (x y : A) → Some x ≡ Some y → x ≡ y
the-same x y e = let is : x ≡ y = cc in is

-- a source is the first of all, and the only one where there is one at most
pub source-in-list : (s : Structure) (k : Node) (x : Source) → source_of s k ≡ Some x → IsIn x (sources_of s k)
source-in-list s k x e = by (sources_of s k) refl
  where
    by : (xs : List Source) → sources_of s k ≡ xs → IsIn x (sources_of s k)
    by [] g = let no_ : None ≡ Some x = sym (source_by s k [] g) ∙ e in absurd cc
    by (y ∷ ys) g = subst (IsIn x) (sym g) (inl (the-same x y (sym e ∙ source_by s k (y ∷ ys) g)))

pub only-source : (s : Structure) (k : Node) (x : Source) → length (sources_of s k) ≤ 1 → IsIn x (sources_of s k) → source_of s k ≡ Some x
only-source s k x few h = by (sources_of s k) refl few h
  where
    by : (xs : List Source) → sources_of s k ≡ xs → length xs ≤ 1 → IsIn x xs → source_of s k ≡ Some x
    by [] g low i = absurd i
    by (y ∷ []) g low i = source_by s k (y ∷ []) g ∙ elim i [ inl is ↦ ap (λ z. Some z) (sym is) | inr no_ ↦ absurd no_ ]
    by (y ∷ z ∷ rest) g low i = absurd (omega (arith, low))

module _ (s : Structure) (cells : List CellPins) (t : Tables) (r : Represents s (keys_of s) t) (keys : AreKeys (keys_of s)) (library : AreCells s cells) (sound : HasSoundWires s)
    (single : (k : Node) → IsIn k (nodes_of s) → length (sources_of s k) ≤ 1) (edges : (e : ℕ) (x : EdgeRow) → slice_get t.edges e ≡ Some x → source_of s (node_at (keys_of s) x.to.0) ≡ Some (From (way_at (keys_of s) e) (from_key (keys_of s) x.from))) where
  abbrev ks : Keyed
  ks = keys_of s

  abbrev net : Net
  net = net_of cells t

  -- ---- nodes

  pub record HasRow (k : ℕ) (y : SourceRow) : Type 0 where
    pub row : NodeRow
    pub there : slice_get t.nodes k ≡ Some row
    pub is : row.source ≡ y
    pub low : k < length t.nodes
    pub key : source_key s ks t y ≡ source_of s (node_at ks k)
    pub within : has_source t y ≡ true

  pub row-of : (k : ℕ) (y : SourceRow) → source_at net k ≡ y → (y ≡ Nothing → ⊥) → HasRow k y
  row-of k y e some = by (slice_get t.nodes k) refl
    where
      by : (o : Option NodeRow) → slice_get t.nodes k ≡ o → HasRow k y
      by None g = absurd (some (sym e ∙ none-at (λ (x : NodeRow). x.source) t.nodes k Nothing g))
      by (Some x) g =
          let low = slice_get_within t.nodes k x g in
          let ok = lt-ltb k (length t.nodes) low in
          record {
            row = x;
            there = g;
            is = sym (map-at (λ (x : NodeRow). x.source) t.nodes k x Nothing g) ∙ e;
            low = low;
            key = ap (source_key s ks t) (sym e) ∙ source-at s ks t r (FromNode (record { 0 = k })) ok;
            within = ap (has_source t) (sym e) ∙ source-in s ks t r (FromNode (record { 0 = k })) ok;
          }

  node-in : (k : ℕ) → k < length t.nodes → IsIn (node_at ks k) (nodes_of s)
  node-in k low = in-at (nodes_of s) k (Fixed false) (omega (arith, low, r.count))

  node-key : (k : ℕ) → k < length t.nodes → source_key s ks t (source_at net k) ≡ source_of s (node_at ks k)
  node-key k low = source-at s ks t r (FromNode (record { 0 = k })) (lt-ltb k (length t.nodes) low)

  node-within : (k : ℕ) → k < length t.nodes → has_source t (source_at net k) ≡ true
  node-within k low = source-in s ks t r (FromNode (record { 0 = k })) (lt-ltb k (length t.nodes) low)

  -- ---- cell instances

  pub record HasPins (l : ℕ) : Type 0 where
    pub cell : CellView
    pub low : l < length t.leaves
    pub is : cell_at s (leaf_at ks l).path (leaf_at ks l).instance ≡ Some cell
    pub of : cell_of s t l ≡ Some cell
    pub row : map (pin_key ks) (get_or net.rows l []) ≡ map (λ (z : Pin). z.joined) (pins_at s (leaf_at ks l) cell)
    pub driven : outputs_of (cell_pins_at net l) ≡ map (λ (z : Pin). z.drives) (pins_at s (leaf_at ks l) cell)

  pub record HasNone (l : ℕ) : Type 0 where
    pub row : get_or net.rows l [] ≡ []
    pub driven : outputs_of (cell_pins_at net l) ≡ []
    pub size : row_size (cell_of s t l) ≡ 0

  cell-count : length cells ≡ length s.cells
  cell-count = sym (length-map cells driving) ∙ (ap length library ∙ length-map s.cells driving_of)

  no-cell : (c : ℕ) → slice_get s.cells c ≡ None → cell_pins cells c ≡ no_pins
  no-cell c e = let many = none-past s.cells c e in past cells c no_pins (omega (arith, many, cell-count))

  a-cell : (c : ℕ) (v : CellView) → slice_get s.cells c ≡ Some v → driving (cell_pins cells c) ≡ driving_of v
  a-cell c v e =
      let found = entry-of driving driving_of cells s.cells c v library e in
      ap driving (get_or_from_slice_get cells c found.0 no_pins found.1) ∙ found.2

  pub leaf-view : (l : ℕ) → HasPins l ⊎ HasNone l
  leaf-view l = by (slice_get t.leaves l) refl
    where
      of-leaf : (x : Leaf) → slice_get t.leaves l ≡ Some x → (c : Option CellView) → slice_get s.cells x.cell.0 ≡ c → HasPins l ⊎ HasNone l
      of-leaf x g None e =
          let own = map-at (row_at cells t.pins) t.leaves l x [] g in
          let number = map-at (λ (y : Leaf). y.cell.0) t.leaves l x (length cells) g in
          inr (record {
            row = own ∙ ap (λ c. take (pin_count c) (drop x.start t.pins)) (no-cell x.cell.0 e);
            driven = ap (λ c. outputs_of (cell_pins cells c)) number ∙ ap outputs_of (no-cell x.cell.0 e);
            size = ap row_size (ap (option_and_then (λ (y : Leaf). slice_get s.cells y.cell.0)) g ∙ e);
          })
      of-leaf x g (Some v) e =
          let own = map-at (row_at cells t.pins) t.leaves l x [] g in
          let number = map-at (λ (y : Leaf). y.cell.0) t.leaves l x (length cells) g in
          let same = a-cell x.cell.0 v e in
          let size : pin_count (cell_pins cells x.cell.0) ≡ row_size (slice_get s.cells x.cell.0) = one-size (cell_pins cells x.cell.0) v same ∙ ap row_size (sym e) in
          let cell = sym (cell-entry s ks t r l x g) ∙ e in
          inl (record {
            cell = v;
            low = slice_get_within t.leaves l x g;
            is = cell;
            of = ap (option_and_then (λ (y : Leaf). slice_get s.cells y.cell.0)) g ∙ e;
            row =
                ap (map (pin_key ks)) (own ∙ ap (λ m. take m (drop x.start t.pins)) size)
                ∙ (pins_key s ks t r l x g
                ∙ (ap (nodes_at_pins s (leaf_at ks l)) cell
                ∙ sym (each-pin s (leaf_at ks l) v (λ (z : Pin). z.joined))));
            driven =
                ap (λ c. outputs_of (cell_pins cells c)) number
                ∙ (ap (λ (y : Driving). y.0 ++ y.1) same
                ∙ sym (each-pin s (leaf_at ks l) v (λ (z : Pin). z.drives)));
          })

      by : (o : Option Leaf) → slice_get t.leaves l ≡ o → HasPins l ⊎ HasNone l
      by None g =
          inr (record {
            row = none-at (row_at cells t.pins) t.leaves l [] g;
            driven = ap (λ c. outputs_of (cell_pins cells c)) (none-at (λ (y : Leaf). y.cell.0) t.leaves l (length cells) g) ∙ ap outputs_of (past cells (length cells) no_pins (omega arith));
            size = ap row_size (ap (option_and_then (λ (y : Leaf). slice_get s.cells y.cell.0)) g);
          })
      by (Some x) g = of-leaf x g (slice_get s.cells x.cell.0) refl

  -- a pin by its number
  module _ (l : ℕ) (v : HasPins l) where
    abbrev pins : List Pin
    pins = pins_at s (leaf_at ks l) v.cell

    pub pin-count : length pins ≡ row_size (cell_of s t l)
    pin-count =
        let all = length-append (map (signal_at s (leaf_at ks l)) v.cell.pins) (map (pg_at s (leaf_at ks l)) v.cell.pgs) in
        let first = length-map v.cell.pins (signal_at s (leaf_at ks l)) in
        let second = length-map v.cell.pgs (pg_at s (leaf_at ks l)) in
        let size = ap row_size v.of in
        omega (arith, all, first, second, size)

    pub outputs-are : outputs_in (leaf_at ks l) (cell_of s t l) ≡ map (λ (z : Pin). z.is) pins
    outputs-are = ap (outputs_in (leaf_at ks l)) v.of ∙ sym (each-pin s (leaf_at ks l) v.cell (λ (z : Pin). z.is))

    pub drives-is : (q : ℕ) (z : Pin) → slice_get pins q ≡ Some z → drives net l q ≡ z.drives
    drives-is q z h = ap (λ (xs : List Bool). get_or xs q false) v.driven ∙ map-at (λ (z : Pin). z.drives) pins q z false h

    pub joined-is : (q : ℕ) (z : Pin) → slice_get pins q ≡ Some z → pin_key ks (pin_at net l q) ≡ z.joined
    joined-is q z h =
        let found = entry-of (pin_key ks) (λ (z : Pin). z.joined) (get_or net.rows l []) pins q z v.row h in
        ap (pin_key ks) (get_or_from_slice_get (get_or net.rows l []) q found.0 Unconnected found.1) ∙ found.2

  -- ---- numbers in range

  pub pin-within : (l q k : ℕ) → pin_at net l q ≡ PinNode (record { 0 = k }) → k < length t.nodes
  pin-within l q k e = ltb-true k (length t.nodes) (ap (has_pin t) (sym e) ∙ all-or (has_pin t) (get_or net.rows l []) q Unconnected refl row)
    where
      row : list_all (has_pin t) (get_or net.rows l []) ≡ true
      row = by (slice_get t.leaves l) refl
        where
          by : (o : Option Leaf) → slice_get t.leaves l ≡ o → list_all (has_pin t) (get_or net.rows l []) ≡ true
          by None g = ap (list_all (has_pin t)) (none-at (row_at cells t.pins) t.leaves l [] g)
          by (Some x) g =
              ap (list_all (has_pin t)) (map-at (row_at cells t.pins) t.leaves l x [] g)
              ∙ all-take (has_pin t) (pin_count (cell_pins cells x.cell.0)) (drop x.start t.pins) (all-drop (has_pin t) x.start t.pins r.closed.pins)

  pub edge-within : (e : ℕ) (x : EdgeRow) → slice_get t.edges e ≡ Some x → (has_node t x.from && nat_lt x.to.0 (length t.nodes)) ≡ true
  edge-within e x h = all-entry (λ (y : EdgeRow). has_node t y.from && nat_lt y.to.0 (length t.nodes)) t.edges e x r.closed.edges h

  -- ---- what a node is joined to

  pin-named : (w : PinNet) (k : ℕ) → k < length t.nodes → pin_key ks w ≡ Some (node_at ks k) → has_pin t w ≡ true → w ≡ PinNode (record { 0 = k })
  pin-named Unconnected k low e ok = absurd cc
  pin-named (PinConst b) k low e ok = absurd (false≢true (ap is_net_bit (the-same (Fixed b) (node_at ks k) e) ∙ list-at is_net_bit (nodes_of s) k (Fixed false) keys.net_bits (omega (arith, low, r.count))))
  pin-named (PinNode j) k low e ok =
      let under = ltb-true j.0 (length t.nodes) ok in
      let same = apart-at (nodes_of s) j.0 k (Fixed false) (Fixed false) keys.nodes (omega (arith, under, r.count)) (omega (arith, low, r.count)) (the-same (node_at ks j.0) (node_at ks k) e) in
      ap (λ n. PinNode (record { 0 = n })) same

  -- the row has only nodes of the tables
  pub pin-ok : (l q : ℕ) → has_pin t (pin_at net l q) ≡ true
  pin-ok l q = by (pin_at net l q) refl
    where
      by : (w : PinNet) → pin_at net l q ≡ w → has_pin t w ≡ true
      by Unconnected e = refl
      by (PinConst b) e = refl
      by (PinNode j) e = lt-ltb j.0 (length t.nodes) (pin-within l q j.0 e)

  -- a node that a pin drives is joined to it, and the cell drives it
  pub by-pin : DrivesByPins s t → (k l q : ℕ) → source_at net k ≡ OfLeaf q (record { 0 = l }) → (pin_at net l q ≡ PinNode (record { 0 = k })) × (drives net l q ≡ true)
  by-pin own k l q e = elim (leaf-view l) [ inl v ↦ of-pins v | inr none ↦ absurd (omega (arith, none.size, within)) ]
    where
      row : HasRow k (OfLeaf q (record { 0 = l }))
      row = row-of k (OfLeaf q (record { 0 = l })) e (λ no_. cc)

      within : q < row_size (cell_of s t l)
      within = own k l q row.row row.there row.is

      of-pins : HasPins l → (pin_at net l q ≡ PinNode (record { 0 = k })) × (drives net l q ≡ true)
      of-pins v =
          let a = leaf_at ks l in
          let z = got (pins l v) q (let size = pin-count l v in omega (arith, size, within)) in
          let entry : slice_get (outputs_in (leaf_at ks l) (cell_of s t l)) q ≡ Some z.0.is = ap (λ (xs : List Source). slice_get xs q) (outputs-are l v) ∙ get-map (λ (z : Pin). z.is) (pins l v) q z.0 z.1 in
          let member = get-in (pins l v) q z.0 z.1 in
          let source = source-in-list s (node_at ks k) z.0.is (sym row.key ∙ entry) in
          let d = pin-drives s sound.names sound.bits (node_at ks k) z.0.is (leaf_at ks l) v.cell source (pin-of s (leaf_at ks l) v.cell z.0 member) v.is in
          let same = apart-same (λ (z : Pin). z.is) (pins l v) d.pin z.0 (pins-apart s sound.pins (leaf_at ks l) v.cell v.is) d.there member d.is in (
            pin-named (pin_at net l q) k row.low (joined-is l v q z.0 z.1 ∙ (ap (λ (z : Pin). z.joined) (sym same) ∙ d.joined)) (pin-ok l q),
            drives-is l v q z.0 z.1 ∙ (ap (λ (z : Pin). z.drives) (sym same) ∙ d.drives),
          )

  -- ---- what drives, by number

  leaf-place : (x : Source) (a b : Placed) → IsPinOf x a → IsPinOf x b → a ≡ b
  leaf-place (CellPin q z n) a b f g = λ j. record { path = (sym f.0 ∙ g.0) j; instance = (sym f.1 ∙ g.1) j }
  leaf-place (SwitchedPin q z n) a b f g = λ j. record { path = (sym f.0 ∙ g.0) j; instance = (sym f.1 ∙ g.1) j }
  leaf-place Environment a b f g = absurd f
  leaf-place (From w j) a b f g = absurd f

  leaf-count : length t.leaves ≡ length ks.leaves
  leaf-count = sym (length-map t.leaves (λ (x : Leaf). slice_get s.cells x.cell.0)) ∙ (ap (λ (xs : List (Option CellView)). length xs) r.cells ∙ length-map ks.leaves (λ (a : Placed). cell_at s a.path a.instance))

  -- an entry of what a cell instance may drive
  pub record IsOutput (l q : ℕ) (x : Source) : Type 0 where
    pub view : HasPins l
    pub pin : Pin
    pub there : slice_get (pins_at s (leaf_at ks l) view.cell) q ≡ Some pin
    pub is : pin.is ≡ x

  output-of : (l q : ℕ) (x : Source) → slice_get (outputs_in (leaf_at ks l) (cell_of s t l)) q ≡ Some x → IsOutput l q x
  output-of l q x e = elim (leaf-view l) [
    | inl v ↦
        let entry : slice_get (map (λ (z : Pin). z.is) (pins l v)) q ≡ Some x = ap (λ (xs : List Source). slice_get xs q) (sym (outputs-are l v)) ∙ e in
        let low = slice_get_within (map (λ (z : Pin). z.is) (pins l v)) q x entry in
        let size = length-map (pins l v) (λ (z : Pin). z.is) in
        let z = got (pins l v) q (omega (arith, low, size)) in
        record { view = v; pin = z.0; there = z.1; is = the-same z.0.is x (sym (get-map (λ (z : Pin). z.is) (pins l v) q z.0 z.1) ∙ entry) }
    | inr none ↦
        let low = slice_get_within (outputs_in (leaf_at ks l) (cell_of s t l)) q x e in
        let size = outputs-size (leaf_at ks l) (cell_of s t l) in
        absurd (omega (arith, low, size, none.size))
  ]

  -- the node to which a pin that a cell drives is joined
  pub by-output : (l q k : ℕ) → drives net l q ≡ true → pin_at net l q ≡ PinNode (record { 0 = k }) → source_at net k ≡ OfLeaf q (record { 0 = l })
  by-output l q k driven joined = elim (leaf-view l) [
    | inl v ↦ of-pins v
    | inr none ↦ absurd (false≢true (ap (λ (xs : List Bool). get_or xs q false) (sym none.driven) ∙ driven))
  ]
    where
      low : k < length t.nodes
      low = pin-within l q k joined

      of-pins : HasPins l → source_at net k ≡ OfLeaf q (record { 0 = l })
      of-pins v = by (source_at net k) refl (ap (source_key s ks t) refl ∙ (node-key k low ∙ source))
        where
          outs : List Bool
          outs = map (λ (z : Pin). z.drives) (pins l v)

          in-outs : (xs : List Pin) (j : ℕ) → get_or (map (λ (z : Pin). z.drives) xs) j false ≡ true → j < length xs
          in-outs [] j e = absurd (false≢true e)
          in-outs (x ∷ xs) zero e = omega arith
          in-outs (x ∷ xs) (suc j) e = let rest = in-outs xs j e in omega (arith, rest)

          z : (x : Pin) × (slice_get (pins l v) q ≡ Some x)
          z = got (pins l v) q (in-outs (pins l v) q (ap (λ (xs : List Bool). get_or xs q false) (sym v.driven) ∙ driven))

          source : source_of s (node_at ks k) ≡ Some z.0.is
          source =
              only-source s (node_at ks k) z.0.is (single (node_at ks k) (node-in k low))
              (pin-source s sound.names sound.bits (leaf_at ks l) v.cell z.0 (node_at ks k) v.is (get-in (pins l v) q z.0 z.1)
              (sym (joined-is l v q z.0 z.1) ∙ ap (pin_key ks) joined) (sym (drives-is l v q z.0 z.1) ∙ driven) (node-in k low))

          mine : IsPinOf z.0.is (leaf_at ks l)
          mine = pin-of s (leaf_at ks l) v.cell z.0 (get-in (pins l v) q z.0 z.1)

          no-pin : (x : Source) → IsPinOf x (leaf_at ks l) → Some x ≡ Some z.0.is → IsPinOf x (leaf_at ks l)
          no-pin x h e = h

          by : (y : SourceRow) → source_at net k ≡ y → source_key s ks t (source_at net k) ≡ Some z.0.is → source_at net k ≡ OfLeaf q (record { 0 = l })
          by Nothing e key = let no_ : None ≡ Some z.0.is = ap (source_key s ks t) (sym e) ∙ key in absurd cc
          by Env e key = absurd (subst (λ x. IsPinOf x (leaf_at ks l)) (sym (the-same Environment z.0.is (ap (source_key s ks t) (sym e) ∙ key))) mine)
          by (OfEdge n) e key = absurd (subst (λ x. IsPinOf x (leaf_at ks l)) (sym (the-same (From (way_at ks n.0) (from_key ks (edge_from t n.0))) z.0.is (ap (source_key s ks t) (sym e) ∙ key))) mine)
          by (OfLeaf j m) e key =
              let o = output-of m.0 j z.0.is (ap (source_key s ks t) (sym e) ∙ key) in
              let there = pin-of s (leaf_at ks m.0) o.view.cell o.pin (get-in (pins_at s (leaf_at ks m.0) o.view.cell) j o.pin o.there) in
              let place = leaf-place z.0.is (leaf_at ks m.0) (leaf_at ks l) (subst (λ x. IsPinOf x (leaf_at ks m.0)) o.is there) mine in
              let same = apart-at ks.leaves m.0 l (record { path = []; instance = [] }) (record { path = []; instance = [] }) keys.leaves (omega (arith, o.view.low, leaf-count)) (omega (arith, v.low, leaf-count)) place in
              let entry : slice_get (map (λ (z : Pin). z.is) (pins l v)) j ≡ Some z.0.is =
              ap (λ (xs : List Source). slice_get xs j) (sym (outputs-are l v)) ∙ (ap (λ n. slice_get (outputs_in (leaf_at ks n) (cell_of s t n)) j) (sym same) ∙ (ap (source_key s ks t) (sym e) ∙ key)) in
              let pin = apart-places (map (λ (z : Pin). z.is) (pins l v)) j q z.0.is (pins-apart s sound.pins (leaf_at ks l) v.cell v.is) entry (get-map (λ (z : Pin). z.is) (pins l v) q z.0 z.1) in
              e ∙ (ap (λ n. OfLeaf n m) pin ∙ ap (λ n. OfLeaf q (record { 0 = n })) same)

  -- ---- edges

  pub by-edge : (k e : ℕ) → source_at net k ≡ OfEdge (record { 0 = e }) → (x : EdgeRow) × (slice_get t.edges e ≡ Some x) × (x.to.0 ≡ k)
  by-edge k e h =
      let row = row-of k (OfEdge (record { 0 = e })) h (λ no_. cc) in
      let x = got t.edges e (ltb-true e (length t.edges) row.within) in
      let led = all-numbered (λ (z : ℕ × NodeRow). is_led t z.0 z.1.source) 0 t.nodes k row.row r.closed.led row.there in
      let place : 0 + k ≡ k = omega arith in
      let here : is_led t k (OfEdge (record { 0 = e })) ≡ true = ap (is_led t k) (sym row.is) ∙ (ap (λ n. is_led t n row.row.source) (sym place) ∙ led) in
      (x.0, x.1, sym (map-at (λ (y : EdgeRow). y.to.0) t.edges e x.0 (suc k) x.1) ∙ eqb-true (get_or (map (λ (y : EdgeRow). y.to.0) t.edges) e (suc k)) k here)

  pub by-lead : (e : ℕ) (x : EdgeRow) → slice_get t.edges e ≡ Some x → source_at net x.to.0 ≡ OfEdge (record { 0 = e })
  by-lead e x h = by (source_at net k) refl (node-key k low ∙ edges e x h) (node-within k low)
    where
      k : ℕ
      k = x.to.0

      low : x.to.0 < length t.nodes
      low = ltb-true x.to.0 (length t.nodes) (second (has_node t x.from) (nat_lt x.to.0 (length t.nodes)) (edge-within e x h))
        where
          second : (a b : Bool) → (a && b) ≡ true → b ≡ true
          second true b g = g
          second false b g = absurd (false≢true g)

      from : Source
      from = From (way_at ks e) (from_key ks x.from)

      way_of : Option Source → Option Way
      way_of (Some (From w j)) = Some w
      way_of o = None

      by : (y : SourceRow) → source_at net x.to.0 ≡ y → source_key s ks t (source_at net x.to.0) ≡ Some (From (way_at ks e) (from_key ks x.from)) → has_source t (source_at net x.to.0) ≡ true → source_at net x.to.0 ≡ OfEdge (record { 0 = e })
      by Nothing g key ok = let no_ : None ≡ Some (From (way_at ks e) (from_key ks x.from)) = ap (source_key s ks t) (sym g) ∙ key in absurd cc
      by Env g key ok = let no_ : Environment ≡ From (way_at ks e) (from_key ks x.from) = the-same Environment (From (way_at ks e) (from_key ks x.from)) (ap (source_key s ks t) (sym g) ∙ key) in absurd cc
      by (OfLeaf j m) g key ok =
          let o = output-of m.0 j (From (way_at ks e) (from_key ks x.from)) (ap (source_key s ks t) (sym g) ∙ key) in
          let there = pin-of s (leaf_at ks m.0) o.view.cell o.pin (get-in (pins_at s (leaf_at ks m.0) o.view.cell) j o.pin o.there) in
          absurd (subst (λ y. IsPinOf y (leaf_at ks m.0)) o.is there)
      by (OfEdge n) g key ok =
          let way = ways-same (way_at ks n.0) (way_at ks e) (from_key ks (edge_from t n.0)) (from_key ks x.from) (ap (source_key s ks t) (sym g) ∙ key) in
          let under = ltb-true n.0 (length t.edges) (ap (has_source t) (sym g) ∙ ok) in
          let here = slice_get_within t.edges e x h in
          let same = apart-at ks.ways n.0 e _ _ keys.ways (omega (arith, under, r.ways)) (omega (arith, here, r.ways)) way in
          g ∙ ap (λ n. OfEdge (record { 0 = n })) same
        where
          ways-same : (v w : Way) (i j : Node) → Some (From v i) ≡ Some (From w j) → v ≡ w
          ways-same v w i j e = let is : v ≡ w = cc in is

  pub is-edge : (e : ℕ) (x : EdgeRow) → slice_get t.edges e ≡ Some x → IsEdge (length t.nodes) x
  is-edge e x h = record {
    begins = λ j is. ltb-true j (length t.nodes) (ap (has_node t) (sym is) ∙ first (has_node t x.from) (nat_lt x.to.0 (length t.nodes)) (edge-within e x h));
    leads = ltb-true x.to.0 (length t.nodes) (second (has_node t x.from) (nat_lt x.to.0 (length t.nodes)) (edge-within e x h));
  }
    where
      first : (a b : Bool) → (a && b) ≡ true → a ≡ true
      first true b g = refl
      first false b g = g

      second : (a b : Bool) → (a && b) ≡ true → b ≡ true
      second true b g = g
      second false b g = absurd (false≢true g)

  -- ---- ways end

  rank : ℕ → ℕ
  rank k = length (trail s (fuel_of s) (node_at ks k))

  falls : HasFuel s → (k j : ℕ) → before net k ≡ Some j → rank j < rank k
  unfolding rank
  falls fuel k j e = by (source_at net k) refl e
    where
      fewer : (w : Way) → source_of s (node_at ks k) ≡ Some (From w (node_at ks j)) → length (trail s (fuel_of s) (node_at ks k)) ≡ suc (length (trail s (fuel_of s) (node_at ks j)))
      fewer w g = ap length (sym (fuel (node_at ks k)) ∙ ap (λ o. going_back (λ i. trail s (fuel_of s) i) (way_in o)) g)

      at-edge : (n : ℕ) → source_at net k ≡ OfEdge (record { 0 = n }) → (o : Option EdgeRow) → slice_get t.edges n ≡ o → through (edge_at net) (OfEdge (record { 0 = n })) ≡ Some j → length (trail s (fuel_of s) (node_at ks j)) < length (trail s (fuel_of s) (node_at ks k))
      at-edge n g None h f = let no_ : None ≡ Some j = ap (option_and_then (λ (x : EdgeRow). from_node x.from)) (sym h) ∙ f in absurd cc
      at-edge n g (Some x) h f = at-from x.from refl (ap (option_and_then (λ (x : EdgeRow). from_node x.from)) (sym h) ∙ f)
        where
          at-from : (w : EdgeFrom) → x.from ≡ w → from_node x.from ≡ Some j → length (trail s (fuel_of s) (node_at ks j)) < length (trail s (fuel_of s) (node_at ks k))
          at-from (FromConst b) u v = let no_ : None ≡ Some j = ap from_node (sym u) ∙ v in absurd cc
          at-from (FromNode i) u v =
              let same : i.0 ≡ j = the-same i.0 j (ap from_node (sym u) ∙ v) in
              let row = row-of k (OfEdge (record { 0 = n })) g (λ no_. cc) in
              let begins : from_key ks (edge_from t n) ≡ node_at ks j = ap (from_key ks) (map-at (λ (y : EdgeRow). y.from) t.edges n x (FromConst true) h ∙ u) ∙ ap (node_at ks) same in
              let less = fewer (way_at ks n) (sym row.key ∙ ap (λ y. Some (From (way_at ks n) y)) begins) in
              omega (arith, less)

      by : (y : SourceRow) → source_at net k ≡ y → through (edge_at net) (source_at net k) ≡ Some j → length (trail s (fuel_of s) (node_at ks j)) < length (trail s (fuel_of s) (node_at ks k))
      by Nothing g f = let no_ : None ≡ Some j = ap (through (edge_at net)) (sym g) ∙ f in absurd cc
      by Env g f = let no_ : None ≡ Some j = ap (through (edge_at net)) (sym g) ∙ f in absurd cc
      by (OfLeaf q l) g f = let no_ : None ≡ Some j = ap (through (edge_at net)) (sym g) ∙ f in absurd cc
      by (OfEdge n) g f = at-edge n.0 g (slice_get t.edges n.0) refl (ap (through (edge_at net)) (sym g) ∙ f)

  pub ends : HasFuel s → HasEnds (before net)
  ends fuel = record { rank = rank; falls = falls fuel }
