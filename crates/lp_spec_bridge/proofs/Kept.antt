-- What an elaboration keeps represents the design.
use Rattle.std.proofs.Common.{◌≡◌, ◌<◌, ◌+◌, ℕ, suc, true, false, List, [], ◌∷◌, ◌++◌, map, length, get_or, Option, Some, None, refl, sym, ap, ◌∙◌, arith}
use Rattle.std.specs.Prelude.{option_and_then, slice_get}
use Rattle.std.specs.List.{list_all}
use Rattle.std.proofs.lemmas.Bool.{ltb-true}
use Rattle.std.proofs.lemmas.List.{map-append}
use Rattle.lp_model.specs.declared.graph.Leaf.{Leaf}
use Rattle.lp_model.specs.declared.graph.Node.{Node as NodeRow}
use Rattle.lp_model.specs.declared.graph.PinNet.{PinNet}
use Rattle.lp_model.specs.declared.graph.PinNet.TheVariants.{Unconnected, Const as PinConst, Node as PinNode}
use Rattle.lp_model.specs.NetlistView.{BitView, InstanceView, ModuleView, ConnectionsView}
use Rattle.lp_model.specs.LibraryView.{PgPinView, PinView}
use Rattle.lp_spec_design.specs.Keys.{Name, Path, Node, Fixed}
use Rattle.lp_spec_design.specs.Netlists.{Structure, module_at, cell_at, cell_named, instance_named, connected, node_of, upward}
use Rattle.lp_spec_design.specs.Instances.{Placed, module_instances, cell_instances}
use Rattle.lp_spec_design.specs.Graph.{source_of, pin_node}
use Rattle.lp_spec_design.specs.Nodes.{nodes_of}
use Rattle.lp_spec_design.specs.Reads.{one, other}
use Rattle.lp_spec_bridge.specs.Tables.{Tables}
use Rattle.lp_spec_bridge.specs.Keyed.{keys_of}
use Rattle.lp_spec_bridge.specs.Represents.{Represents, source_key, row_of, pin_key, joined_at, nodes_at_pins}
use Rattle.lp_spec_bridge.specs.Names.{HasNamesApart}
use Rattle.lp_spec_bridge.specs.Driven.{JoinsSingleBits}
use Rattle.lp_spec_bridge.specs.Noted.{DriveRow, noted_at}
use Rattle.lp_spec_bridge.specs.Templates.{bits_in, start_of}
use Rattle.lp_spec_bridge.specs.Kept.{AreDrives, NotesSources, pin_bit, has_pin_place, first_bit, bits_at_pins, pin_at_start, StandsFor, AllStand, IsKept}
use Rattle.lp_spec_bridge.proofs.Trails.{map-map}
use Rattle.lp_spec_bridge.proofs.Inputs.{map-same}
use Rattle.lp_spec_bridge.proofs.Noted.{first_noted}
use Rattle.lp_spec_bridge.proofs.Templates.{node-in}

-- ---- sources

-- the values at the numbers of a list are those of its members
map-places : {A C : Type 0} (g : ℕ → C) (h : A → C) (xs : List A) (d : A) (start : ℕ) → ((i : ℕ) → i < length xs → g (start + i) ≡ h (get_or xs i d)) → map g (upward (length xs) start) ≡ map h xs
map-places g h [] d start each = refl
map-places g h (x ∷ xs) d start each =
    let place : start ≡ start + 0 = omega arith in
    let here : g start ≡ h x = ap g place ∙ each 0 (omega arith) in
    let more : (i : ℕ) → i < length xs → g ((start + 1) + i) ≡ h (get_or xs i d) = λ i low. let same : (start + 1) + i ≡ start + suc i = omega arith in ap g same ∙ each (suc i) (omega arith) in
    ap (λ y. y ∷ map g (upward (length xs) (start + 1))) here ∙ ap (λ r. h x ∷ r) (map-places g h xs d (start + 1) more)

pub sources_kept : (s : Structure) (t : Tables) (rows : List DriveRow) → HasNamesApart s → JoinsSingleBits s → AreDrives s t rows → NotesSources s t rows → map (λ (x : NodeRow). source_key s (keys_of s) t x.source) t.nodes ≡ map (source_of s) (nodes_of s)
sources_kept s t rows names single d noted =
    sym (map-map (source_key s (keys_of s) t) (λ (x : NodeRow). x.source) t.nodes)
    ∙ ap (map (source_key s (keys_of s) t)) noted
    ∙ map-map (source_key s (keys_of s) t) (noted_at rows) (upward (length (nodes_of s)) 0)
    ∙ map-places (λ k. source_key s (keys_of s) t (noted_at rows k)) (source_of s) (nodes_of s) (Fixed false) 0
    (λ i low. let place : 0 + i ≡ i = omega arith in ap (λ k. source_key s (keys_of s) t (noted_at rows k)) place ∙ first_noted s t rows names single d.same d.within i low)

-- ---- pins

-- the node of a bit, none where there is no bit
node-if : Path → Option BitView → Option Node
node-if p None = None
node-if p (Some b) = Some (node_of p b)

pin-first : (p : Path) (q : Name) (cs : ConnectionsView) → pin_node p q cs ≡ node-if p (first_bit (connected [] q cs))
unfolding node-if
pin-first p q cs = by (connected [] q cs) refl
  where
    by : (bs : List BitView) → connected [] q cs ≡ bs → pin_node p q cs ≡ node-if p (first_bit (connected [] q cs))
    by [] e = rw e refl
    by (b ∷ rest) e = rw e refl

module _ (s : Structure) (m : ModuleView) (k : ℕ) (p : Path) (at : slice_get (module_instances s) k ≡ Some p) (is : module_at s p ≡ Some m) where
  pin-in : (n : PinNet) → has_pin_place m n ≡ true → pin_key (keys_of s) (pin_at_start (start_of s k) n) ≡ node-if p (pin_bit m n)
  unfolding node-if
  pin-in Unconnected h = refl
  pin-in (PinConst b) h = refl
  pin-in (PinNode j) h = ap (λ n. Some n) (node-in s m k p j.0 at is (ltb-true j.0 (length (bits_in m)) h))

  row-in : (row : List PinNet) → list_all (has_pin_place m) row ≡ true → map (λ n. pin_key (keys_of s) (pin_at_start (start_of s k) n)) row ≡ map (node-if p) (map (pin_bit m) row)
  row-in [] h = refl
  row-in (n ∷ row) h =
      ap (λ x. x ∷ map (λ z. pin_key (keys_of s) (pin_at_start (start_of s k) z)) row) (pin-in n (one (has_pin_place m n) (list_all (has_pin_place m) row) h))
      ∙ ap (λ r. node-if p (pin_bit m n) ∷ r) (row-in row (other (has_pin_place m n) (list_all (has_pin_place m) row) h))

module _ (s : Structure) (t : Tables) (l : Leaf) (a : Placed) (r : StandsFor s t l a) where
  cell-stands : cell_at s a.path a.instance ≡ Some r.cell
  cell-stands =
      ap (option_and_then (λ (m : ModuleView). option_and_then (λ (x : InstanceView). cell_named s x.target) (instance_named m a.instance))) r.is_of
      ∙ ap (option_and_then (λ (x : InstanceView). cell_named s x.target)) r.is_by
      ∙ r.is_cell

  joined-stands : (q : Name) → joined_at s a q ≡ node-if a.path (first_bit (connected [] q r.by.connections))
  joined-stands q =
      ap (option_and_then (λ (m : ModuleView). option_and_then (λ (x : InstanceView). pin_node a.path q x.connections) (instance_named m a.instance))) r.is_of
      ∙ ap (option_and_then (λ (x : InstanceView). pin_node a.path q x.connections)) r.is_by
      ∙ pin-first a.path q r.by.connections

  bits-stand : map (node-if a.path) (bits_at_pins r.by r.cell) ≡ nodes_at_pins s a (Some r.cell)
  bits-stand =
      let pins = λ (q : PinView). first_bit (connected [] q.name r.by.connections) in
      let pgs = λ (g : PgPinView). first_bit (connected [] g.name r.by.connections) in
      map-append (node-if a.path) (map pins r.cell.pins) (map pgs r.cell.pgs)
      ∙ ap (λ xs. xs ++ map (node-if a.path) (map pgs r.cell.pgs))
      (map-map (node-if a.path) pins r.cell.pins ∙ map-same (λ (q : PinView). node-if a.path (pins q)) (λ (q : PinView). joined_at s a q.name) r.cell.pins (λ q. sym (joined-stands q.name)))
      ∙ ap (λ xs. map (λ (q : PinView). joined_at s a q.name) r.cell.pins ++ xs)
      (map-map (node-if a.path) pgs r.cell.pgs ∙ map-same (λ (g : PgPinView). node-if a.path (pgs g)) (λ (g : PgPinView). joined_at s a g.name) r.cell.pgs (λ g. sym (joined-stands g.name)))

  pins-stand : map (pin_key (keys_of s)) (row_of s t l) ≡ nodes_at_pins s a (cell_at s a.path a.instance)
  pins-stand =
      ap (map (pin_key (keys_of s))) r.served
      ∙ map-map (pin_key (keys_of s)) (pin_at_start (start_of s l.inst.0)) r.row
      ∙ row-in s r.of l.inst.0 a.path r.inst r.is_of r.row r.resolved.within
      ∙ ap (map (node-if a.path)) r.resolved.same
      ∙ bits-stand
      ∙ ap (nodes_at_pins s a) (sym cell-stands)

module _ (s : Structure) (t : Tables) where
  pub cells_kept : (ls : List Leaf) (keyed : List Placed) → AllStand s t ls keyed → map (λ (l : Leaf). slice_get s.cells l.cell.0) ls ≡ map (λ (a : Placed). cell_at s a.path a.instance) keyed
  cells_kept [] [] h = refl
  cells_kept [] (a ∷ keyed) h = absurd h
  cells_kept (l ∷ ls) [] h = absurd h
  cells_kept (l ∷ ls) (a ∷ keyed) h =
      ap (λ x. x ∷ map (λ (z : Leaf). slice_get s.cells z.cell.0) ls) (h.0.has_cell ∙ sym (cell-stands s t l a h.0))
      ∙ ap (λ r. cell_at s a.path a.instance ∷ r) (cells_kept ls keyed h.1)

  pub pins_kept : (ls : List Leaf) (keyed : List Placed) → AllStand s t ls keyed → map (λ (l : Leaf). map (pin_key (keys_of s)) (row_of s t l)) ls ≡ map (λ (a : Placed). nodes_at_pins s a (cell_at s a.path a.instance)) keyed
  pins_kept [] [] h = refl
  pins_kept [] (a ∷ keyed) h = absurd h
  pins_kept (l ∷ ls) [] h = absurd h
  pins_kept (l ∷ ls) (a ∷ keyed) h =
      ap (λ x. x ∷ map (λ (z : Leaf). map (pin_key (keys_of s)) (row_of s t z)) ls) (pins-stand s t l a h.0)
      ∙ ap (λ r. nodes_at_pins s a (cell_at s a.path a.instance) ∷ r) (pins_kept ls keyed h.1)

  pub represents_kept : HasNamesApart s → JoinsSingleBits s → IsKept s t → Represents s (keys_of s) t
  represents_kept names single k = record {
    count = k.count;
    ways = k.ways;
    sources = sources_kept s t k.rows names single k.drives k.sources;
    cells = cells_kept t.leaves (cell_instances s) k.leaves;
    pins = pins_kept t.leaves (cell_instances s) k.leaves;
    closed = k.closed;
  }
