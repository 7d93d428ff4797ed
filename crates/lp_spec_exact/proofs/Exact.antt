-- No number is over what its table holds.
use Rattle.std.proofs.Common.{◌≡◌, ◌<◌, ◌≤◌, ℕ, zero, suc, ◌+◌, ◌*◌, Bool, true, false, List, [], ◌∷◌, map, length, take, get_or, Option, Some, None, ◌⊎◌, inl, inr, refl, sym, ap, ◌∙◌, subst, arith}
use Rattle.std.specs.Prelude.{flat_map, option_map, option_and_then, slice_get}
use Rattle.std.proofs.lemmas.Bool.{false≢true, ltb-true}
use Rattle.std.proofs.lemmas.List.{length-append, length-map}
use Rattle.std.proofs.lemmas.Option.{slice_get_within, slice_get-get_or}
use Rattle.lp_model.specs.declared.graph.Edge.{Edge as EdgeRow}
use Rattle.lp_model.specs.declared.graph.EdgeFrom.{EdgeFrom}
use Rattle.lp_model.specs.declared.graph.EdgeFrom.TheVariants.{Node as FromNode, Const as FromConst}
use Rattle.lp_model.specs.declared.graph.Leaf.{Leaf}
use Rattle.lp_model.specs.declared.graph.Node.{Node as NodeRow}
use Rattle.lp_model.specs.declared.graph.NodeName.TheVariants.{Scalar}
use Rattle.lp_model.specs.declared.graph.Source.TheVariants.{Nothing}
use Rattle.lp_model.specs.declared.library.Library.{Library}
use Rattle.lp_model.specs.declared.netlist.Netlist.{Netlist}
use Rattle.lp_model.specs.NetlistView.{ModuleView, module_view}
use Rattle.lp_model.specs.LibraryView.{PgPinView, CellView, PinView}
use Rattle.lp_spec_design.specs.Keys.{Path, Node, Fixed, Source, CellPin, SwitchedPin}
use Rattle.lp_spec_design.specs.Netlists.{Structure, module_at, cell_at}
use Rattle.lp_spec_design.specs.Instances.{Placed, module_instances, cell_instances}
use Rattle.lp_spec_design.specs.Nodes.{nodes_in, inner_nodes, nodes_of}
use Rattle.lp_spec_bridge.specs.Tables.{Tables}
use Rattle.lp_spec_bridge.specs.Edges.{Drive, drives_of}
use Rattle.lp_spec_bridge.specs.Keyed.{keys_of, node_at, leaf_at}
use Rattle.lp_spec_bridge.specs.Represents.{outputs_in, cell_of}
use Rattle.lp_spec_bridge.specs.Driven.{JoinsSingleBits}
use Rattle.lp_spec_bridge.specs.Kept.{AllStand, AreDrives}
use Rattle.lp_spec_bridge.specs.Templates.{start_of}
use Rattle.lp_spec_bridge.proofs.Apart.{in-at}
use Rattle.lp_spec_bridge.proofs.Kept.{cells_kept}
use Rattle.lp_spec_bridge.proofs.Templates.{starts-at}
use Rattle.lp_spec_layout.specs.Parts.{Template}
use Rattle.lp_spec_layout.specs.Sites.{Spot, Site, Layout, IsBehind, IsSited}
use Rattle.lp_spec_layout.specs.Walked.{sites_of}
use Rattle.lp_spec_layout.specs.Leaves.{LeafSite, leaf_sites_of, leaf_rows, pin_rows}
use Rattle.lp_spec_layout.specs.Feeds.{Driver, ByEdge, ByPin, ByOutside, Feed, feeds, drive_rows, edge_rows}
use Rattle.lp_spec_layout.specs.Laws.{HasCells}
use Rattle.lp_spec_layout.specs.Laid.{parent_of, inst_row, name_of}
use Rattle.lp_spec_layout.proofs.Lists.{get-map, get-in}
use Rattle.lp_spec_layout.proofs.Numbered.{drive_meant, from_node, feed_meant, Meant, IsWay, IsOther, one-of}
use Rattle.lp_spec_layout.proofs.Fed.{are_drives, feeds-mean}
use Rattle.lp_spec_layout.proofs.Leaves.{LeavesStand}
use Rattle.lp_spec_layout.proofs.Walked.{walk_sites, walk_leaf_sites, leaf_rows_are}
use Rattle.lp_spec_layout.proofs.Closed.{pins-closed}
use Rattle.lp_spec_drivers.specs.Counts.{times}
use Rattle.lp_spec_drivers.proofs.Placed.{fed}
use Rattle.lp_spec_drivers.proofs.Sited.{sources-counted}
use Rattle.lp_targets.specs.declared.target.Target.{Target}
use Rattle.lp_targets.specs.Structures.{structure_of}
use Rattle.lp_layout.specs.Held.{word, held_from, held_driver, held_feed, held_leaf, held_parent, held_inst}
use Rattle.lp_layout.specs.Labels.{labels_of}
use Rattle.lp_drivers.proofs.Single.{single-bits}
use Rattle.lp_spec_laid.specs.Laws.{IsReady, AreExact, layout_in, inst_rows}
use Rattle.lp_spec_exact.specs.Laws.{CanBeLaidOut}
use Rattle.lp_spec_exact.proofs.Limits.{AreFew, few, nodes-few}
use Rattle.lp_spec_exact.proofs.Single.{no-more, single}
use Rattle.lp_spec_exact.proofs.Few.{row-few, cell-few, fed-within, edges-few}
use Rattle.lp_spec_exact.proofs.Held.{word-same, byte-same, all-made-held, pins-held}

flat-take : {A B : Type 0} (f : A → List B) (k : ℕ) (xs : List A) → length (flat_map f (take k xs)) ≤ length (flat_map f xs)
flat-take f zero xs = omega arith
flat-take f (suc k) [] = omega arith
flat-take f (suc k) (x ∷ xs) =
    let a = length-append (f x) (flat_map f (take k xs)) in
    let b = length-append (f x) (flat_map f xs) in
    let c = flat-take f k xs in
    omega (arith, a, b, c)

-- where an edge comes from
abbrev comes-from : Driver → EdgeFrom
comes-from (ByEdge f kind) = f
comes-from _ = FromConst true

abbrev is-edge : Driver → Bool
is-edge (ByEdge f kind) = true
is-edge _ = false

outputs-count : (a : Placed) (c : CellView) → length (outputs_in a (Some c)) ≡ length c.pins + length c.pgs
outputs-count a c =
    let pins = map (λ (q : PinView). CellPin a.path a.instance q.name) c.pins in
    let pgs = map (λ (g : PgPinView). SwitchedPin a.path a.instance g.name) c.pgs in
    let all = length-append pins pgs in
    let one = length-map c.pins (λ (q : PinView). CellPin a.path a.instance q.name) in
    let two = length-map c.pgs (λ (g : PgPinView). SwitchedPin a.path a.instance g.name) in
    omega (arith, all, one, two)

module _ (texts : List (List ℕ)) (n : Netlist) (l : Library) (rows : List (List Target)) (order : List ℕ) (top : ℕ) (templates : List Template)
    (d : CanBeLaidOut texts n l rows order top templates) (r : IsReady texts n l templates top) where
  abbrev s : Structure
  s = structure_of texts n l

  abbrev m : ModuleView
  m = module_view texts r.source

  abbrev here : Layout
  here = layout_in texts n l templates top r

  abbrev sites : List Site
  sites = sites_of templates top

  abbrev leaf-sites : List LeafSite
  leaf-sites = leaf_sites_of templates top

  has : slice_get s.modules top ≡ Some m
  has = get-map (module_view texts) n.modules top r.source r.has_source

  all-few : AreFew s
  all-few = few s rows order top templates d.ready m r.is_top has

  few-nodes : length (nodes_of s) ≤ 8000000
  few-nodes = nodes-few s all-few

  sited : IsSited s here
  sited = walk_sites s r.apart templates r.resolved r.sized top m r.is_top has r.low

  stand : LeavesStand s leaf-sites (cell_instances s)
  stand = walk_leaf_sites s r.apart templates r.resolved r.sized top m r.is_top has r.low

  -- the tables before any number is cut
  abbrev blank : Node → NodeRow
  blank k = record { inst = record { 0 = 0 }; name = Scalar (record { 0 = 0 }); source = Nothing }

  abbrev t : Tables
  t = record {
    instances = inst_rows n templates top r.source.name.0;
    leaves = leaf_rows (name_of (labels_of n.modules)) 0 leaf-sites;
    pins = pin_rows leaf-sites;
    nodes = map blank (nodes_of s);
    edges = edge_rows s.cells here;
    shapes = [];
    inner = 0;
  }

  node-count : length t.nodes ≡ length (nodes_of s)
  node-count = length-map (nodes_of s) blank

  rows-stand : AllStand s t t.leaves (cell_instances s)
  rows-stand = leaf_rows_are s r.apart templates r.resolved r.sized top m r.is_top has t (name_of (labels_of n.modules)) r.low refl refl

  has-cells : HasCells s t
  has-cells = cells_kept s t t.leaves (cell_instances s) rows-stand

  single-joined : JoinsSingleBits s
  single-joined = single-bits s d.ready.widths

  mean : map (feed_meant s (keys_of s) t) (feeds s.cells here) ≡ map drive_meant (drives_of s)
  mean = feeds-mean s t r.apart single-joined has-cells here sited

  drives : AreDrives s t (drive_rows s.cells here)
  drives = are_drives s t r.apart single-joined has-cells here sited refl

  -- ---- instances

  start-low : (k : ℕ) → k < length (module_instances s) → start_of s k ≤ length (inner_nodes s)
  unfolding inner_nodes
  start-low k low =
      let f = λ (p : Path). nodes_in p (module_at s p) in
      let at = starts-at s 0 (module_instances s) k low in
      let part = flat-take f k (module_instances s) in
      omega (arith, at, part)

  -- a site is held as it is
  site-held : (k : ℕ) (x : Site) → slice_get sites k ≡ Some x → held_inst (inst_row (labels_of n.modules) sites r.source.name.0 x) ≡ inst_row (labels_of n.modules) sites r.source.name.0 x
  site-held k x at =
      let within = slice_get_within sites k x at in
      let low : k < length (module_instances s) = omega (arith, within, sited.count) in
      let w = sited.each k (get_or (module_instances s) k []) (slice_get-get_or (module_instances s) k [] low) in
      let same : Some w.site ≡ Some x = sym w.at ∙ at in
      let is : w.site ≡ x = cc in
      subst (λ (y : Site). held_inst (inst_row (labels_of n.modules) sites r.source.name.0 y) ≡ inst_row (labels_of n.modules) sites r.source.name.0 y) is
      (both w.site (by w.site.by w.behind (omega (arith, low, all-few.instances))) (word-same w.site.start (omega (arith, w.start, start-low k low, all-few.bits))))
    where
      by : (o : Option Spot) → IsBehind k o → k < 4294967296 → option_map held_parent (parent_of o) ≡ parent_of o
      by None h few = refl
      by (Some spot) h few = λ i. Some (record { 0 = word-same spot.0 (omega (arith, h, few)) i })

      both : (y : Site) → option_map held_parent (parent_of y.by) ≡ parent_of y.by → word y.start ≡ y.start
          → held_inst (inst_row (labels_of n.modules) sites r.source.name.0 y) ≡ inst_row (labels_of n.modules) sites r.source.name.0 y
      both y e f = λ i. record { name = (inst_row (labels_of n.modules) sites r.source.name.0 y).name; «module» = y.of; parent = e i; start = f i }

  -- ---- cell instances

  leaves-held : (name : ℕ → ℕ → ℕ) (start : ℕ) (ys : List LeafSite) (keyed : List Placed) → LeavesStand s ys keyed → start + 248 * length keyed < 4294967296 → map held_leaf (leaf_rows name start ys) ≡ leaf_rows name start ys
  leaves-held name start [] keyed h room = refl
  leaves-held name start (y ∷ ys) [] h room = absurd h
  leaves-held name start (y ∷ ys) (a ∷ keyed) h room =
      let within = slice_get_within (module_instances s) y.inst a.path h.0.inst in
      let row = row-few s d.cells d.sound y a h.0 in
      let inst = word-same y.inst (omega (arith, within, all-few.instances)) in
      let first = word-same start (omega (arith, room)) in
      let rest = leaves-held name (start + length y.cell.row) ys keyed h.1 (omega (arith, room, row)) in
      λ i. record { inst = record { 0 = inst i }; name = record { 0 = name y.of y.place }; cell = record { 0 = y.cell.of }; start = first i } ∷ rest i

  -- ---- feeds

  pin-low : (pin leaf : ℕ) (x : Source) → slice_get (outputs_in (leaf_at (keys_of s) leaf) (cell_of s t leaf)) pin ≡ Some x → pin < 256
  pin-low pin leaf x e = by (slice_get t.leaves leaf) refl
    where
      none : slice_get (outputs_in (leaf_at (keys_of s) leaf) None) pin ≡ Some x → pin < 256
      none f = absurd cc

      of-cell : (w : Leaf) → slice_get t.leaves leaf ≡ Some w → (o : Option CellView) → slice_get s.cells w.cell.0 ≡ o → slice_get (outputs_in (leaf_at (keys_of s) leaf) o) pin ≡ Some x → pin < 256
      of-cell w at None is f = none f
      of-cell w at (Some c) is f =
          let within = slice_get_within (outputs_in (leaf_at (keys_of s) leaf) (Some c)) pin x f in
          let size = outputs-count (leaf_at (keys_of s) leaf) c in
          let small = cell-few s d.cells d.sound (name_of (labels_of n.modules)) 0 leaf-sites (cell_instances s) stand leaf w c at is in
          omega (arith, within, size, small)

      by : (o : Option Leaf) → slice_get t.leaves leaf ≡ o → pin < 256
      by None at = none (ap (λ z. slice_get (outputs_in (leaf_at (keys_of s) leaf) (option_and_then (λ (w : Leaf). slice_get s.cells w.cell.0) z)) pin) (sym at) ∙ e)
      by (Some w) at = of-cell w at (slice_get s.cells w.cell.0) refl (ap (λ z. slice_get (outputs_in (leaf_at (keys_of s) leaf) (option_and_then (λ (w : Leaf). slice_get s.cells w.cell.0) z)) pin) (sym at) ∙ e)

  leaf-count : length t.leaves ≡ length (keys_of s).leaves
  leaf-count =
      sym (length-map t.leaves (λ (w : Leaf). slice_get s.cells w.cell.0))
      ∙ ap (λ (xs : List (Option CellView)). length xs) has-cells
      ∙ length-map (cell_instances s) (λ (a : Placed). cell_at s a.path a.instance)

  node-low : (k : ℕ) (x : Node) → slice_get (nodes_of s) k ≡ Some x → k < 4294967296
  node-low k x e = let within = slice_get_within (nodes_of s) k x e in omega (arith, within, few-nodes)

  from-held : (f : EdgeFrom) (x : Node) → from_node (keys_of s) f ≡ Some x → held_from f ≡ f
  from-held (FromNode k) x e = λ i. FromNode (record { 0 = word-same k.0 (node-low k.0 x e) i })
  from-held (FromConst b) x e = refl

  driver-held : (k : ℕ) (y : Driver) (z : Drive) → IsWay (keys_of s) (k, y) z ⊎ IsOther s (keys_of s) t (k, y) z → held_driver y ≡ y
  driver-held k (ByEdge f kind) z (inl w) =
      let same : f ≡ w.from = ap comes-from w.is_edge in
      ap (λ g. ByEdge g kind) (from-held f w.node (ap (from_node (keys_of s)) same ∙ w.comes))
  driver-held k (ByEdge f kind) z (inr o) =
      let made : EdgeRow = record { from = f; to = record { 0 = k }; kind = kind } in
      let no : Some made ≡ None = o.no_row in
      absurd cc
  driver-held k (ByPin pin leaf) z (inl w) = absurd (false≢true (ap is-edge w.is_edge))
  driver-held k (ByPin pin leaf) z (inr o) =
      let low = ltb-true leaf (length t.leaves) (o.closed leaf-count 0) in
      let one = byte-same pin (pin-low pin leaf z.1 (o.source 0)) in
      let two = word-same leaf (omega (arith, low, leaf-count, all-few.leaves)) in
      λ i. ByPin (one i) (two i)
  driver-held k ByOutside z h = refl

  feeds-held : (xs : List Feed) (zs : List Drive) → map (feed_meant s (keys_of s) t) xs ≡ map drive_meant zs → map held_feed xs ≡ xs
  feeds-held [] zs same = refl
  feeds-held (x ∷ xs) [] same = absurd cc
  feeds-held (x ∷ xs) (z ∷ zs) same =
      let first : feed_meant s (keys_of s) t x ≡ drive_meant z = cc in
      let later : map (feed_meant s (keys_of s) t) xs ≡ map drive_meant zs = cc in
      let to = word-same x.0 (node-low x.0 z.0 (ap (λ (w : Meant). w.0) first)) in
      let by = driver-held x.0 x.1 z (one-of s (keys_of s) t x.0 x.1 z.0 z.1 (ap (λ (w : Meant). w.1) first)) in
      let rest = feeds-held xs zs later in
      λ i. (to i, by i) ∷ rest i

  -- ---- edges

  driven-once : (k : ℕ) → k < length (nodes_of s) → times k (fed (feeds s.cells here)) ≤ 1
  driven-once k low =
      let counted = sources-counted s r.apart single-joined t has-cells here sited refl k low in
      let once = single s r.apart m r.is_top (get-in s.modules top m has) d.drivers (node_at (keys_of s) k) (in-at (nodes_of s) k (Fixed false) low) in
      omega (arith, counted, once)

  edge-count : length (edge_rows s.cells here) ≤ 4294967296
  edge-count =
      let made = edges-few (feeds s.cells here) in
      let size = length-map (feeds s.cells here) (λ (x : Feed). x.0) in
      let most = no-more (length (nodes_of s)) (fed (feeds s.cells here)) (fed-within (length (nodes_of s)) 0 (feeds s.cells here) drives.within) driven-once in
      omega (arith, made, size, most, few-nodes)

  pub exact : AreExact texts n l templates top r
  exact = record {
    sites = omega (arith, sited.count, all-few.instances);
    nodes = omega (arith, sited.inner, all-few.bits);
    insts = all-made-held held_inst (inst_row (labels_of n.modules) sites r.source.name.0) sites site-held;
    leaves = leaves-held (name_of (labels_of n.modules)) 0 leaf-sites (cell_instances s) stand (omega (arith, all-few.leaves));
    pins = pins-held (length t.nodes) (pin_rows leaf-sites) (omega (arith, node-count, few-nodes)) (pins-closed s t node-count leaf-sites (cell_instances s) stand);
    feeds = feeds-held (feeds s.cells here) (drives_of s) mean;
    edges = edge-count;
  }
