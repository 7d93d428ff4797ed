-- An elaborated netlist to which nothing was done.
use Rattle.std.proofs.Common.{◌≡◌, ◌<◌, ℕ, zero, suc, Bool, true, false, List, [], ◌∷◌, ◌++◌, map, length, take, drop, get_or, Option, Some, None, refl, sym, ap, ◌∙◌, arith}
use Rattle.std.specs.Prelude.{nat_lt, is_some, ◌&&◌, ◌+◌, slice_get, option_and_then}
use Rattle.std.specs.List.{list_all}
use Rattle.std.proofs.lemmas.Bool.{ltb-true, lt-ltb}
use Rattle.std.proofs.lemmas.List.{length-map}
use Rattle.std.proofs.lemmas.Option.{slice_get_within, get_or_from_slice_get, slice_get-get_or}
use Rattle.lp_model.specs.LibraryView.{CellView, PinView, PgPinView}
use Rattle.lp_model.specs.declared.graph.Edge.{Edge as EdgeRow}
use Rattle.lp_model.specs.declared.graph.EdgeFrom.{EdgeFrom}
use Rattle.lp_model.specs.declared.graph.EdgeFrom.TheVariants.{Node as FromNode, Const as FromConst}
use Rattle.lp_model.specs.declared.graph.Inst.{Inst}
use Rattle.lp_model.specs.declared.graph.Leaf.{Leaf}
use Rattle.lp_model.specs.declared.graph.PinNet.{PinNet}
use Rattle.lp_model.specs.declared.graph.PinNet.TheVariants.{Unconnected, Const as PinConst, Node as PinNode}
use Rattle.lp_model.specs.declared.graph.Source.{Source as SourceRow}
use Rattle.lp_model.specs.declared.graph.Source.TheVariants.{Nothing, Env, Leaf as OfLeaf, Edge as OfEdge}
use Rattle.lp_spec_design.specs.Keys.{Name, Node, Fixed, Way, Source, CellPin, SwitchedPin, Environment, From}
use Rattle.lp_spec_design.specs.Netlists.{Structure, cell_at, module_at}
use Rattle.lp_spec_design.specs.Instances.{Placed, cell_instances, module_instances}
use Rattle.lp_spec_design.specs.Nodes.{nodes_of}
use Rattle.lp_spec_design.specs.Graph.{source_of}
use Rattle.lp_spec_bridge.specs.Tables.{Tables, has_node, has_source, source_row, edge_from}
use Rattle.lp_spec_bridge.specs.Keyed.{is_net_bit, Keyed, keys_of, node_at, way_at, leaf_at}
use Rattle.lp_spec_bridge.specs.Edges.{Edge, edges_of}
use Rattle.lp_spec_bridge.specs.Represents.{Represents, from_key, source_key, outputs_in, cell_of, row_size, row_of, pin_key, joined_at, nodes_at_pins}
use Rattle.lp_spec_bridge.specs.Elaborates.{Elaborates, Ends, row_ends, edge_ends, placed_key}
use Rattle.lp_spec_bridge.proofs.Apart.{apart-at, list-at}
use Rattle.lp_spec_bridge.proofs.Trails.{source-at, source-in, map-map}
use Rattle.lp_spec_realises.specs.Projects.{Project}
use Rattle.lp_spec_hub.specs.Spots.{Spot, OfNode, AsSource, FromSpot, nothing_done}
use Rattle.lp_spec_hub.specs.Drives.{drive, drive_by}
use Rattle.lp_spec_edits.specs.Net.{Signal, CellPins, no_pins, cell_pins, pin_count, row_at, Net, net_of, source_at, edge_at, pin_at}
use Rattle.lp_spec_edits.specs.Sound.{IsSound}
use Rattle.lp_spec_design.specs.Reads.{one, other}
use Rattle.lp_spec_design.specs.Graph.{is_output_pin}
use Rattle.lp_spec_held.specs.Held.{Driving, driving, driving_of, AreCells, is_there, is_done, IsEdgeHeld, Cell, OfSource, OfOperator, OfSwitch, Spots, spots_of, spot_at, key_at, from_spot, pin_spot, view_at, driven_by, row_drive, cell_of_key, path_of_key, name_of_pin, Holds}

get-map : {A B : Type 0} (f : A → B) (xs : List A) (k : ℕ) (d : A) → get_or (map f xs) k (f d) ≡ f (get_or xs k d)
get-map f [] k d = refl
get-map f (x ∷ xs) zero d = refl
get-map f (x ∷ xs) (suc k) d = get-map f xs k d

get-map-in : {A B : Type 0} (f : A → B) (xs : List A) (k : ℕ) (d : A) (e : B) → k < length xs → get_or (map f xs) k e ≡ f (get_or xs k d)
get-map-in f [] k d e h = absurd (omega (arith, h))
get-map-in f (x ∷ xs) zero d e h = refl
get-map-in f (x ∷ xs) (suc k) d e h = get-map-in f xs k d e (omega (arith, h))

none-some : {A : Type 0} (x : A) → None ≡ Some x → ⊥
none-some x e = cc

same-some : {A : Type 0} (x y : A) → Some x ≡ Some y → x ≡ y
same-some x y e = let same : x ≡ y = cc in same

pub map-at : {A B : Type 0} (f : A → B) (xs : List A) (k : ℕ) (x : A) (d : B) → slice_get xs k ≡ Some x → get_or (map f xs) k d ≡ f x
map-at f [] zero x d e = absurd (none-some x e)
map-at f [] (suc k) x d e = absurd (none-some x e)
map-at f (y ∷ xs) zero x d e = ap f (same-some y x e)
map-at f (y ∷ xs) (suc k) x d e = map-at f xs k x d e

none-past : {A : Type 0} (xs : List A) (k : ℕ) → slice_get xs k ≡ None → k < length xs → ⊥
none-past [] k e low = omega (arith, low)
none-past (x ∷ xs) zero e low = none-some x (sym e)
none-past (x ∷ xs) (suc k) e low = none-past xs k e (omega (arith, low))

-- pins of a cell are no ways
no-way : (a : Placed) (c : Option CellView) (q : ℕ) (w : Way) (j : Node) → slice_get (outputs_in a c) q ≡ Some (From w j) → ⊥
no-way a None q w j e = let no_ : None ≡ Some (From w j) = e in absurd cc
no-way a (Some c) q w j e = pins c.pins q e
  where
    pgs : (gs : List PgPinView) (r : ℕ) → slice_get (map (λ (g : PgPinView). SwitchedPin a.path a.instance g.name) gs) r ≡ Some (From w j) → ⊥
    pgs [] r g = cc
    pgs (x ∷ xs) zero g = let no_ : SwitchedPin a.path a.instance x.name ≡ From w j = same-some (SwitchedPin a.path a.instance x.name) (From w j) g in cc
    pgs (x ∷ xs) (suc r) g = pgs xs r g

    pins : (qs : List PinView) (r : ℕ) → slice_get (map (λ (x : PinView). CellPin a.path a.instance x.name) qs ++ map (λ (g : PgPinView). SwitchedPin a.path a.instance g.name) c.pgs) r ≡ Some (From w j) → ⊥
    pins [] r g = pgs c.pgs r g
    pins (x ∷ xs) zero g = let no_ : CellPin a.path a.instance x.name ≡ From w j = same-some (CellPin a.path a.instance x.name) (From w j) g in cc
    pins (x ∷ xs) (suc r) g = pins xs r g

module _ (p : Project) (from : Way → Node) (cells : List CellPins) (t : Tables) (r : Represents p.structure (keys_of p.structure) t) where
  abbrev ks : Keyed
  ks = keys_of p.structure

  abbrev sp : Spots
  sp = spots_of p.structure

  abbrev n : Net
  n = net_of cells t

  spot-is : (k : ℕ) → spot_at sp k ≡ OfNode (node_at ks k)
  spot-is k = get-map (λ k. OfNode k) (nodes_of p.structure) k (Fixed false)

  from-is : (f : EdgeFrom) → from_spot sp f ≡ OfNode (from_key ks f)
  from-is (FromNode k) = spot-is k.0
  from-is (FromConst b) = refl

  -- with nothing done
  plain-drive : (x : Source) (a : Placed) (c : Option CellView) (q : ℕ) → slice_get (outputs_in a c) q ≡ Some x → drive_by [] x ≡ AsSource x
  plain-drive (CellPin u i m) a c q e = refl
  plain-drive (SwitchedPin u i m) a c q e = refl
  plain-drive Environment a c q e = refl
  plain-drive (From w j) a c q e = absurd (no-way a c q w j e)

  pin-drive : (a : Placed) (c : Option CellView) (q : ℕ) (o : Option Source) → slice_get (outputs_in a c) q ≡ o → option_and_then (λ x. Some (AsSource x)) (slice_get (outputs_in a c) q) ≡ option_and_then (λ x. Some (drive_by [] x)) (slice_get (outputs_in a c) q)
  pin-drive a c q None e = ap (option_and_then (λ x. Some (AsSource x))) e ∙ sym (ap (option_and_then (λ x. Some (drive_by [] x))) e)
  pin-drive a c q (Some x) e =
      ap (option_and_then (λ x. Some (AsSource x))) e
      ∙ (ap (λ d. Some d) (sym (plain-drive x a c q e)) ∙ sym (ap (option_and_then (λ x. Some (drive_by [] x))) e))

  leaf-count : length t.leaves ≡ length (cell_instances p.structure)
  leaf-count = sym (length-map t.leaves (λ (l : Leaf). slice_get p.structure.cells l.cell.0)) ∙ (ap length r.cells ∙ length-map (cell_instances p.structure) (λ (a : Placed). cell_at p.structure a.path a.instance))

  edge-drive : (a : ℕ) (o : Option EdgeRow) → slice_get t.edges a ≡ o → a < length t.edges
      → option_and_then (λ (x : EdgeRow). Some (FromSpot (from_spot sp x.from))) (slice_get t.edges a) ≡ Some (FromSpot (OfNode (from_key ks (edge_from t a))))
  edge-drive a None e low = absurd (none-past t.edges a e low)
  edge-drive a (Some x) e low =
      ap (option_and_then (λ (x : EdgeRow). Some (FromSpot (from_spot sp x.from)))) e
      ∙ ap (λ y. Some (FromSpot y)) (from-is x.from ∙ ap (λ f. OfNode (from_key ks f)) (sym (map-at (λ (y : EdgeRow). y.from) t.edges a x (FromConst true) e)))

  pub drives-begun : (k : ℕ) → k < length t.nodes → row_drive p.structure sp n (OfNode (node_at ks k)) (source_at n k) ≡ drive p nothing_done from (OfNode (node_at ks k))
  drives-begun k low = by (source_at n k) refl (source-at p.structure ks t r (FromNode (record { 0 = k })) ok) (source-in p.structure ks t r (FromNode (record { 0 = k })) ok)
    where
      ok : has_node t (FromNode (record { 0 = k })) ≡ true
      ok = lt-ltb k (length t.nodes) low

      after : (o : Option Source) → source_of p.structure (node_at ks k) ≡ o → drive p nothing_done from (OfNode (node_at ks k)) ≡ option_and_then (λ x. Some (drive_by [] x)) o
      after o e = ap (option_and_then (λ x. Some (drive_by [] x))) e

      by : (y : SourceRow) → source_at n k ≡ y → source_key p.structure ks t (source_row t (FromNode (record { 0 = k }))) ≡ source_of p.structure (node_at ks k) → has_source t (source_row t (FromNode (record { 0 = k }))) ≡ true
          → row_drive p.structure sp n (OfNode (node_at ks k)) (source_at n k) ≡ drive p nothing_done from (OfNode (node_at ks k))
      by Nothing e is closed = ap (row_drive p.structure sp n (OfNode (node_at ks k))) e ∙ sym (after None (sym is ∙ ap (source_key p.structure ks t) e))
      by Env e is closed = ap (row_drive p.structure sp n (OfNode (node_at ks k))) e ∙ sym (after (Some Environment) (sym is ∙ ap (source_key p.structure ks t) e))
      by (OfLeaf q l) e is closed =
          let under : l.0 < length t.leaves = ltb-true l.0 (length t.leaves) (sym (ap (has_source t) e) ∙ closed) in
          let key : key_at sp l.0 ≡ OfSource (leaf_at ks l.0) = get-map-in (λ x. OfSource x) (cell_instances p.structure) l.0 (record { path = []; instance = [] }) (OfSwitch 0) (omega (arith, under, leaf-count)) in
          ap (row_drive p.structure sp n (OfNode (node_at ks k))) e
          ∙ (ap (λ c. driven_by c (cell_of p.structure t l.0) q) key
          ∙ (pin-drive (leaf_at ks l.0) (cell_of p.structure t l.0) q (slice_get (outputs_in (leaf_at ks l.0) (cell_of p.structure t l.0)) q) refl
          ∙ sym (after (slice_get (outputs_in (leaf_at ks l.0) (cell_of p.structure t l.0)) q) (sym is ∙ ap (source_key p.structure ks t) e))))
      by (OfEdge a) e is closed =
          let under : a.0 < length t.edges = ltb-true a.0 (length t.edges) (sym (ap (has_source t) e) ∙ closed) in
          ap (row_drive p.structure sp n (OfNode (node_at ks k))) e
          ∙ (edge-drive a.0 (slice_get t.edges a.0) refl under
          ∙ sym (after (Some (From (way_at ks a.0) (from_key ks (edge_from t a.0)))) (sym is ∙ ap (source_key p.structure ks t) e)))

  -- ---- the other parts

  pub open-slice : (k : ℕ) (x : Spot) → slice_get (map (λ k. OfNode k) (nodes_of p.structure)) k ≡ Some x → x ≡ OfNode (node_at ks k)
  open-slice k x e = sym (get_or_from_slice_get (map (λ k. OfNode k) (nodes_of p.structure)) k x (OfNode (Fixed false)) e) ∙ spot-is k

  pub drives-all : (k : ℕ) (x : Spot) → slice_get sp.nodes k ≡ Some x → row_drive p.structure sp n x (source_at n k) ≡ drive p nothing_done from x
  drives-all k x e =
      let within = slice_get_within (map (λ k. OfNode k) (nodes_of p.structure)) k x e in
      let size = length-map (nodes_of p.structure) (λ k. OfNode k) in
      let low : k < length t.nodes = omega (arith, within, size, r.count) in
      ap (λ y. row_drive p.structure sp n y (source_at n k)) (open-slice k x e) ∙ (drives-begun k low ∙ ap (drive p nothing_done from) (sym (open-slice k x e)))

  pub nodes-begun : length n.nodes ≡ length sp.nodes
  nodes-begun = r.count ∙ sym (length-map (nodes_of p.structure) (λ k. OfNode k))

  pub leaves-begun : length n.leaves ≡ length sp.leaves
  leaves-begun = leaf-count ∙ sym (length-map (cell_instances p.structure) (λ a. OfSource a))

  no-operator : (xs : List Placed) (l : ℕ) (w : Way) (k : ℕ) → slice_get (map (λ a. OfSource a) xs) l ≡ Some (OfOperator w k) → ⊥
  no-operator [] l w k e = none-some (OfOperator w k) e
  no-operator (x ∷ xs) zero w k e = let no_ : OfSource x ≡ OfOperator w k = same-some (OfSource x) (OfOperator w k) e in cc
  no-operator (x ∷ xs) (suc l) w k e = no-operator xs l w k e

-- ---- entries of two lists that two functions map to one

pub heads-same : {D : Type 0} (a b : D) (us vs : List D) → a ∷ us ≡ b ∷ vs → a ≡ b
heads-same a b us vs h = cc

pub tails-same : {D : Type 0} (a b : D) (us vs : List D) → a ∷ us ≡ b ∷ vs → us ≡ vs
tails-same a b us vs h = cc

pub entry-of : {A B C : Type 0} (f : A → C) (g : B → C) (xs : List A) (ys : List B) (k : ℕ) (y : B) → map f xs ≡ map g ys → slice_get ys k ≡ Some y → (x : A) × (slice_get xs k ≡ Some x) × (f x ≡ g y)
entry-of f g xs [] zero y same e = absurd (none-some y e)
entry-of f g xs [] (suc k) y same e = absurd (none-some y e)
entry-of f g [] (z ∷ ys) k y same e = absurd (nil-cons (g z) (map g ys) same)
  where
    nil-cons : {D : Type 0} (d : D) (ds : List D) → [] ≡ d ∷ ds → ⊥
    nil-cons d ds h = cc
entry-of f g (x ∷ xs) (z ∷ ys) zero y same e = (x, refl, heads-same (f x) (g z) (map f xs) (map g ys) same ∙ ap g (same-some z y e))
entry-of f g (x ∷ xs) (z ∷ ys) (suc k) y same e = entry-of f g xs ys k y (tails-same (f x) (g z) (map f xs) (map g ys) same) e

source-entry : (xs : List Placed) (l : ℕ) (c : Cell) → slice_get (map (λ a. OfSource a) xs) l ≡ Some c → (a : Placed) × (slice_get xs l ≡ Some a) × (c ≡ OfSource a)
source-entry [] zero c e = absurd (none-some c e)
source-entry [] (suc l) c e = absurd (none-some c e)
source-entry (x ∷ xs) zero c e = (x, refl, sym (same-some (OfSource x) c e))
source-entry (x ∷ xs) (suc l) c e = source-entry xs l c e

all-entry : {A : Type 0} (test : A → Bool) (xs : List A) (k : ℕ) (x : A) → list_all test xs ≡ true → slice_get xs k ≡ Some x → test x ≡ true
all-entry test [] zero x h e = absurd (none-some x e)
all-entry test [] (suc k) x h e = absurd (none-some x e)
all-entry test (y ∷ xs) zero x h e = ap test (sym (same-some y x e)) ∙ one (test y) (list_all test xs) h
all-entry test (y ∷ xs) (suc k) x h e = all-entry test xs k x (other (test y) (list_all test xs) h) e

pub map-front : {A B : Type 0} (f : A → B) (xs : List A) (ys : List B) (q : ℕ) (x : A) → slice_get xs q ≡ Some x → slice_get (map f xs ++ ys) q ≡ Some (f x)
map-front f [] ys zero x e = absurd (none-some x e)
map-front f [] ys (suc q) x e = absurd (none-some x e)
map-front f (z ∷ xs) ys zero x e = ap (λ y. Some (f y)) (same-some z x e)
map-front f (z ∷ xs) ys (suc q) x e = map-front f xs ys q x e

map-found : {A B : Type 0} (f : A → B) (xs : List A) (q : ℕ) (y : B) → slice_get (map f xs) q ≡ Some y → (x : A) × (slice_get xs q ≡ Some x) × (f x ≡ y)
map-found f [] zero y e = absurd (none-some y e)
map-found f [] (suc q) y e = absurd (none-some y e)
map-found f (x ∷ xs) zero y e = (x, refl, same-some (f x) y e)
map-found f (x ∷ xs) (suc q) y e = map-found f xs q y e

-- ---- cells

pub one-size : (x : CellPins) (v : CellView) → driving x ≡ driving_of v → pin_count x ≡ length v.pins + length v.pgs
one-size x v e =
    let left = length-map x.signals (λ (y : Signal). y.drives) in
    let right = length-map v.pins is_output_pin in
    let pgs = length-map v.pgs (λ (g : PgPinView). is_some g.switched) in
    let firsts = ap (λ (y : Driving). length y.0) e in
    let seconds = ap (λ (y : Driving). length y.1) e in
    omega (arith, left, right, pgs, firsts, seconds)

length-pins : (s : Structure) (cells : List CellPins) → AreCells s cells → (c : ℕ) → pin_count (cell_pins cells c) ≡ row_size (slice_get s.cells c)
length-pins s cells same c = by cells s.cells c same
  where
    by : (xs : List CellPins) (vs : List CellView) (k : ℕ) → map driving xs ≡ map driving_of vs → pin_count (get_or xs k no_pins) ≡ row_size (slice_get vs k)
    by [] [] zero e = refl
    by [] [] (suc k) e = refl
    by [] (v ∷ vs) k e = absurd (nil-cons (driving_of v) (map driving_of vs) e)
      where
        nil-cons : (d : Driving) (ds : List Driving) → [] ≡ d ∷ ds → ⊥
        nil-cons d ds h = cc
    by (x ∷ xs) [] k e = absurd (cons-nil (driving x) (map driving xs) e)
      where
        cons-nil : (d : Driving) (ds : List Driving) → d ∷ ds ≡ [] → ⊥
        cons-nil d ds h = cc
    by (x ∷ xs) (v ∷ vs) zero e = one-size x v (heads-same (driving x) (driving_of v) (map driving xs) (map driving_of vs) e)
    by (x ∷ xs) (v ∷ vs) (suc k) e = by xs vs k (tails-same (driving x) (driving_of v) (map driving xs) (map driving_of vs) e)

module _ (texts : List (List ℕ)) (p : Project) (from : Way → Node) (cells : List CellPins) (t : Tables) (elaborated : Elaborates texts p.structure t)
    (library : AreCells p.structure cells) (sound : IsSound (net_of cells t)) where
  abbrev rep : Represents p.structure (keys_of p.structure) t
  rep = elaborated.represents

  abbrev keyed : Keyed
  keyed = keys_of p.structure

  abbrev spots : Spots
  spots = spots_of p.structure

  abbrev net : Net
  net = net_of cells t

  spot-of : (k : ℕ) → spot_at spots k ≡ OfNode (node_at keyed k)
  spot-of k = spot-is p from cells t rep k

  node-there : (k : ℕ) → k < length t.nodes → slice_get spots.nodes k ≡ Some (OfNode (node_at keyed k))
  node-there k low = slice_get-get_or spots.nodes k (OfNode (Fixed false)) (let size = nodes-begun p from cells t rep in omega (arith, low, size)) ∙ ap (λ x. Some x) (spot-of k)

  lead-low : (e : ℕ) (r : EdgeRow) → slice_get t.edges e ≡ Some r → r.to.0 < length t.nodes
  lead-low e r row = ltb-true r.to.0 (length t.nodes) (other (has_node t r.from) (nat_lt r.to.0 (length t.nodes)) (all-entry (λ (x : EdgeRow). has_node t x.from && nat_lt x.to.0 (length t.nodes)) t.edges e r rep.closed.edges row))

  heads-begun : map (slice_get spots.nodes) net.heads ≡ map (λ (y : Edge). Some (OfNode y.to)) (edges_of p.structure)
  heads-begun =
      map-map (slice_get spots.nodes) (λ (x : EdgeRow). x.to.0) t.edges
      ∙ (map-by t.edges (λ e r row. node-there r.to.0 (lead-low e r row))
      ∙ (sym (map-map (λ (z : Ends). Some (OfNode z.1)) (row_ends keyed) t.edges)
      ∙ (ap (map (λ (z : Ends). Some (OfNode z.1))) elaborated.edges
      ∙ map-map (λ (z : Ends). Some (OfNode z.1)) edge_ends (edges_of p.structure))))
    where
      map-by : (xs : List EdgeRow) → ((e : ℕ) (r : EdgeRow) → slice_get xs e ≡ Some r → slice_get spots.nodes r.to.0 ≡ Some (OfNode (node_at keyed r.to.0)))
          → map (λ (x : EdgeRow). slice_get spots.nodes x.to.0) xs ≡ map (λ (x : EdgeRow). Some (OfNode (node_at keyed x.to.0))) xs
      map-by [] each = refl
      map-by (x ∷ xs) each = (λ i. each zero x refl i ∷ map-by xs (λ e r row. each (suc e) r row) i)

  leaf-entry : (l : ℕ) (a : Placed) → slice_get (cell_instances p.structure) l ≡ Some a → (x : Leaf) × (slice_get t.leaves l ≡ Some x) × (slice_get p.structure.cells x.cell.0 ≡ cell_at p.structure a.path a.instance)
  leaf-entry l a e = entry-of (λ (x : Leaf). slice_get p.structure.cells x.cell.0) (λ (b : Placed). cell_at p.structure b.path b.instance) t.leaves (cell_instances p.structure) l a rep.cells e

  cells-begun : (l : ℕ) (c : Cell) → slice_get spots.leaves l ≡ Some c → view_at p.structure net l ≡ cell_of_key p nothing_done c
  cells-begun l c e =
      let key = source-entry (cell_instances p.structure) l c e in
      let found = leaf-entry l key.0 key.1 in
      ap (option_and_then (λ (x : Leaf). slice_get p.structure.cells x.cell.0)) found.1 ∙ (found.2 ∙ ap (cell_of_key p nothing_done) (sym key.2))

  instance-count : length t.instances ≡ length (module_instances p.structure)
  instance-count = sym (length-map t.instances (λ (x : Inst). slice_get p.structure.modules x.module)) ∙ (ap length elaborated.modules ∙ length-map (module_instances p.structure) (module_at p.structure))

  places-begun : (l : ℕ) (c : Cell) (x : Leaf) → slice_get spots.leaves l ≡ Some c → slice_get net.leaves l ≡ Some x → slice_get (module_instances p.structure) x.inst.0 ≡ path_of_key nothing_done c
  places-begun l c x e row =
      let key = source-entry (cell_instances p.structure) l c e in
      let found = entry-of (placed_key texts (module_instances p.structure)) (λ (a : Placed). a) t.leaves (cell_instances p.structure) l key.0 (elaborated.leaves ∙ sym (map-same (cell_instances p.structure))) key.1 in
      let same : x ≡ found.0 = same-some x found.0 (sym row ∙ found.1) in
      let low = ltb-true x.inst.0 (length t.instances) (all-entry (λ (y : Leaf). nat_lt y.inst.0 (length t.instances)) t.leaves l x rep.closed.leaves row) in
      slice_get-get_or (module_instances p.structure) x.inst.0 [] (omega (arith, low, instance-count))
      ∙ (ap (λ (y : Leaf). Some (get_or (module_instances p.structure) y.inst.0 [])) same
      ∙ (ap (λ (a : Placed). Some a.path) found.2 ∙ ap (path_of_key nothing_done) (sym key.2)))
    where
      map-same : (xs : List Placed) → map (λ (a : Placed). a) xs ≡ xs
      map-same [] = refl
      map-same (y ∷ ys) = ap (λ zs. y ∷ zs) (map-same ys)

  pin-is : (z : PinNet) (y : Node) → pin_key keyed z ≡ Some y → pin_spot spots z ≡ Some (OfNode y)
  pin-is Unconnected y e = absurd (none-some y e)
  pin-is (PinConst b) y e = ap (λ v. Some (OfNode v)) (same-some (Fixed b) y e)
  pin-is (PinNode k) y e = ap (λ v. Some v) (spot-of k.0) ∙ ap (λ v. Some (OfNode v)) (same-some (node_at keyed k.0) y e)

  reads-begun : (l q : ℕ) (x : Placed) (name : Name) → slice_get spots.leaves l ≡ Some (OfSource x) → name_of_pin (view_at p.structure net l) q ≡ Some name
      → (y : Node) → joined_at p.structure x name ≡ Some y → pin_spot spots (pin_at net l q) ≡ Some (OfNode y)
  reads-begun l q x name e called y joined = by (slice_get p.structure.cells found.0.cell.0) refl
    where
      key : (a : Placed) × (slice_get (cell_instances p.structure) l ≡ Some a) × (OfSource x ≡ OfSource a)
      key = source-entry (cell_instances p.structure) l (OfSource x) e

      there : slice_get (cell_instances p.structure) l ≡ Some x
      there = key.1 ∙ ap (λ a. Some a) (sym (same-source x key.0 key.2))
        where
          source_in : Cell → Placed → Placed
          source_in (OfSource a) b = a
          source_in _ b = b

          same-source : (a b : Placed) → OfSource a ≡ OfSource b → a ≡ b
          same-source a b h = ap (λ c. source_in c a) h

      found : (z : Leaf) × (slice_get t.leaves l ≡ Some z) × (map (pin_key keyed) (row_of p.structure t z) ≡ nodes_at_pins p.structure x (cell_at p.structure x.path x.instance))
      found = entry-of (λ (z : Leaf). map (pin_key keyed) (row_of p.structure t z)) (λ (a : Placed). nodes_at_pins p.structure a (cell_at p.structure a.path a.instance)) t.leaves (cell_instances p.structure) l x rep.pins there

      view-is : view_at p.structure net l ≡ slice_get p.structure.cells found.0.cell.0
      view-is = ap (option_and_then (λ (z : Leaf). slice_get p.structure.cells z.cell.0)) found.1

      cell-is : slice_get p.structure.cells found.0.cell.0 ≡ cell_at p.structure x.path x.instance
      cell-is = sym view-is ∙ (cells-begun l (OfSource x) e)

      row-is : get_or (map (row_at cells t.pins) t.leaves) l [] ≡ row_of p.structure t found.0
      row-is = map-at (row_at cells t.pins) t.leaves l found.0 [] found.1 ∙ ap (λ m. take m (drop found.0.start t.pins)) (length-pins p.structure cells library found.0.cell.0)

      with-name : (c : CellView) (o : Option PinView) → slice_get c.pins q ≡ o → option_and_then (λ (v : PinView). Some v.name) o ≡ Some name → (v : PinView) × (slice_get c.pins q ≡ Some v) × (v.name ≡ name)
      with-name c None g h = absurd (none-some name h)
      with-name c (Some v) g h = (v, g, same-some v.name name h)

      by : (c : Option CellView) → slice_get p.structure.cells found.0.cell.0 ≡ c → pin_spot spots (pin_at net l q) ≡ Some (OfNode y)
      by None g = absurd (none-some name (sym (ap (λ c. name_of_pin c q) (view-is ∙ g)) ∙ called))
      by (Some c) g =
          let pin = with-name c (slice_get c.pins q) refl (sym (ap (λ c. name_of_pin c q) (view-is ∙ g)) ∙ called) in
          let nodes = ap (nodes_at_pins p.structure x) (sym cell-is ∙ g) in
          let entry = ap (λ row. slice_get row q) (found.2 ∙ nodes) ∙ map-front (λ (v : PinView). joined_at p.structure x v.name) c.pins (map (λ (v : PgPinView). joined_at p.structure x v.name) c.pgs) q pin.0 pin.1 in
          let pinned = map-found (pin_key keyed) (row_of p.structure t found.0) q (Some y) (entry ∙ ap (λ o. Some o) (ap (joined_at p.structure x) pin.2 ∙ joined)) in
          ap (λ (row : List PinNet). pin_spot spots (get_or row q Unconnected)) row-is
          ∙ (ap (pin_spot spots) (get_or_from_slice_get (row_of p.structure t found.0) q pinned.0 Unconnected pinned.1) ∙ pin-is pinned.0 y pinned.2)

  apart-begun : (j k : ℕ) (x : Spot) → slice_get spots.nodes j ≡ Some x → slice_get spots.nodes k ≡ Some x → j ≡ k
  apart-begun j k x one_ two =
      let low = slice_get_within spots.nodes j x one_ in
      let high = slice_get_within spots.nodes k x two in
      let size = length-map (nodes_of p.structure) (λ k. OfNode k) in
      apart-at (nodes_of p.structure) j k (Fixed false) (Fixed false) elaborated.apart.nodes (omega (arith, low, size)) (omega (arith, high, size))
      (ap node_in (sym (open-slice p from cells t rep j x one_) ∙ open-slice p from cells t rep k x two))
    where
      node_in : Spot → Node
      node_in (OfNode y) = y
      node_in _ = Fixed false

  there-begun : (k : ℕ) (x : Spot) → slice_get spots.nodes k ≡ Some x → is_there p nothing_done from x ≡ true
  there-begun k x e =
      let low = slice_get_within spots.nodes k x e in
      let size = length-map (nodes_of p.structure) (λ k. OfNode k) in
      ap (is_there p nothing_done from) (open-slice p from cells t rep k x e) ∙ list-at is_net_bit (nodes_of p.structure) k (Fixed false) elaborated.apart.net_bits (omega (arith, low, size))

  done-begun : (l : ℕ) (c : Cell) → slice_get spots.leaves l ≡ Some c → is_done nothing_done c ≡ true
  done-begun l c e = ap (is_done nothing_done) (source-entry (cell_instances p.structure) l c e).2

  edges-begun : (e : ℕ) (y : Edge) → slice_get (edges_of p.structure) e ≡ Some y → IsEdgeHeld nothing_done spots y (edge_at net e)
  edges-begun e y there =
      let found = entry-of (row_ends keyed) edge_ends t.edges (edges_of p.structure) e y elaborated.edges there in
      record {
        row = found.0;
        there = found.1;
        starts = from-is p from cells t rep found.0.from ∙ ap (λ (z : Ends). OfNode z.0) found.2;
        leads = node-there found.0.to.0 (lead-low e found.0 found.1) ∙ ap (λ (z : Ends). Some (OfNode z.1)) found.2;
        kind = ap (λ (z : Ends). z.2) found.2;
      }

  pub begun : Holds p from nothing_done spots net
  begun = record {
    sound = sound;
    library = library;
    instances = instance-count;
    nodes = nodes-begun p from cells t rep;
    leaves = leaves-begun p from cells t rep;
    kept = rep.count;
    added = [];
    own = sym (append-none spots.nodes);
    apart = apart-begun;
    there = there-begun;
    done = done-begun;
    drives = drives-all p from cells t rep;
    heads = heads-begun;
    edges = edges-begun;
    views = cells-begun;
    places = places-begun;
    reads = reads-begun;
    takes = λ l q k w o y there. absurd (no-operator p from cells t rep (cell_instances p.structure) l w k there);
  }
    where
      append-none : (xs : List Spot) → xs ++ [] ≡ xs
      append-none [] = refl
      append-none (x ∷ xs) = ap (λ r. x ∷ r) (append-none xs)
