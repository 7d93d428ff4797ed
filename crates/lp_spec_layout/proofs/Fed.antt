-- The feeds of all module instances mean the drives of the design.
use Rattle.std.proofs.Common.{◌≡◌, ◌<◌, ◌≤◌, ◌+◌, ℕ, zero, suc, Bool, true, false, List, [], ◌∷◌, ◌++◌, map, length, take, Option, Some, None, inl, inr, refl, sym, ap, ◌∙◌, subst, arith}
use Rattle.std.specs.Prelude.{filter, flat_map, bytes_eq, is_some, option_and_then, unwrap_or, if◌then◌else◌, slice_get}
use Rattle.std.proofs.lemmas.List.{map-append}
use Rattle.std.proofs.lemmas.Option.{slice_get_within}
use Rattle.lp_model.specs.declared.graph.EdgeKind.TheVariants.{In, Out, Assign}
use Rattle.lp_model.specs.declared.graph.Leaf.{Leaf}
use Rattle.lp_model.specs.NetlistView.{PortView, NetView, InstanceView, ModuleView}
use Rattle.lp_model.specs.LibraryView.{CellView}
use Rattle.lp_spec_design.specs.Keys.{Path, Node, Inner}
use Rattle.lp_spec_design.specs.Netlists.{Structure, first, module_at, module_named, cell_at, cell_named, instance_named, indices, is_input, node_of}
use Rattle.lp_spec_design.specs.Instances.{Placed, below, module_instances, cell_instances}
use Rattle.lp_spec_design.specs.Graph.{some_of, numbered}
use Rattle.lp_spec_design.specs.Nodes.{nodes_in, inner_nodes, outer_in, nodes_of}
use Rattle.lp_spec_design.specs.Winners.{IsIn}
use Rattle.lp_spec_design.specs.Reads.{name-true, name-self}
use Rattle.lp_spec_design.proofs.Members.{in-map}
use Rattle.lp_spec_bridge.specs.Tables.{Tables}
use Rattle.lp_spec_bridge.specs.Edges.{connected_drives, port_drives, target_drives, instance_drives, assign_drives, drives_in, outer_drives, drives_of, edges_of}
use Rattle.lp_spec_bridge.specs.Keyed.{IsApart, keys_of}
use Rattle.lp_spec_bridge.specs.Represents.{outputs_in, cell_of}
use Rattle.lp_spec_bridge.specs.Elaborates.{row_ends, edge_ends}
use Rattle.lp_spec_bridge.specs.Driven.{JoinsSingleBits}
use Rattle.lp_spec_bridge.specs.Names.{HasNamesApart}
use Rattle.lp_spec_bridge.specs.Templates.{bits_in, start_of}
use Rattle.lp_spec_bridge.specs.Kept.{AreDrives}
use Rattle.lp_spec_bridge.proofs.Distinct.{module-in}
use Rattle.lp_spec_bridge.proofs.Templates.{bits-nodes, starts-at}
use Rattle.lp_spec_layout.specs.Parts.{Statement, OfModule, OfCell, Template, statements_of, assigns_of, input_pairs, output_pairs, assign_pairs, IsJoined, driving_pins, IsStatement, AreStatements}
use Rattle.lp_spec_layout.specs.Sites.{Spot, Site, Layout, StandsInside, IsPlaced, ArePlaced, StandsAt, port_bits, IsSited}
use Rattle.lp_spec_layout.specs.Feeds.{joint_feed, row_feeds, statement_feeds, child_inputs, inside_feeds, top_feed, input_feeds, feeds_at, outer_feed, feeds, drive_rows, edge_rows}
use Rattle.lp_spec_layout.specs.Laws.{HasCells}
use Rattle.lp_spec_layout.proofs.Lists.{get-left, get-right, get-map, get-in, Has, has-all, has-head, has-tail, flat-entry, flat-equal}
use Rattle.lp_spec_layout.proofs.Numbered.{drive_meant, feed_meant, rows-mean, rows-within, edges-mean}
use Rattle.lp_spec_layout.proofs.Joints.{BitsAt, pair_meant, joints-mean, inputs-mean, outputs-mean, assigns-mean}
use Rattle.lp_spec_layout.proofs.Pins.{row-mean}
use Rattle.lp_spec_layout.proofs.Outside.{PortPlace, places_in, places-map, inner_place, outer_place, top-inputs-mean, top-outers-mean}

-- ---- nodes by number

module _ (s : Structure) where
  -- the bits of an instance's module are nodes from its first one on
  pub nodes-from : (k : ℕ) (p : Path) (m : ModuleView) → slice_get (module_instances s) k ≡ Some p → module_at s p ≡ Some m → Has (nodes_of s) (start_of s k) (nodes_in p (Some m))
  unfolding inner_nodes
  nodes-from k p m at is j n h =
      let within : k < length (module_instances s) = slice_get_within (module_instances s) k p at in
      let before = length (flat_map (λ q. nodes_in q (module_at s q)) (take k (module_instances s))) in
      let start : start_of s k ≡ length (flat_map (λ q. nodes_in q (module_at s q)) (take k (module_instances s))) = omega (arith, starts-at s 0 (module_instances s) k within) in
      let entry : slice_get (nodes_in p (module_at s p)) j ≡ Some n = ap (λ o. slice_get (nodes_in p o) j) is ∙ h in
      ap (λ i. slice_get (nodes_of s) (i + j)) start
      ∙ get-left (flat_map (λ q. nodes_in q (module_at s q)) (module_instances s)) (outer_in (module_at s [])) (before + j) n (flat-entry (λ q. nodes_in q (module_at s q)) (module_instances s) k p j n at entry)

  pub bits-from : (k : ℕ) (p : Path) (m : ModuleView) → slice_get (module_instances s) k ≡ Some p → module_at s p ≡ Some m → BitsAt (keys_of s) p m (start_of s k)
  bits-from k p m at is j b h = nodes-from k p m at is j (node_of p b) (ap (λ (xs : List Node). slice_get xs j) (sym (bits-nodes p m)) ∙ get-map (node_of p) (bits_in m) j b h)

  pub first-below : (depth : ℕ) (p : Path) → 1 ≤ depth → slice_get (below s depth p) 0 ≡ Some p
  first-below zero p h = absurd (omega (arith, h))
  first-below (suc depth) p h = refl

  -- the top is the first instance
  pub first-instance : slice_get (module_instances s) 0 ≡ Some []
  unfolding module_instances
  first-instance = first-below 64 [] (omega arith)

  outer-at : (j : ℕ) → slice_get (nodes_of s) (length (inner_nodes s) + j) ≡ slice_get (outer_in (module_at s [])) j
  outer-at j = get-right (inner_nodes s) (outer_in (module_at s [])) j

  start-first : start_of s 0 ≡ 0
  start-first =
      let within : 0 < length (module_instances s) = slice_get_within (module_instances s) 0 [] first-instance in
      omega (arith, starts-at s 0 (module_instances s) 0 within)

  -- the top's port bits on both sides
  both-sides : (m : ModuleView) → module_at s [] ≡ Some m → (j : ℕ) (z : PortPlace) → slice_get (places_in m.ports) j ≡ Some z
      → (slice_get (nodes_of s) (0 + j) ≡ Some (inner_place z)) × (slice_get (nodes_of s) (length (inner_nodes s) + (0 + j)) ≡ Some (outer_place z))
  both-sides m is j z h =
      let ports = flat_map (λ (x : PortView). map (λ i. Inner x.name i []) (indices x.range)) m.ports in
      let nets = flat_map (λ (x : NetView). map (λ i. Inner x.name i []) (indices x.range)) m.nets in
      let inner : slice_get (nodes_in [] (Some m)) j ≡ Some (inner_place z) =
      get-left ports nets j (inner_place z) (ap (λ (xs : List Node). slice_get xs j) (sym (places-map inner_place m.ports)) ∙ get-map inner_place (places_in m.ports) j z h) in
      let outer : slice_get (outer_in (Some m)) j ≡ Some (outer_place z) = ap (λ (xs : List Node). slice_get xs j) (sym (places-map outer_place m.ports)) ∙ get-map outer_place (places_in m.ports) j z h in
      let place : 0 + j ≡ j = omega arith in (
        ap (λ i. slice_get (nodes_of s) (i + j)) (sym start-first) ∙ nodes-from 0 [] m first-instance is j (inner_place z) inner,
        outer-at (0 + j) ∙ ap (slice_get (outer_in (module_at s []))) place ∙ ap (λ o. slice_get (outer_in o) j) is ∙ outer,
      )

-- ---- what a path names

first-named : (ys : List InstanceView) (y : InstanceView) → IsApart (map (λ (x : InstanceView). x.name) ys) → IsIn y ys → first (λ (i : InstanceView). bytes_eq i.name y.name) ys ≡ Some y
first-named [] y apart h = absurd h
first-named (z ∷ zs) y apart (inl is) =
    let named : bytes_eq z.name y.name ≡ true = ap (λ n. bytes_eq z.name n) (ap (λ (x : InstanceView). x.name) is) ∙ name-self z.name in
    ap (λ b. if b then Some z else first (λ (i : InstanceView). bytes_eq i.name y.name) zs) named ∙ ap (λ x. Some x) (sym is)
first-named (z ∷ zs) y apart (inr h) = by (bytes_eq z.name y.name) refl (first-named zs y apart.1 h)
  where
    by : (b : Bool) → bytes_eq z.name y.name ≡ b → first (λ (i : InstanceView). bytes_eq i.name y.name) zs ≡ Some y → (if b then Some z else first (λ (i : InstanceView). bytes_eq i.name y.name) zs) ≡ Some y
    by true f more = absurd (apart.0 (subst (λ n. IsIn n (map (λ (x : InstanceView). x.name) zs)) (sym (name-true z.name y.name f)) (in-map (λ (x : InstanceView). x.name) y zs h)))
    by false f more = more

-- what is a cell is no module
pub no-module : (o : Option ModuleView) (c : Option CellView) (x : CellView) → (if is_some o then None else c) ≡ Some x → o ≡ None
no-module None c x e = refl
no-module (Some m) c x e = absurd cc

module _ {A B C : Type 0} (f : A → Option C) (g : B → Option C) where
  map-entry : (xs : List A) (ys : List B) (k : ℕ) (b : B) → map f xs ≡ map g ys → slice_get ys k ≡ Some b → option_and_then f (slice_get xs k) ≡ g b
  map-entry [] [] k b same h = absurd cc
  map-entry [] (y ∷ ys) k b same h = absurd cc
  map-entry (x ∷ xs) [] k b same h = absurd cc
  map-entry (x ∷ xs) (y ∷ ys) zero b same h =
      let here : f x ≡ g y = cc in
      let is : y ≡ b = cc in
      here ∙ ap g is
  map-entry (x ∷ xs) (y ∷ ys) (suc k) b same h = let later : map f xs ≡ map g ys = cc in map-entry xs ys k b later h

two-parts : {A B C : Type 0} (f : A → C) (g : B → C) (a b : List A) (c d : List B) → map f a ≡ map g c → map f b ≡ map g d → map f (a ++ b) ≡ map g (c ++ d)
two-parts f g a b c d e h = map-append f a b ∙ ap (λ r. r ++ map f b) e ∙ ap (λ r. map g c ++ r) h ∙ sym (map-append g c d)

module _ (s : Structure) (names : HasNamesApart s) where
  pub named-at : (p : Path) (m : ModuleView) (y : InstanceView) → module_at s p ≡ Some m → IsIn y m.instances → instance_named m y.name ≡ Some y
  named-at p m y is member = first-named m.instances y (names.instances m (module-in s p m is)) member

  pub path-child : (p : Path) (m : ModuleView) (y : InstanceView) → module_at s p ≡ Some m → IsIn y m.instances → module_at s (y.name ∷ p) ≡ module_named s y.target
  path-child p m y is member =
      ap (option_and_then (λ (m : ModuleView). option_and_then (λ (x : InstanceView). module_named s x.target) (instance_named m y.name))) is
      ∙ ap (option_and_then (λ (x : InstanceView). module_named s x.target)) (named-at p m y is member)

  pub path-cell : (p : Path) (m : ModuleView) (y : InstanceView) → module_at s p ≡ Some m → IsIn y m.instances → cell_at s p y.name ≡ cell_named s y.target
  path-cell p m y is member =
      ap (option_and_then (λ (m : ModuleView). option_and_then (λ (x : InstanceView). cell_named s x.target) (instance_named m y.name))) is
      ∙ ap (option_and_then (λ (x : InstanceView). cell_named s x.target)) (named-at p m y is member)

-- the statement at a place
pub record HasStatement (s : Structure) (m : ModuleView) (zs : List Statement) (y : InstanceView) (k : ℕ) : Type 0 where
  pub statement : Statement
  pub at : slice_get zs k ≡ Some statement
  pub is : IsStatement s m y statement

pub statement-at : (s : Structure) (m : ModuleView) (ys : List InstanceView) (zs : List Statement) (k : ℕ) (y : InstanceView) → AreStatements s m ys zs → slice_get ys k ≡ Some y → HasStatement s m zs y k
statement-at s m [] zs k y r h = absurd cc
statement-at s m (x ∷ ys) [] k y r h = absurd r
statement-at s m (x ∷ ys) (z ∷ zs) zero y r h = let is : x ≡ y = cc in record { statement = z; at = refl; is = subst (λ (w : InstanceView). IsStatement s m w z) is r.0 }
statement-at s m (x ∷ ys) (z ∷ zs) (suc k) y r h =
    let more = statement-at s m ys zs k y r.1 h in
    record { statement = more.statement; at = more.at; is = more.is }

-- ---- all instances

module _ (s : Structure) (t : Tables) (names : HasNamesApart s) (single : JoinsSingleBits s) (cells : HasCells s t) where
  leaf-cell : (k : ℕ) (a : Placed) → slice_get (cell_instances s) k ≡ Some a → cell_of s t k ≡ cell_at s a.path a.instance
  leaf-cell k a h = map-entry (λ (l : Leaf). slice_get s.cells l.cell.0) (λ (a : Placed). cell_at s a.path a.instance) t.leaves (cell_instances s) k a cells h

  module _ (i : ℕ) (p : Path) (m : ModuleView) (x : Site) (is : module_at s p ≡ Some m) (bits : BitsAt (keys_of s) p m x.start) where
    one-statement : (y : InstanceView) (z : Statement) → IsIn y m.instances → IsStatement s m y z → IsPlaced s i p x y z → map (feed_meant s (keys_of s) t) (statement_feeds s.cells x z) ≡ map drive_meant (instance_drives s p y)
    one-statement y (OfModule c) member r at =
        let inside : module_at s (y.name ∷ p) ≡ Some r.inner = path-child s names p m y is member ∙ r.is_inner in
        let bits2 : BitsAt (keys_of s) (y.name ∷ p) r.inner (x.start + c.before.bits) = subst (λ n. BitsAt (keys_of s) (y.name ∷ p) r.inner n) at.1 (bits-from s (i + c.before.instances) (y.name ∷ p) r.inner at.0 inside) in
        joints-mean s (keys_of s) t p (y.name ∷ p) m r.inner x.start (x.start + c.before.bits) Out bits bits2 (output_pairs y r.inner) c.outputs r.outputs
        ∙ sym (outputs-mean p y r.inner)
        ∙ ap (λ o. map drive_meant (target_drives p y o (cell_named s y.target))) (sym r.is_inner)
    one-statement y (OfCell c) member r at =
        let a : Placed = record { path = p; instance = y.name } in
        let none : module_named s y.target ≡ None = no-module (module_named s y.target) (first (λ (c : CellView). bytes_eq c.name y.target) s.cells) r.cell r.is_cell in
        let cell : cell_of s t (x.leaf + c.before) ≡ Some r.cell = leaf-cell (x.leaf + c.before) a at ∙ path-cell s names p m y is member ∙ r.is_cell in
        ap (λ o. map (feed_meant s (keys_of s) t) (row_feeds (driving_pins o) x.start (x.leaf + c.before) c.row)) r.has_cell
        ∙ row-mean s (keys_of s) t p m x.start (x.leaf + c.before) bits y r.cell c.row r.resolved r.drives (λ q h. single.pins p m y r.cell q is member r.is_cell h) (λ g h. single.pgs p m y r.cell g is member r.is_cell h)
        (λ j v h.
        ap (option_and_then (λ (b : Placed). slice_get (outputs_in b (cell_of s t (x.leaf + c.before))) j)) at
        ∙ ap (λ o. slice_get (outputs_in (record { path = p; instance = y.name }) o) j) cell
        ∙ h)
        ∙ ap (λ o. map drive_meant (target_drives p y o (Some r.cell))) (sym none)
        ∙ ap (λ o. map drive_meant (target_drives p y (module_named s y.target) o)) (sym r.is_cell)

    statements-mean : (ys : List InstanceView) (zs : List Statement) → ((y : InstanceView) → IsIn y ys → IsIn y m.instances) → AreStatements s m ys zs → ArePlaced s i p x ys zs
        → map (feed_meant s (keys_of s) t) (flat_map (statement_feeds s.cells x) zs) ≡ map drive_meant (flat_map (instance_drives s p) ys)
    statements-mean [] [] members r at = refl
    statements-mean [] (z ∷ zs) members r at = absurd r
    statements-mean (y ∷ ys) [] members r at = absurd r
    statements-mean (y ∷ ys) (z ∷ zs) members r at =
        two-parts (feed_meant s (keys_of s) t) drive_meant (statement_feeds s.cells x z) (flat_map (statement_feeds s.cells x) zs) (instance_drives s p y) (flat_map (instance_drives s p) ys)
        (one-statement y z (members y (inl refl)) r.0 at.0) (statements-mean ys zs (λ w h. members w (inr h)) r.1 at.1)

  port-is : (q : Path) (m : ModuleView) (y : InstanceView) (inner : ModuleView) (port : PortView) → module_at s q ≡ Some m → instance_named m y.name ≡ Some y → module_named s y.target ≡ Some inner → port_drives s (y.name ∷ q) port ≡ connected_drives (y.name ∷ q) port y inner
  port-is q m y inner port a b c =
      ap (λ o. unwrap_or (option_and_then (λ (outer : ModuleView). option_and_then (λ (x : InstanceView). option_and_then (λ (inner : ModuleView). Some (connected_drives (y.name ∷ q) port x inner)) (module_named s x.target)) (instance_named outer y.name)) o) []) a
      ∙ ap (λ o. unwrap_or (option_and_then (λ (x : InstanceView). option_and_then (λ (inner : ModuleView). Some (connected_drives (y.name ∷ q) port x inner)) (module_named s x.target)) o) []) b
      ∙ ap (λ o. unwrap_or (option_and_then (λ (inner : ModuleView). Some (connected_drives (y.name ∷ q) port y inner)) o) []) c

  module _ (l : Layout) (sited : IsSited s l) where
    site-bits : (i : ℕ) (p : Path) (w : StandsAt s l i p) → slice_get (module_instances s) i ≡ Some p → BitsAt (keys_of s) p w.of w.site.start
    site-bits i p w at = subst (λ n. BitsAt (keys_of s) p w.of n) (sym w.start) (bits-from s i p w.of at w.is_of)

    -- the input ports, by the statement outside
    child-mean : (p q : Path) (y : InstanceView) (inner m : ModuleView) (start start2 : ℕ) → p ≡ y.name ∷ q → module_at s q ≡ Some m → IsIn y m.instances → module_named s y.target ≡ Some inner → BitsAt (keys_of s) p inner start → BitsAt (keys_of s) q m start2
        → (z : Statement) → IsStatement s m y z → map (feed_meant s (keys_of s) t) (map (joint_feed start start2 In) (child_inputs (Some z))) ≡ map drive_meant (flat_map (port_drives s p) (filter is_input inner.ports))
    child-mean p q y inner m start start2 path is member named bits bits2 (OfCell c) r =
        let none : module_named s y.target ≡ None = no-module (module_named s y.target) (first (λ (c : CellView). bytes_eq c.name y.target) s.cells) r.cell r.is_cell in
        let no : None ≡ Some inner = sym none ∙ named in
        absurd cc
    child-mean p q y inner m start start2 path is member named bits bits2 (OfModule c) r =
        let found : Some r.inner ≡ Some inner = sym r.is_inner ∙ named in
        let same : r.inner ≡ inner = cc in
        let joined : IsJoined inner m (input_pairs y inner) c.inputs = subst (λ (w : ModuleView). IsJoined w m (input_pairs y w) c.inputs) same r.inputs in
        joints-mean s (keys_of s) t p q inner m start start2 In bits bits2 (input_pairs y inner) c.inputs joined
        ∙ ap (λ w. map (pair_meant w q In) (input_pairs y inner)) path
        ∙ sym (inputs-mean q y inner)
        ∙ ap (map drive_meant) (sym (flat-equal (port_drives s (y.name ∷ q)) (λ port. connected_drives (y.name ∷ q) port y inner) (filter is_input inner.ports) (λ port. port-is q m y inner port is (named-at s names q m y is member) named)))
        ∙ ap (λ w. map drive_meant (flat_map (port_drives s w) (filter is_input inner.ports))) (sym path)

    -- the statement outside, by its instance and its place
    inside-is : (x : Site) (j place : ℕ) (outer : Site) (template : Template) (z : Statement) → slice_get l.sites j ≡ Some outer → slice_get l.templates outer.of ≡ Some template → slice_get template.statements place ≡ Some z
        → inside_feeds l.templates x place (slice_get l.sites j) ≡ map (joint_feed x.start outer.start In) (child_inputs (Some z))
    inside-is x j place outer template z a b c =
        ap (inside_feeds l.templates x place) a
        ∙ ap (λ o. map (joint_feed x.start outer.start In) (child_inputs (slice_get (statements_of o) place))) b
        ∙ ap (λ o. map (joint_feed x.start outer.start In) (child_inputs o)) c

    spot-inputs : (p q : Path) (y : InstanceView) (inner m : ModuleView) (x outer : Site) (template : Template) (spot : Spot) (z : Statement) → slice_get l.sites spot.0 ≡ Some outer → slice_get l.templates outer.of ≡ Some template → slice_get template.statements spot.1 ≡ Some z
        → p ≡ y.name ∷ q → module_at s q ≡ Some m → IsIn y m.instances → module_named s y.target ≡ Some inner → BitsAt (keys_of s) p inner x.start → BitsAt (keys_of s) q m outer.start → IsStatement s m y z
        → map (feed_meant s (keys_of s) t) (input_feeds l x (Some spot)) ≡ map drive_meant (flat_map (port_drives s p) (filter is_input inner.ports))
    spot-inputs p q y inner m x outer template spot z a b c path is member named bits bits2 r =
        ap (map (feed_meant s (keys_of s) t)) (inside-is x spot.0 spot.1 outer template z a b c) ∙ child-mean p q y inner m x.start outer.start path is member named bits bits2 z r

    inputs-at : (i : ℕ) (p : Path) (w : StandsAt s l i p) → slice_get (module_instances s) i ≡ Some p → (o : Option Spot) → StandsInside s p o → map (feed_meant s (keys_of s) t) (input_feeds l w.site o) ≡ map drive_meant (flat_map (port_drives s p) (filter is_input w.of.ports))
    inputs-at i p w at None e =
        let is : module_at s [] ≡ Some w.of = ap (module_at s) (sym e) ∙ w.is_of in
        let both : Some sited.top ≡ Some w.of = sym sited.is_top ∙ is in
        let same : sited.top ≡ w.of = cc in
        ap (λ bs. map (feed_meant s (keys_of s) t) (some_of (top_feed l.inner) (numbered 0 bs))) (sited.ports ∙ ap port_bits same)
        ∙ ap (λ n. map (feed_meant s (keys_of s) t) (some_of (top_feed n) (numbered 0 (port_bits w.of)))) sited.inner
        ∙ top-inputs-mean s (keys_of s) t (length (inner_nodes s)) w.of (both-sides s w.of is)
        ∙ ap (λ q. map drive_meant (flat_map (port_drives s q) (filter is_input w.of.ports))) (sym e)
    inputs-at i p w at (Some spot) r =
        let v = sited.each spot.0 r.path r.inst in
        let both : Some v.of ≡ Some r.of = sym v.is_of ∙ r.is_of in
        let same : v.of ≡ r.of = cc in
        let place : slice_get v.of.instances spot.1 ≡ Some r.by = ap (λ (m : ModuleView). slice_get m.instances spot.1) same ∙ r.place in
        let member : IsIn r.by v.of.instances = get-in v.of.instances spot.1 r.by place in
        let named : module_named s r.by.target ≡ Some w.of = sym (path-child s names r.path v.of r.by v.is_of member) ∙ ap (module_at s) (sym r.is) ∙ w.is_of in
        let st = statement-at s v.of v.of.instances v.template.statements spot.1 r.by v.resolved.statements place in
        spot-inputs p r.path r.by w.of v.of w.site v.site v.template spot st.statement v.at v.has_template st.at r.is v.is_of member named (site-bits i p w at) (site-bits spot.0 r.path v r.inst) st.is

    -- all of an instance
    site-mean : (i : ℕ) (p : Path) (w : StandsAt s l i p) → slice_get (module_instances s) i ≡ Some p → map (feed_meant s (keys_of s) t) (feeds_at s.cells l w.site) ≡ map drive_meant (drives_in s p (module_at s p))
    site-mean i p w at =
        let x = w.site in
        let m = w.of in
        let bits = site-bits i p w at in
        ap (λ o. map (feed_meant s (keys_of s) t) (input_feeds l x x.by ++ (flat_map (statement_feeds s.cells x) (statements_of o) ++ map (joint_feed x.start x.start Assign) (assigns_of o)))) w.has_template
        ∙ two-parts (feed_meant s (keys_of s) t) drive_meant (input_feeds l x x.by) (flat_map (statement_feeds s.cells x) w.template.statements ++ map (joint_feed x.start x.start Assign) w.template.assigns)
        (flat_map (port_drives s p) (filter is_input m.ports)) (flat_map (instance_drives s p) m.instances ++ flat_map (assign_drives p) (numbered 0 m.assigns))
        (inputs-at i p w at x.by w.inside)
        (two-parts (feed_meant s (keys_of s) t) drive_meant (flat_map (statement_feeds s.cells x) w.template.statements) (map (joint_feed x.start x.start Assign) w.template.assigns)
        (flat_map (instance_drives s p) m.instances) (flat_map (assign_drives p) (numbered 0 m.assigns))
        (statements-mean i p m x w.is_of bits m.instances w.template.statements (λ y h. h) w.resolved.statements w.placed)
        (joints-mean s (keys_of s) t p p m m x.start x.start Assign bits bits (assign_pairs m) w.template.assigns w.resolved.assigns ∙ sym (assigns-mean p 0 m.assigns)))
        ∙ ap (λ o. map drive_meant (drives_in s p o)) (sym w.is_of)

    sites-mean : (k : ℕ) (xs : List Site) (ps : List Path) → length xs ≡ length ps → Has l.sites k xs → Has (module_instances s) k ps
        → map (feed_meant s (keys_of s) t) (flat_map (feeds_at s.cells l) xs) ≡ map drive_meant (flat_map (λ p. drives_in s p (module_at s p)) ps)
    sites-mean k [] [] size xh ph = refl
    sites-mean k [] (p ∷ ps) size xh ph = absurd (omega (arith, size))
    sites-mean k (x ∷ xs) [] size xh ph = absurd (omega (arith, size))
    sites-mean k (x ∷ xs) (p ∷ ps) size xh ph =
        let at = has-head (module_instances s) k p ps ph in
        let w = sited.each k p at in
        let both : Some x ≡ Some w.site = sym (has-head l.sites k x xs xh) ∙ w.at in
        let same : x ≡ w.site = cc in
        two-parts (feed_meant s (keys_of s) t) drive_meant (feeds_at s.cells l x) (flat_map (feeds_at s.cells l) xs) (drives_in s p (module_at s p)) (flat_map (λ p. drives_in s p (module_at s p)) ps)
        (ap (λ z. map (feed_meant s (keys_of s) t) (feeds_at s.cells l z)) same ∙ site-mean k p w at)
        (sites-mean (k + 1) xs ps (omega (arith, size)) (has-tail l.sites k x xs xh) (has-tail (module_instances s) k p ps ph))

    pub feeds-mean : map (feed_meant s (keys_of s) t) (feeds s.cells l) ≡ map drive_meant (drives_of s)
    feeds-mean =
        let outer =
        ap (λ bs. map (feed_meant s (keys_of s) t) (map (outer_feed l.inner) (numbered 0 bs))) sited.ports
        ∙ ap (λ n. map (feed_meant s (keys_of s) t) (map (outer_feed n) (numbered 0 (port_bits sited.top)))) sited.inner
        ∙ top-outers-mean s (keys_of s) t (length (inner_nodes s)) sited.top (both-sides s sited.top sited.is_top)
        ∙ ap (λ o. map drive_meant (outer_drives o)) (sym sited.is_top) in
        two-parts (feed_meant s (keys_of s) t) drive_meant (flat_map (feeds_at s.cells l) l.sites) (map (outer_feed l.inner) (numbered 0 l.ports)) (flat_map (λ p. drives_in s p (module_at s p)) (module_instances s)) (outer_drives (module_at s []))
        (sites-mean 0 l.sites (module_instances s) sited.count (has-all l.sites) (has-all (module_instances s)))
        outer

    pub are_drives : t.edges ≡ edge_rows s.cells l → AreDrives s t (drive_rows s.cells l)
    are_drives made = record {
      same = rows-mean s (keys_of s) t (feeds s.cells l) (drives_of s) 0 feeds-mean (has-all (keys_of s).ways) (subst (λ es. Has es 0 (edge_rows s.cells l)) (sym made) (has-all (edge_rows s.cells l)));
      within = rows-within s (keys_of s) t (feeds s.cells l) (drives_of s) 0 feeds-mean;
    }

    pub are_edges : map (row_ends (keys_of s)) (edge_rows s.cells l) ≡ map edge_ends (edges_of s)
    are_edges = edges-mean s (keys_of s) t (feeds s.cells l) (drives_of s) feeds-mean
