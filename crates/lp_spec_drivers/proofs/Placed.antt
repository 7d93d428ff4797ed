-- The feeds of a module instance drive the places of its module, from its first node on.
use Rattle.std.proofs.Common.{◌≡◌, ◌<◌, ◌≤◌, ◌+◌, ℕ, suc, Bool, true, false, List, [], ◌∷◌, ◌++◌, map, length, Option, Some, None, refl, sym, ap, ◌∙◌, arith}
use Rattle.std.specs.Prelude.{flat_map, nat_lt, if◌then◌else◌, slice_get}
use Rattle.std.specs.List.{list_all}
use Rattle.std.proofs.lemmas.Bool.{lt-ltb}
use Rattle.std.proofs.lemmas.List.{map-append, length-append, length-map}
use Rattle.lp_model.specs.declared.graph.EdgeKind.{EdgeKind}
use Rattle.lp_model.specs.declared.graph.EdgeKind.TheVariants.{In, Out, Assign}
use Rattle.lp_model.specs.declared.graph.PinNet.{PinNet}
use Rattle.lp_model.specs.declared.graph.PinNet.TheVariants.{Unconnected, Const as PinConst, Node as PinNode}
use Rattle.lp_model.specs.NetlistView.{PortView, NetView, InstanceView, ModuleView}
use Rattle.lp_model.specs.LibraryView.{CellView}
use Rattle.lp_spec_design.specs.Netlists.{Structure, indices, is_input}
use Rattle.lp_spec_design.specs.Graph.{pairs, and_more, some_of, numbered, when}
use Rattle.lp_spec_design.specs.Reads.{one, other, both}
use Rattle.lp_spec_bridge.specs.Templates.{bit_named, bits_in, has_place}
use Rattle.lp_spec_bridge.specs.Kept.{has_pin_place}
use Rattle.lp_spec_layout.specs.Parts.{Joint, Statement, OfModule, OfCell, Template, statements_of, assigns_of, has_joint, driving_pins, IsStatement, AreStatements, IsTemplate}
use Rattle.lp_spec_layout.specs.Sites.{Spot, Site, Layout, port_bits}
use Rattle.lp_spec_layout.specs.Feeds.{Feed, joint_feed, pin_feed, statement_feeds, child_inputs, inside_feeds, top_feed, input_feeds, feeds_at, outer_feed}
use Rattle.lp_spec_drivers.specs.Counts.{times}
use Rattle.lp_spec_drivers.specs.Drivers.{joint_places, pin_place, statement_places, inside_places, input_places, outside_places, entered_places, driven_places}
use Rattle.lp_spec_drivers.proofs.Numbers.{moved, not-same, all-append}

-- the nodes that feeds drive
abbrev pub fed : List Feed → List ℕ
fed xs = map (λ (f : Feed). f.0) xs

joints-fed : (to from : ℕ) (kind : EdgeKind) (js : List Joint) → fed (map (joint_feed to from kind) js) ≡ moved to (joint_places js)
joints-fed to from kind [] = refl
joints-fed to from kind (j ∷ js) = ap (λ r. (to + j.0) ∷ r) (joints-fed to from kind js)

row-fed : (start leaf k : ℕ) (ds : List Bool) (row : List PinNet) → fed (some_of (pin_feed start leaf) (pairs (numbered k ds) row)) ≡ moved start (some_of pin_place (pairs ds row))
row-fed start leaf k [] row = refl
row-fed start leaf k (d ∷ ds) [] = refl
row-fed start leaf k (d ∷ ds) (p ∷ row) = by d p (row-fed start leaf (k + 1) ds row)
  where
    by : (d : Bool) (p : PinNet) → fed (some_of (pin_feed start leaf) (pairs (numbered (k + 1) ds) row)) ≡ moved start (some_of pin_place (pairs ds row))
        → fed (and_more (pin_feed start leaf ((k, d), p)) (some_of (pin_feed start leaf) (pairs (numbered (k + 1) ds) row))) ≡ moved start (and_more (pin_place (d, p)) (some_of pin_place (pairs ds row)))
    by true (PinNode j) e = ap (λ r. (start + j.0) ∷ r) e
    by true Unconnected e = e
    by true (PinConst b) e = e
    by false (PinNode j) e = e
    by false Unconnected e = e
    by false (PinConst b) e = e

two-moved : (to : ℕ) (a b : List Feed) (xs ys : List ℕ) → fed a ≡ moved to xs → fed b ≡ moved to ys → fed (a ++ b) ≡ moved to (xs ++ ys)
two-moved to a b xs ys e h =
    map-append (λ (f : Feed). f.0) a b ∙ ap (λ r. r ++ fed b) e ∙ ap (λ r. moved to xs ++ r) h ∙ sym (map-append (λ j. to + j) xs ys)

module _ (cells : List CellView) (x : Site) where
  statement-fed : (z : Statement) → fed (statement_feeds cells x z) ≡ moved x.start (statement_places cells z)
  statement-fed (OfModule c) = joints-fed x.start (x.start + c.before.bits) Out c.outputs
  statement-fed (OfCell c) = row-fed x.start (x.leaf + c.before) 0 (driving_pins (slice_get cells c.of)) c.row

  statements-fed : (zs : List Statement) → fed (flat_map (statement_feeds cells x) zs) ≡ moved x.start (flat_map (statement_places cells) zs)
  statements-fed [] = refl
  statements-fed (z ∷ zs) = two-moved x.start (statement_feeds cells x z) (flat_map (statement_feeds cells x) zs) (statement_places cells z) (flat_map (statement_places cells) zs) (statement-fed z) (statements-fed zs)

inputs-fed : (inner start k : ℕ) (ports : List Bool) → start ≡ 0 → fed (some_of (top_feed inner) (numbered k ports)) ≡ moved start (some_of (λ (z : ℕ × Bool). when z.1 z.0) (numbered k ports))
inputs-fed inner start k [] e = refl
inputs-fed inner start k (b ∷ ports) e = by b (inputs-fed inner start (k + 1) ports e)
  where
    by : (b : Bool) → fed (some_of (top_feed inner) (numbered (k + 1) ports)) ≡ moved start (some_of (λ (z : ℕ × Bool). when z.1 z.0) (numbered (k + 1) ports))
        → fed (and_more (top_feed inner (k, b)) (some_of (top_feed inner) (numbered (k + 1) ports))) ≡ moved start (and_more (when b k) (some_of (λ (z : ℕ × Bool). when z.1 z.0) (numbered (k + 1) ports)))
    by true more = let place : k ≡ start + k = omega (arith, e) in ap (λ n. n ∷ fed (some_of (top_feed inner) (numbered (k + 1) ports))) place ∙ ap (λ r. (start + k) ∷ r) more
    by false more = more

module _ (l : Layout) (x : Site) where
  outside-fed : (place : ℕ) (o : Option Site) → fed (inside_feeds l.templates x place o) ≡ moved x.start (outside_places l.templates place o)
  outside-fed place None = refl
  outside-fed place (Some outer) = joints-fed x.start outer.start In (child_inputs (slice_get (statements_of (slice_get l.templates outer.of)) place))

  entered-fed : (o : Option Spot) → (o ≡ None → x.start ≡ 0) → fed (input_feeds l x o) ≡ moved x.start (entered_places l o)
  entered-fed None first = inputs-fed l.inner x.start 0 l.ports (first refl)
  entered-fed (Some at) first = outside-fed at.1 (slice_get l.sites at.0)

  pub site-fed : (cells : List CellView) → (x.by ≡ None → x.start ≡ 0) → fed (feeds_at cells l x) ≡ moved x.start (driven_places cells l x)
  site-fed cells first =
      let zs = statements_of (slice_get l.templates x.of) in
      let js = assigns_of (slice_get l.templates x.of) in
      two-moved x.start (input_feeds l x x.by) (flat_map (statement_feeds cells x) zs ++ map (joint_feed x.start x.start Assign) js) (entered_places l x.by) (flat_map (statement_places cells) zs ++ joint_places js)
      (entered-fed x.by first)
      (two-moved x.start (flat_map (statement_feeds cells x) zs) (map (joint_feed x.start x.start Assign) js) (flat_map (statement_places cells) zs) (joint_places js) (statements-fed cells x zs) (joints-fed x.start x.start Assign js))

-- the outer sides are behind all net bits of instances
pub outer-fed : (inner k from : ℕ) (ports : List Bool) → k < inner → times k (fed (map (outer_feed inner) (numbered from ports))) ≡ 0
outer-fed inner k from [] low = refl
outer-fed inner k from (b ∷ ports) low =
    ap (λ c. if c then suc (times k (fed (map (outer_feed inner) (numbered (from + 1) ports)))) else times k (fed (map (outer_feed inner) (numbered (from + 1) ports)))) (not-same (inner + from) k (λ h. absurd (omega (arith, low, h))))
    ∙ outer-fed inner k (from + 1) ports low

-- ---- within the bits of the module

abbrev pub Below : ℕ → List ℕ → Type 0
Below size xs = list_all (λ j. nat_lt j size) xs ≡ true

pub joints-below : (to from : ModuleView) (js : List Joint) → list_all (has_joint to from) js ≡ true → Below (length (bits_in to)) (joint_places js)
joints-below to from [] h = refl
joints-below to from (j ∷ js) h =
    let here = one (has_joint to from j) (list_all (has_joint to from) js) h in
    both (nat_lt j.0 (length (bits_in to))) (list_all (λ k. nat_lt k (length (bits_in to))) (joint_places js))
    (one (nat_lt j.0 (length (bits_in to))) (has_place from j.1) here) (joints-below to from js (other (has_joint to from j) (list_all (has_joint to from) js) h))

row-below : (m : ModuleView) (ds : List Bool) (row : List PinNet) → list_all (has_pin_place m) row ≡ true → Below (length (bits_in m)) (some_of pin_place (pairs ds row))
row-below m [] row h = refl
row-below m (d ∷ ds) [] h = refl
row-below m (d ∷ ds) (p ∷ row) h = by d p (one (has_pin_place m p) (list_all (has_pin_place m) row) h) (row-below m ds row (other (has_pin_place m p) (list_all (has_pin_place m) row) h))
  where
    by : (d : Bool) (p : PinNet) → has_pin_place m p ≡ true → Below (length (bits_in m)) (some_of pin_place (pairs ds row)) → Below (length (bits_in m)) (and_more (pin_place (d, p)) (some_of pin_place (pairs ds row)))
    by true (PinNode j) low more = both (nat_lt j.0 (length (bits_in m))) (list_all (λ k. nat_lt k (length (bits_in m))) (some_of pin_place (pairs ds row))) low more
    by true Unconnected low more = more
    by true (PinConst b) low more = more
    by false (PinNode j) low more = more
    by false Unconnected low more = more
    by false (PinConst b) low more = more

module _ (s : Structure) (m : ModuleView) where
  statement-below : (y : InstanceView) (z : Statement) → IsStatement s m y z → Below (length (bits_in m)) (statement_places s.cells z)
  statement-below y (OfModule c) r = joints-below m r.inner c.outputs r.outputs.within
  statement-below y (OfCell c) r = row-below m (driving_pins (slice_get s.cells c.of)) c.row r.resolved.within

  statements-below : (ys : List InstanceView) (zs : List Statement) → AreStatements s m ys zs → Below (length (bits_in m)) (flat_map (statement_places s.cells) zs)
  statements-below [] [] r = refl
  statements-below [] (z ∷ zs) r = absurd r
  statements-below (y ∷ ys) [] r = absurd r
  statements-below (y ∷ ys) (z ∷ zs) r = all-append (λ k. nat_lt k (length (bits_in m))) (statement_places s.cells z) (flat_map (statement_places s.cells) zs) (statement-below y z r.0) (statements-below ys zs r.1)

  pub inside-below : (x : Template) → IsTemplate s m x → Below (length (bits_in m)) (inside_places s.cells (Some x))
  inside-below x r = all-append (λ k. nat_lt k (length (bits_in m))) (flat_map (statement_places s.cells) x.statements) (joint_places x.assigns) (statements-below m.instances x.statements r.statements) (joints-below m m x.assigns r.assigns.within)

-- ---- the top's ports

port-size : (ports : List PortView) → length (flat_map (λ (x : PortView). map (λ i. is_input x) (indices x.range)) ports) ≡ length (flat_map (λ (x : PortView). map (bit_named x.name) (indices x.range)) ports)
port-size [] = refl
port-size (x ∷ ports) =
    let a = length-append (map (λ i. is_input x) (indices x.range)) (flat_map (λ (x : PortView). map (λ i. is_input x) (indices x.range)) ports) in
    let b = length-append (map (bit_named x.name) (indices x.range)) (flat_map (λ (x : PortView). map (bit_named x.name) (indices x.range)) ports) in
    let c = length-map (indices x.range) (λ i. is_input x) in
    let d = length-map (indices x.range) (bit_named x.name) in
    let e = port-size ports in
    omega (arith, a, b, c, d, e)

port-bits-below : (m : ModuleView) → length (port_bits m) ≤ length (bits_in m)
port-bits-below m =
    let a = port-size m.ports in
    let b = length-append (flat_map (λ (x : PortView). map (bit_named x.name) (indices x.range)) m.ports) (flat_map (λ (x : NetView). map (bit_named x.name) (indices x.range)) m.nets) in
    omega (arith, a, b)

inputs-below : (size k : ℕ) (ports : List Bool) → k + length ports ≤ size → Below size (some_of (λ (z : ℕ × Bool). when z.1 z.0) (numbered k ports))
inputs-below size k [] low = refl
inputs-below size k (b ∷ ports) low = by b (inputs-below size (k + 1) ports (omega (arith, low)))
  where
    by : (b : Bool) → Below size (some_of (λ (z : ℕ × Bool). when z.1 z.0) (numbered (k + 1) ports)) → Below size (and_more (when b k) (some_of (λ (z : ℕ × Bool). when z.1 z.0) (numbered (k + 1) ports)))
    by true more = both (nat_lt k size) (list_all (λ j. nat_lt j size) (some_of (λ (z : ℕ × Bool). when z.1 z.0) (numbered (k + 1) ports))) (lt-ltb k size (omega (arith, low))) more
    by false more = more

pub top-below : (m : ModuleView) → Below (length (bits_in m)) (input_places (port_bits m))
top-below m = inputs-below (length (bits_in m)) 0 (port_bits m) (let low = port-bits-below m in omega (arith, low))
