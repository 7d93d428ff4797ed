-- Feeds that mean the drives of a design, one by one, give the rows and the edges.
use Rattle.std.proofs.Common.{◌≡◌, ◌<◌, ◌+◌, ℕ, zero, suc, true, false, List, [], ◌∷◌, ◌++◌, map, length, Option, Some, None, ◌⊎◌, inl, inr, refl, sym, ap, ◌∙◌, subst, arith}
use Rattle.std.specs.Prelude.{nat_lt, option_and_then, slice_get, slice_index_or}
use Rattle.std.specs.List.{list_all}
use Rattle.std.proofs.lemmas.Bool.{lt-ltb}
use Rattle.std.proofs.lemmas.Option.{slice_get_within, get_or_from_slice_get}
use Rattle.lp_model.specs.declared.graph.Edge.{Edge as EdgeRow}
use Rattle.lp_model.specs.declared.graph.EdgeFrom.{EdgeFrom}
use Rattle.lp_model.specs.declared.graph.EdgeFrom.TheVariants.{Node as FromNode, Const as FromConst}
use Rattle.lp_model.specs.declared.graph.EdgeKind.{EdgeKind}
use Rattle.lp_spec_design.specs.Keys.{Node, Fixed, Way, AssignBit, Source, CellPin, SwitchedPin, Environment, From}
use Rattle.lp_spec_design.specs.Netlists.{Structure}
use Rattle.lp_spec_design.specs.Instances.{Placed}
use Rattle.lp_spec_design.specs.Graph.{and_more, some_of}
use Rattle.lp_spec_design.specs.Reads.{both}
use Rattle.lp_spec_bridge.specs.Tables.{Tables, edge_from, has_source, is_led}
use Rattle.lp_spec_bridge.specs.Edges.{Drive, Edge, edge_of, kind_of}
use Rattle.lp_spec_bridge.specs.Keyed.{Keyed, node_at, way_at, leaf_at}
use Rattle.lp_spec_bridge.specs.Represents.{from_key, outputs_in, cell_of, source_key}
use Rattle.lp_spec_bridge.specs.Elaborates.{row_ends, edge_ends}
use Rattle.lp_spec_bridge.specs.Noted.{DriveRow, row_key, drive_key}
use Rattle.lp_spec_layout.specs.Feeds.{Driver, ByEdge, ByPin, ByOutside, Feed, source_in, edges_behind, rows_from, edge_row}
use Rattle.lp_spec_layout.proofs.Lists.{Has, has-head, has-tail}

-- what drives a node, by paths: a way, by its beginning and its kind, or another source
pub data Meaning : Type 0 where
  Along : Option Node → EdgeKind → Meaning
  Of : Option Source → Meaning

abbrev pub kind_along : Meaning → Option EdgeKind
kind_along (Along o k) = Some k
kind_along (Of o) = None

abbrev pub from_along : Meaning → Option (Option Node)
from_along (Along o k) = Some o
from_along (Of o) = None

abbrev pub source_along : Meaning → Option (Option Source)
source_along (Along o k) = None
source_along (Of o) = Some o

abbrev pub drive_meaning : Node → Source → Meaning
drive_meaning to (From w j) = Along (Some j) (kind_of (record { way = w; from = j; to = to }))
drive_meaning to (CellPin p x q) = Of (Some (CellPin p x q))
drive_meaning to (SwitchedPin p x q) = Of (Some (SwitchedPin p x q))
drive_meaning to Environment = Of (Some Environment)

-- a drive of the design
abbrev pub Meant : Type 0
Meant = Option Node × Meaning

abbrev pub drive_meant : Drive → Meant
drive_meant d = (Some d.0, drive_meaning d.0 d.1)

abbrev pub from_node : Keyed → EdgeFrom → Option Node
from_node ks (FromNode k) = slice_get ks.nodes k.0
from_node ks (FromConst b) = Some (Fixed b)

abbrev pub pin_source : Structure → Keyed → Tables → ℕ → ℕ → Option Source
pin_source s ks t pin leaf = option_and_then (λ (a : Placed). slice_get (outputs_in a (cell_of s t leaf)) pin) (slice_get ks.leaves leaf)

abbrev pub driver_meaning : Structure → Keyed → Tables → Driver → Meaning
driver_meaning s ks t (ByEdge from kind) = Along (from_node ks from) kind
driver_meaning s ks t (ByPin pin leaf) = Of (pin_source s ks t pin leaf)
driver_meaning s ks t ByOutside = Of (Some Environment)

-- a feed by number
abbrev pub feed_meant : Structure → Keyed → Tables → Feed → Meant
feed_meant s ks t x = (slice_get ks.nodes x.0, driver_meaning s ks t x.1)

-- an edge and a way of the design, or something else on both sides
pub record IsWay (ks : Keyed) (x : Feed) (d : Drive) : Type 0 where
  pub from : EdgeFrom
  pub kind : EdgeKind
  pub way : Way
  pub node : Node
  pub is_edge : x.1 ≡ ByEdge from kind
  pub is_way : d.1 ≡ From way node
  pub comes : from_node ks from ≡ Some node
  pub is_kind : kind ≡ kind_of (record { way = way; from = node; to = d.0 })

pub record IsOther (s : Structure) (ks : Keyed) (t : Tables) (x : Feed) (d : Drive) : Type 0 where
  pub no_row : edge_row x ≡ None
  pub no_edge : edge_of d ≡ None
  pub behind : (e : ℕ) → edges_behind e x.1 ≡ e
  pub source : (e : ℕ) → source_key s ks t (source_in e x.1) ≡ Some d.1
  pub closed : length t.leaves ≡ length ks.leaves → (e : ℕ) → has_source t (source_in e x.1) ≡ true
  pub led : (e : ℕ) → is_led t x.0 (source_in e x.1) ≡ true

some-is : {A : Type 0} (a b : A) → Some a ≡ Some b → a ≡ b
some-is a b e = cc

module _ (s : Structure) (ks : Keyed) (t : Tables) where
  -- ---- one of them

  from-is : (f : EdgeFrom) (j : Node) → from_node ks f ≡ Some j → from_key ks f ≡ j
  from-is (FromNode k) j e = get_or_from_slice_get ks.nodes k.0 j (Fixed false) e
  from-is (FromConst b) j e = some-is (Fixed b) j e

  pin-is : (pin leaf : ℕ) (x : Source) → pin_source s ks t pin leaf ≡ Some x → slice_get (outputs_in (leaf_at ks leaf) (cell_of s t leaf)) pin ≡ Some x
  pin-is pin leaf x e = by (slice_get ks.leaves leaf) refl
    where
      by : (o : Option Placed) → slice_get ks.leaves leaf ≡ o → slice_get (outputs_in (leaf_at ks leaf) (cell_of s t leaf)) pin ≡ Some x
      by None f = let no : None ≡ Some x = sym (ap (option_and_then (λ (a : Placed). slice_get (outputs_in a (cell_of s t leaf)) pin)) f) ∙ e in absurd cc
      by (Some a) f =
          let same : leaf_at ks leaf ≡ a = get_or_from_slice_get ks.leaves leaf a (record { path = []; instance = [] }) f in
          ap (λ (b : Placed). slice_get (outputs_in b (cell_of s t leaf)) pin) same ∙ sym (ap (option_and_then (λ (a : Placed). slice_get (outputs_in a (cell_of s t leaf)) pin)) f) ∙ e

  pin-low : (pin leaf : ℕ) (x : Source) → pin_source s ks t pin leaf ≡ Some x → leaf < length ks.leaves
  pin-low pin leaf x e = by (slice_get ks.leaves leaf) refl
    where
      by : (o : Option Placed) → slice_get ks.leaves leaf ≡ o → leaf < length ks.leaves
      by None f = let no : None ≡ Some x = sym (ap (option_and_then (λ (a : Placed). slice_get (outputs_in a (cell_of s t leaf)) pin)) f) ∙ e in absurd cc
      by (Some a) f = slice_get_within ks.leaves leaf a f

  pin-other : (k pin leaf : ℕ) (to : Node) (d : Source) → edge_of (to, d) ≡ None → pin_source s ks t pin leaf ≡ Some d → IsOther s ks t (k, ByPin pin leaf) (to, d)
  pin-other k pin leaf to d none is = record {
    no_row = refl;
    no_edge = none;
    behind = λ e. refl;
    source = λ e. pin-is pin leaf d is;
    closed = λ same e. (let low = pin-low pin leaf d is in lt-ltb leaf (length t.leaves) (omega (arith, low, same)));
    led = λ e. refl;
  }

  pub one-of : (k : ℕ) (x : Driver) (to : Node) (d : Source) → driver_meaning s ks t x ≡ drive_meaning to d → IsWay ks (k, x) (to, d) ⊎ IsOther s ks t (k, x) (to, d)
  one-of k (ByEdge f kind) to (From w j) e =
      let from : from_node ks f ≡ Some j = some-is (from_node ks f) (Some j) (ap from_along e) in
      let same : kind ≡ kind_of (record { way = w; from = j; to = to }) = some-is kind (kind_of (record { way = w; from = j; to = to })) (ap kind_along e) in
      inl (record { from = f; kind = kind; way = w; node = j; is_edge = refl; is_way = refl; comes = from; is_kind = same })
  one-of k (ByEdge f kind) to (CellPin p x q) e = let no : Some kind ≡ None = ap kind_along e in absurd cc
  one-of k (ByEdge f kind) to (SwitchedPin p x q) e = let no : Some kind ≡ None = ap kind_along e in absurd cc
  one-of k (ByEdge f kind) to Environment e = let no : Some kind ≡ None = ap kind_along e in absurd cc
  one-of k (ByPin pin leaf) to (From w j) e = let no : Some (pin_source s ks t pin leaf) ≡ None = ap source_along e in absurd cc
  one-of k (ByPin pin leaf) to (CellPin p x q) e = inr (pin-other k pin leaf to (CellPin p x q) refl (some-is (pin_source s ks t pin leaf) (Some (CellPin p x q)) (ap source_along e)))
  one-of k (ByPin pin leaf) to (SwitchedPin p x q) e = inr (pin-other k pin leaf to (SwitchedPin p x q) refl (some-is (pin_source s ks t pin leaf) (Some (SwitchedPin p x q)) (ap source_along e)))
  one-of k (ByPin pin leaf) to Environment e = inr (pin-other k pin leaf to Environment refl (some-is (pin_source s ks t pin leaf) (Some Environment) (ap source_along e)))
  one-of k ByOutside to (From w j) e = let no : Some (Some Environment) ≡ None = ap source_along e in absurd cc
  one-of k ByOutside to (CellPin p x q) e =
      let is : Some Environment ≡ Some (CellPin p x q) = some-is (Some Environment) (Some (CellPin p x q)) (ap source_along e) in
      inr (record { no_row = refl; no_edge = refl; behind = λ n. refl; source = λ n. is; closed = λ same n. refl; led = λ n. refl })
  one-of k ByOutside to (SwitchedPin p x q) e =
      let is : Some Environment ≡ Some (SwitchedPin p x q) = some-is (Some Environment) (Some (SwitchedPin p x q)) (ap source_along e) in
      inr (record { no_row = refl; no_edge = refl; behind = λ n. refl; source = λ n. is; closed = λ same n. refl; led = λ n. refl })
  one-of k ByOutside to Environment e = inr (record { no_row = refl; no_edge = refl; behind = λ n. refl; source = λ n. refl; closed = λ same n. refl; led = λ n. refl })

  -- ---- all of them

  node-is : (k : ℕ) (n : Node) → slice_get ks.nodes k ≡ Some n → node_at ks k ≡ n
  node-is k n h = get_or_from_slice_get ks.nodes k n (Fixed false) h

  from-entry : (xs : List EdgeRow) (e : ℕ) (x : EdgeRow) → slice_get xs e ≡ Some x → slice_index_or (map (λ (x : EdgeRow). x.from) xs) e (FromConst true) ≡ x.from
  from-entry [] e x h = absurd cc
  from-entry (y ∷ ys) zero x h = ap (λ (z : EdgeRow). z.from) (some-is y x h)
  from-entry (y ∷ ys) (suc e) x h = from-entry ys e x h

  pub rows-mean : (xs : List Feed) (ds : List Drive) (e : ℕ) → map (feed_meant s ks t) xs ≡ map drive_meant ds → Has ks.ways e (map (λ (x : Edge). x.way) (some_of edge_of ds)) → Has t.edges e (some_of edge_row xs) → map (row_key s ks t) (rows_from e xs) ≡ map drive_key ds
  rows-mean [] [] e same ways edges = refl
  rows-mean [] (d ∷ ds) e same ways edges = absurd cc
  rows-mean (x ∷ xs) [] e same ways edges = absurd cc
  rows-mean (x ∷ xs) (d ∷ ds) e same ways edges =
      let here : feed_meant s ks t x ≡ drive_meant d = cc in
      let node : slice_get ks.nodes x.0 ≡ Some d.0 = ap (λ (z : Meant). z.0) here in
      let driver : driver_meaning s ks t x.1 ≡ drive_meaning d.0 d.1 = ap (λ (z : Meant). z.1) here in
      let later : map (feed_meant s ks t) xs ≡ map drive_meant ds = cc in
      by (one-of x.0 x.1 d.0 d.1 driver) node (λ n a b. rows-mean xs ds n later a b)
    where
      cons : (m : ℕ) → node_at ks x.0 ≡ d.0 → source_key s ks t (source_in e x.1) ≡ Some d.1 → edges_behind e x.1 ≡ m → map (row_key s ks t) (rows_from m xs) ≡ map drive_key ds → map (row_key s ks t) (rows_from e (x ∷ xs)) ≡ map drive_key (d ∷ ds)
      cons m a b c f =
          ap (λ n. (n, source_key s ks t (source_in e x.1)) ∷ map (row_key s ks t) (rows_from (edges_behind e x.1) xs)) a
          ∙ ap (λ o. (d.0, o) ∷ map (row_key s ks t) (rows_from (edges_behind e x.1) xs)) b
          ∙ ap (λ n. drive_key d ∷ map (row_key s ks t) (rows_from n xs)) c
          ∙ ap (λ r. drive_key d ∷ r) f

      by : IsWay ks (x.0, x.1) (d.0, d.1) ⊎ IsOther s ks t (x.0, x.1) (d.0, d.1) → slice_get ks.nodes x.0 ≡ Some d.0
          → ((n : ℕ) → Has ks.ways n (map (λ (x : Edge). x.way) (some_of edge_of ds)) → Has t.edges n (some_of edge_row xs) → map (row_key s ks t) (rows_from n xs) ≡ map drive_key ds)
          → map (row_key s ks t) (rows_from e (x ∷ xs)) ≡ map drive_key (d ∷ ds)
      by (inl w) node later =
          let made : EdgeRow = record { from = w.from; to = record { 0 = x.0 }; kind = w.kind } in
          let more = map (λ (x : Edge). x.way) (some_of edge_of ds) in
          let row : edge_row x ≡ Some (record { from = w.from; to = record { 0 = x.0 }; kind = w.kind }) = ap (λ y. edge_row (x.0, y)) w.is_edge in
          let edge : edge_of d ≡ Some (record { way = w.way; from = w.node; to = d.0 }) = ap (λ y. edge_of (d.0, y)) w.is_way in
          let rows : Has t.edges e (record { from = w.from; to = record { 0 = x.0 }; kind = w.kind } ∷ some_of edge_row xs) = subst (λ o. Has t.edges e (and_more o (some_of edge_row xs))) row edges in
          let keys : Has ks.ways e (w.way ∷ map (λ (x : Edge). x.way) (some_of edge_of ds)) = subst (λ o. Has ks.ways e (map (λ (x : Edge). x.way) (and_more o (some_of edge_of ds)))) edge ways in
          let way : way_at ks e ≡ w.way = get_or_from_slice_get ks.ways e w.way (AssignBit [] 0 0) (has-head ks.ways e w.way more keys) in
          let from : edge_from t e ≡ w.from = from-entry t.edges e made (has-head t.edges e made (some_of edge_row xs) rows) in
          let next : edges_behind e x.1 ≡ e + 1 = ap (edges_behind e) w.is_edge in
          let source : source_key s ks t (source_in e x.1) ≡ Some d.1 =
          ap (λ y. source_key s ks t (source_in e y)) w.is_edge
          ∙ ap (λ y. Some (From y (from_key ks (edge_from t e)))) way
          ∙ ap (λ y. Some (From w.way (from_key ks y))) from
          ∙ ap (λ y. Some (From w.way y)) (from-is w.from w.node w.comes)
          ∙ ap (λ y. Some y) (sym w.is_way) in
          cons (e + 1) (node-is x.0 d.0 node) source next (later (e + 1) (has-tail ks.ways e w.way more keys) (has-tail t.edges e made (some_of edge_row xs) rows))
      by (inr o) node later =
          let rows : Has t.edges e (some_of edge_row xs) = subst (λ z. Has t.edges e (and_more z (some_of edge_row xs))) o.no_row edges in
          let keys : Has ks.ways e (map (λ (x : Edge). x.way) (some_of edge_of ds)) = subst (λ z. Has ks.ways e (map (λ (x : Edge). x.way) (and_more z (some_of edge_of ds)))) o.no_edge ways in
          cons e (node-is x.0 d.0 node) (o.source e) (o.behind e) (later e keys rows)

  pub edges-mean : (xs : List Feed) (ds : List Drive) → map (feed_meant s ks t) xs ≡ map drive_meant ds → map (row_ends ks) (some_of edge_row xs) ≡ map edge_ends (some_of edge_of ds)
  edges-mean [] [] same = refl
  edges-mean [] (d ∷ ds) same = absurd cc
  edges-mean (x ∷ xs) [] same = absurd cc
  edges-mean (x ∷ xs) (d ∷ ds) same =
      let here : feed_meant s ks t x ≡ drive_meant d = cc in
      let node : slice_get ks.nodes x.0 ≡ Some d.0 = ap (λ (z : Meant). z.0) here in
      let driver : driver_meaning s ks t x.1 ≡ drive_meaning d.0 d.1 = ap (λ (z : Meant). z.1) here in
      let later : map (feed_meant s ks t) xs ≡ map drive_meant ds = cc in
      by (one-of x.0 x.1 d.0 d.1 driver) node (edges-mean xs ds later)
    where
      by : IsWay ks (x.0, x.1) (d.0, d.1) ⊎ IsOther s ks t (x.0, x.1) (d.0, d.1) → slice_get ks.nodes x.0 ≡ Some d.0 → map (row_ends ks) (some_of edge_row xs) ≡ map edge_ends (some_of edge_of ds)
          → map (row_ends ks) (and_more (edge_row x) (some_of edge_row xs)) ≡ map edge_ends (and_more (edge_of d) (some_of edge_of ds))
      by (inl w) node more =
          let row : edge_row x ≡ Some (record { from = w.from; to = record { 0 = x.0 }; kind = w.kind }) = ap (λ y. edge_row (x.0, y)) w.is_edge in
          let edge : edge_of d ≡ Some (record { way = w.way; from = w.node; to = d.0 }) = ap (λ y. edge_of (d.0, y)) w.is_way in
          ap (λ o. map (row_ends ks) (and_more o (some_of edge_row xs))) row
          ∙ ap (λ r. (from_key ks w.from, node_at ks x.0, w.kind) ∷ r) more
          ∙ ap (λ n. (n, node_at ks x.0, w.kind) ∷ map edge_ends (some_of edge_of ds)) (from-is w.from w.node w.comes)
          ∙ ap (λ n. (w.node, n, w.kind) ∷ map edge_ends (some_of edge_of ds)) (node-is x.0 d.0 node)
          ∙ ap (λ n. (w.node, d.0, n) ∷ map edge_ends (some_of edge_of ds)) w.is_kind
          ∙ ap (λ o. map edge_ends (and_more o (some_of edge_of ds))) (sym edge)
      by (inr o) node more =
          ap (λ z. map (row_ends ks) (and_more z (some_of edge_row xs))) o.no_row
          ∙ more
          ∙ ap (λ z. map edge_ends (and_more z (some_of edge_of ds))) (sym o.no_edge)

  -- their nodes are in range
  pub rows-within : (xs : List Feed) (ds : List Drive) (e : ℕ) → map (feed_meant s ks t) xs ≡ map drive_meant ds → list_all (λ (x : DriveRow). nat_lt x.0 (length ks.nodes)) (rows_from e xs) ≡ true
  rows-within [] ds e same = refl
  rows-within (x ∷ xs) [] e same = absurd cc
  rows-within (x ∷ xs) (d ∷ ds) e same =
      let here : feed_meant s ks t x ≡ drive_meant d = cc in
      let node : slice_get ks.nodes x.0 ≡ Some d.0 = ap (λ (z : Meant). z.0) here in
      let later : map (feed_meant s ks t) xs ≡ map drive_meant ds = cc in
      let low : nat_lt x.0 (length ks.nodes) ≡ true = lt-ltb x.0 (length ks.nodes) (slice_get_within ks.nodes x.0 d.0 node) in
      both (nat_lt x.0 (length ks.nodes)) (list_all (λ (x : DriveRow). nat_lt x.0 (length ks.nodes)) (rows_from (edges_behind e x.1) xs)) low (rows-within xs ds (edges_behind e x.1) later)

-- ---- more of them

step-behind : (e k : ℕ) (d : Driver) (rest : List EdgeRow) → edges_behind e d + length rest ≡ e + length (and_more (edge_row (k, d)) rest)
step-behind e k (ByEdge f kind) rest = omega arith
step-behind e k (ByPin pin leaf) rest = refl
step-behind e k ByOutside rest = refl

pub rows-go-on : (e : ℕ) (xs ys : List Feed) → rows_from e (xs ++ ys) ≡ rows_from e xs ++ rows_from (e + length (some_of edge_row xs)) ys
rows-go-on e [] ys = let place : e ≡ e + 0 = omega arith in ap (λ n. rows_from n ys) place
rows-go-on e (x ∷ xs) ys =
    ap (λ r. (x.0, source_in e x.1) ∷ r) (rows-go-on (edges_behind e x.1) xs ys)
    ∙ ap (λ n. (x.0, source_in e x.1) ∷ (rows_from (edges_behind e x.1) xs ++ rows_from n ys)) (step-behind e x.0 x.1 (some_of edge_row xs))

more-behind : (o : Option EdgeRow) (xs ys : List EdgeRow) → and_more o (xs ++ ys) ≡ and_more o xs ++ ys
more-behind None xs ys = refl
more-behind (Some z) xs ys = refl

pub edges-go-on : (xs ys : List Feed) → some_of edge_row (xs ++ ys) ≡ some_of edge_row xs ++ some_of edge_row ys
edges-go-on [] ys = refl
edges-go-on (x ∷ xs) ys = ap (and_more (edge_row x)) (edges-go-on xs ys) ∙ more-behind (edge_row x) (some_of edge_row xs) (some_of edge_row ys)
