-- The edges at which domains meet are by numbers those of the boundary bits, in port order.
use Rattle.std.proofs.Common.{◌⊎◌, ◌≡◌, ◌<◌, ◌+◌, ◌-◌, ◌==◌, ℕ, zero, suc, Bool, true, false, ◌&&◌, List, [], ◌∷◌, map, length, get_or, set, take, replicate, Option, Some, None, inl, inr, refl, sym, ap, ◌∙◌, subst, arith}
use Rattle.std.specs.Prelude.{filter, slice_get, slice_index_or, option_map, option_and_then, if◌then◌else◌}
use Rattle.std.proofs.Math.ListN.{get_or-map as get_or-image}
use Rattle.std.proofs.lemmas.Bool.{true≢false, eqb-true, eq-eqb, cases_lt}
use Rattle.std.proofs.lemmas.List.{get_or_append_left, get_or-append_right, get_or_past, get_or-map, get_or-replicate, get_or-set_same, get_or-set_other, length-map, length-set, length-replicate, length-append}
use Rattle.std.proofs.lemmas.Option.{slice_get_within, slice_get-get_or, get_or_from_slice_get}
use Rattle.lp_model.specs.declared.graph.Edge.{Edge as EdgeRow}
use Rattle.lp_model.specs.declared.graph.EdgeFrom.{EdgeFrom}
use Rattle.lp_model.specs.declared.graph.EdgeFrom.TheVariants.{Node as FromNode, Const as FromConst}
use Rattle.lp_model.specs.declared.graph.EdgeKind.{EdgeKind}
use Rattle.lp_model.specs.declared.graph.EdgeKind.TheVariants.{In, Out, Assign}
use Rattle.lp_model.specs.declared.graph.Node.{Node as NodeRow}
use Rattle.lp_model.specs.declared.graph.NodeName.{NodeName}
use Rattle.lp_model.specs.declared.graph.NodeName.TheVariants.{Scalar, Bit, Added}
use Rattle.lp_model.specs.declared.ids.EdgeId.{EdgeId}
use Rattle.lp_model.specs.declared.ids.NodeId.{NodeId}
use Rattle.lp_model.specs.NetlistView.{ModuleView}
use Rattle.lp_spec_design.specs.Keys.{Name, Path, Node, Inner, Outer, Fixed, Way, PortBit, AssignBit, same_way}
use Rattle.lp_spec_design.specs.Netlists.{Structure, module_at}
use Rattle.lp_spec_design.specs.Instances.{module_instances}
use Rattle.lp_spec_design.specs.Graph.{and_more, some_of, when}
use Rattle.lp_spec_design.specs.Intents.{Intent}
use Rattle.lp_spec_design.specs.Domains.{is_boundary, boundary, way_of}
use Rattle.lp_spec_design.specs.Nodes.{inner_nodes, outer_in}
use Rattle.lp_spec_design.specs.Winners.{IsIn}
use Rattle.lp_spec_design.specs.Reads.{other}
use Rattle.lp_spec_design.proofs.Members.{of-any, any-in}
use Rattle.lp_spec_bridge.specs.Tables.{Tables}
use Rattle.lp_spec_bridge.specs.Edges.{Edge, edges_of}
use Rattle.lp_spec_bridge.specs.Keyed.{keys_of, node_at, way_at}
use Rattle.lp_spec_bridge.specs.Represents.{from_key}
use Rattle.lp_spec_bridge.specs.Elaborates.{Elaborates, inner_key, row_ends, edge_ends}
use Rattle.lp_spec_bridge.specs.Names.{HasNamesApart}
use Rattle.lp_spec_bridge.proofs.Apart.{in-at, apart-at, way-true, way-self}
use Rattle.lp_spec_bridge.proofs.Driven.{no-outer}
use Rattle.lp_spec_bridge.proofs.Trails.{map-map, same-at}
use Rattle.lp_domains.specs.Domains.{is_boundary_way, has_edge}
use Rattle.lp_domains.specs.Boundary.{inner_end, is_told, is_meeting_edge, meeting_edges}
use Rattle.lp_domains.specs.Bits.{joined, join_from, joints, told_edge, bits_by}
use Rattle.lp_domains.proofs.Viewed.{same-entries}
use Rattle.lp_domains.proofs.Ends.{end_inside, way_bit, edge-end}
use Rattle.lp_domains.proofs.Ordered.{bit_way, in-order}

-- ---- lists

pub map-in : {A B : Type 0} (f g : A → B) (xs : List A) → ((x : A) → IsIn x xs → f x ≡ g x) → map f xs ≡ map g xs
map-in f g [] h = refl
map-in f g (x ∷ xs) h = (λ r. h x (inl refl) r ∷ map-in f g xs (λ y m. h y (inr m)) r)

pub in-index : {A : Type 0} (x : A) (xs : List A) → IsIn x xs → (m : ℕ) × (slice_get xs m ≡ Some x)
in-index x [] h = absurd h
in-index x (y ∷ ys) (inl is) = (0, ap (λ z. Some z) (sym is))
in-index x (y ∷ ys) (inr h) = let found = in-index x ys h in (suc found.0, found.1)

pub of-map-get : {A B : Type 0} (f : A → B) (xs : List A) (k : ℕ) (b : B) → slice_get (map f xs) k ≡ Some b → (a : A) × (slice_get xs k ≡ Some a) × (f a ≡ b)
of-map-get f [] k b e = absurd cc
of-map-get f (x ∷ xs) zero b e = let is : f x ≡ b = cc in (x, refl, is)
of-map-get f (x ∷ xs) (suc k) b e = of-map-get f xs k b e

pub take-get : {A : Type 0} (n : ℕ) (xs : List A) (k : ℕ) (a : A) → slice_get (take n xs) k ≡ Some a → slice_get xs k ≡ Some a
take-get zero xs k a e = absurd cc
take-get (suc n) [] k a e = absurd cc
take-get (suc n) (x ∷ xs) zero a e = e
take-get (suc n) (x ∷ xs) (suc k) a e = take-get n xs k a e

some-map : {A B C : Type 0} (g : B → C) (f : A → Option B) (xs : List A) → map g (some_of f xs) ≡ some_of (λ x. option_map g (f x)) xs
some-map g f [] = refl
some-map g f (x ∷ xs) = by (f x) (some-map g f xs)
  where
    by : (o : Option _) → map g (some_of f xs) ≡ some_of (λ y. option_map g (f y)) xs → map g (and_more o (some_of f xs)) ≡ and_more (option_map g o) (some_of (λ y. option_map g (f y)) xs)
    by None more = more
    by (Some b) more = ap (λ r. g b ∷ r) more

filter-some : {A B : Type 0} (q : B → Bool) (h : A → B) (xs : List A) → filter q (map h xs) ≡ some_of (λ x. when (q (h x)) (h x)) xs
filter-some q h [] = refl
filter-some q h (x ∷ xs) = by (q (h x)) (filter-some q h xs)
  where
    by : (b : Bool) → filter q (map h xs) ≡ some_of (λ y. when (q (h y)) (h y)) xs → (if b then h x ∷ filter q (map h xs) else filter q (map h xs)) ≡ and_more (when b (h x)) (some_of (λ y. when (q (h y)) (h y)) xs)
    by true more = ap (λ r. h x ∷ r) more
    by false more = more

some-entries : {A B C : Type 0} (f : A → Option C) (g : B → Option C) (xs : List A) (ys : List B) (d : A) (e : B) → length xs ≡ length ys → ((k : ℕ) → k < length xs → f (get_or xs k d) ≡ g (get_or ys k e)) → some_of f xs ≡ some_of g ys
some-entries f g [] [] d e size same = refl
some-entries f g [] (y ∷ ys) d e size same = absurd cc
some-entries f g (x ∷ xs) [] d e size same = absurd cc
some-entries f g (x ∷ xs) (y ∷ ys) d e size same =
    let rest = some-entries f g xs ys d e (omega (arith, size)) (λ k low. same (suc k) (omega (arith, low))) in
    (λ r. and_more (same 0 (omega arith) r) (rest r))

-- ---- tables of net bits

abbrev fresh : Option ℕ
fresh = None

abbrev IsHit : List EdgeRow → ℕ → ℕ → Type 0
IsHit xs k j = (x : EdgeRow) × (slice_get xs j ≡ Some x) × (inner_end x ≡ Some (record { 0 = k }))

length-joined : (table : List (Option ℕ)) (o : Option NodeId) (e : ℕ) → length (joined table o e) ≡ length table
length-joined table None e = refl
length-joined table (Some k) e = length-set table k.0 (Some e)

length-from : (table : List (Option ℕ)) (e : ℕ) (xs : List EdgeRow) → length (join_from table e xs) ≡ length table
length-from table e [] = refl
length-from table e (x ∷ xs) = length-from (joined table (inner_end x) e) (e + 1) xs ∙ length-joined table (inner_end x) e

-- a net bit has what it had and is at no edge, or it has an edge at which it is
abbrev IsJoined : List (Option ℕ) → ℕ → List EdgeRow → ℕ → Type 0
IsJoined table e xs k =
    ((get_or (join_from table e xs) k None ≡ get_or table k None) × ((j : ℕ) → IsHit xs k j → ⊥))
    ⊎ ((j : ℕ) × IsHit xs k j × (get_or (join_from table e xs) k None ≡ Some (e + j)))

-- one more edge, by its net bit inside
one-more : (table : List (Option ℕ)) (e : ℕ) (x : EdgeRow) (xs : List EdgeRow) (k : ℕ) (o : Option NodeId) → inner_end x ≡ o → k < length table
    → (get_or (join_from (joined table (inner_end x) e) (e + 1) xs) k None ≡ get_or (joined table o e) k None) → ((j : ℕ) → IsHit xs k j → ⊥) → IsJoined table e (x ∷ xs) k
one-more table e x xs k None is low same never = inl (same, out)
  where
    out : (j : ℕ) → IsHit (x ∷ xs) k j → ⊥
    out zero hit = let here : x ≡ hit.0 = cc in let some = sym is ∙ ap inner_end here ∙ hit.2 in absurd cc
    out (suc j) hit = never j hit
one-more table e x xs k (Some n) is low same never = by (n.0 == k) refl
  where
    out : (n.0 ≡ k → ⊥) → (j : ℕ) → IsHit (x ∷ xs) k j → ⊥
    out differs zero hit = let here : x ≡ hit.0 = cc in let some : Some n ≡ Some (record { 0 = k }) = sym is ∙ ap inner_end here ∙ hit.2 in differs cc
    out differs (suc j) hit = never j hit

    by : (b : Bool) → (n.0 == k) ≡ b → IsJoined table e (x ∷ xs) k
    by true f =
        let here : n.0 ≡ k = eqb-true n.0 k f in
        let first : e ≡ e + 0 = omega arith in
        inr (0, (x, refl, is ∙ (λ r. Some (record { 0 = here r }))), same ∙ ap (λ m. get_or (set table m (Some e)) k None) here ∙ get_or-set_same table k (Some e) None low ∙ ap (λ m. Some m) first)
    by false f =
        let differs : n.0 ≡ k → ⊥ = λ h. absurd (true≢false (sym (eq-eqb n.0 k h) ∙ f)) in
        inl (same ∙ get_or-set_other table n.0 k (Some e) None (λ h. differs (sym h)), out differs)

join-at : (table : List (Option ℕ)) (e : ℕ) (xs : List EdgeRow) (k : ℕ) → k < length table → IsJoined table e xs k
join-at table e [] k low = inl (refl, out)
  where
    out : (j : ℕ) → IsHit [] k j → ⊥
    out j hit = let none : None ≡ Some hit.0 = hit.1 in absurd cc
join-at table e (x ∷ xs) k low =
    elim (join-at (joined table (inner_end x) e) (e + 1) xs k (omega (arith, low, length-joined table (inner_end x) e))) [
      | inl kept ↦ one-more table e x xs k (inner_end x) refl low kept.0 kept.1
      | inr found ↦ let next : e + 1 + found.0 ≡ e + suc found.0 = omega arith in inr (suc found.0, found.1, found.2 ∙ ap (λ m. Some m) next)
    ]

-- of an empty table
pub joints-at : (n : ℕ) (xs : List EdgeRow) (k : ℕ) → k < n → ((get_or (joints n xs) k None ≡ None) × ((j : ℕ) → IsHit xs k j → ⊥)) ⊎ ((j : ℕ) × IsHit xs k j × (get_or (joints n xs) k None ≡ Some j))
joints-at n xs k low =
    let many : length (replicate n fresh) ≡ n = length-replicate n fresh in
    elim (join-at (replicate n None) 0 xs k (omega (arith, low, many))) [
      | inl kept ↦ inl (kept.0 ∙ get_or-replicate n k None None low, kept.1)
      | inr found ↦ let front : 0 + found.0 ≡ found.0 = omega arith in inr (found.0, found.1, found.2 ∙ ap (λ m. Some m) front)
    ]

pub length-joints : (n : ℕ) (xs : List EdgeRow) → length (joints n xs) ≡ n
length-joints n xs = length-from (replicate n None) 0 xs ∙ length-replicate n None

-- an edge of no design
abbrev pub nothing : EdgeRow
nothing = record { from = FromConst true; to = record { 0 = 0 }; kind = Assign }

-- ---- ways and net bits

way-back : (w : Way) (k : Node) → Some k ≡ way_bit w → bit_way k ≡ w
unfolding way_bit bit_way
way-back (PortBit p n i) k h = let is : k ≡ Inner n i p = cc in ap bit_way is
way-back (AssignBit p a j) k h = absurd cc

outer-not : (o : Option ModuleView) (k : ℕ) (n : Name) (i : Option ℕ) (p : Path) → get_or (outer_in o) k (Fixed false) ≡ Inner n i p → ⊥
outer-not o k n i p h = elim (cases_lt k (length (outer_in o))) [
  | inl low ↦ no-outer n i p o (subst (λ z. IsIn z (outer_in o)) h (in-at (outer_in o) k (Fixed false) low))
  | inr high ↦ let past : Fixed false ≡ Inner n i p = sym (get_or_past (outer_in o) k (Fixed false) high) ∙ h in absurd cc
]

path-named : (texts : List (List ℕ)) (q : Path) (name : NodeName) (n : Name) (i : Option ℕ) (p : Path) → inner_key texts q name ≡ Inner n i p → q ≡ p
path-named texts q (Scalar m) n i p h = cc
path-named texts q (Bit m j) n i p h = cc
path-named texts q (Added w) n i p h = absurd cc

module _ (texts : List (List ℕ)) (s : Structure) (t : Tables) (e : Elaborates texts s t) (apart : HasNamesApart s) (i : Intent) where
  abbrev node_of_id : NodeId → Node
  node_of_id k = node_at (keys_of s) k.0

  inner-same : (from : EdgeFrom) (to : NodeId) (kind : EdgeKind) (w : Way) → end_inside (from_key (keys_of s) from, node_at (keys_of s) to.0, kind) ≡ way_bit w → option_map node_of_id (inner_end (record { from = from; to = to; kind = kind })) ≡ way_bit w
  unfolding end_inside way_bit
  inner-same from to In w h = h
  inner-same (FromNode k) to Out w h = h
  inner-same (FromConst b) to Out (PortBit p n j) h = absurd cc
  inner-same (FromConst b) to Out (AssignBit p a j) h = absurd cc
  inner-same from to Assign w h = h

  ends-key : map (λ (x : EdgeRow). end_inside (row_ends (keys_of s) x)) t.edges ≡ map way_bit (keys_of s).ways
  ends-key =
      sym (map-map end_inside (row_ends (keys_of s)) t.edges)
      ∙ ap (map end_inside) e.edges
      ∙ map-map end_inside edge_ends (edges_of s)
      ∙ map-in (λ (x : Edge). end_inside (edge_ends x)) (λ (x : Edge). way_bit x.way) (edges_of s) (edge-end s apart)
      ∙ sym (map-map way_bit (λ (x : Edge). x.way) (edges_of s))

  -- the net bit inside of an edge is that of its way
  pub inner-at : (m : ℕ) (x : EdgeRow) → slice_get t.edges m ≡ Some x → option_map node_of_id (inner_end x) ≡ way_bit (way_at (keys_of s) m)
  inner-at m x h =
      let low = slice_get_within t.edges m x h in
      let here : get_or t.edges m x ≡ x = get_or_from_slice_get t.edges m x x h in
      let ends : end_inside (row_ends (keys_of s) (get_or t.edges m x)) ≡ way_bit (way_at (keys_of s) m) = same-at (λ (y : EdgeRow). end_inside (row_ends (keys_of s) y)) way_bit t.edges (keys_of s).ways m x (AssignBit [] 0 0) ends-key low in
      inner-same x.from x.to x.kind (way_at (keys_of s) m) (ap (λ (y : EdgeRow). end_inside (row_ends (keys_of s) y)) (sym here) ∙ ends)

  -- ---- the instance of a net bit

  pub inner-low : (k : ℕ) (n : Name) (j : Option ℕ) (p : Path) → node_at (keys_of s) k ≡ Inner n j p → k < length (inner_nodes s)
  inner-low k n j p h = elim (cases_lt k (length (inner_nodes s))) [
    | inl low ↦ low
    | inr high ↦ absurd (outer-not (module_at s []) (k - length (inner_nodes s)) n j p (sym (get_or-append_right (inner_nodes s) (outer_in (module_at s [])) (length (inner_nodes s)) k (Fixed false) refl high) ∙ h))
  ]

  pub node-here : (k : ℕ) → k < length (inner_nodes s) → get_or (inner_nodes s) k (Fixed false) ≡ node_at (keys_of s) k
  node-here k low = sym (get_or_append_left (inner_nodes s) (outer_in (module_at s [])) (Fixed false) k low)

  pub node-row : (k : ℕ) (n : Name) (j : Option ℕ) (p : Path) → node_at (keys_of s) k ≡ Inner n j p → (row : NodeRow) × (slice_get t.nodes k ≡ Some row) × (get_or (module_instances s) row.inst.0 [] ≡ p)
  node-row k n j p h =
      let low = inner-low k n j p h in
      let there : slice_get (inner_nodes s) k ≡ Some (Inner n j p) = slice_get-get_or (inner_nodes s) k (Fixed false) low ∙ ap (λ z. Some z) (node-here k low ∙ h) in
      let row = of-map-get (λ (x : NodeRow). inner_key texts (slice_index_or (module_instances s) x.inst.0 []) x.name) (take t.inner t.nodes) k (Inner n j p) (ap (λ xs. slice_get xs k) e.inner_bits ∙ there) in
      (row.0, take-get t.inner t.nodes k row.0 row.1, path-named texts (slice_index_or (module_instances s) row.0.inst.0 []) row.0.name n j p row.2)

  module _ (told : List Bool) (is : told ≡ map (is_boundary i) (module_instances s)) where
    told-path : (k : ℕ) → get_or told k true ≡ is_boundary i (get_or (module_instances s) k [])
    told-path k = ap (λ xs. get_or xs k true) is ∙ get_or-image (is_boundary i) (module_instances s) k []

    flag-of : (o : Option NodeId) (w : Way) → option_map node_of_id o ≡ way_bit w → is_told told (option_and_then (λ (k : NodeId). slice_get t.nodes k.0) o) ≡ is_boundary_way i w
    unfolding way_bit
    flag-of None (PortBit p n j) h = absurd cc
    flag-of None (AssignBit p a j) h = refl
    flag-of (Some k) (AssignBit p a j) h = absurd cc
    flag-of (Some k) (PortBit p n j) h =
        let here : node_at (keys_of s) k.0 ≡ Inner n j p = cc in
        let row = node-row k.0 n j p here in
        ap (is_told told) row.1 ∙ told-path row.0.inst.0 ∙ ap (is_boundary i) row.2

    flag-at : (m : ℕ) (x : EdgeRow) → slice_get t.edges m ≡ Some x → is_meeting_edge told t.nodes x ≡ is_boundary_way i (way_at (keys_of s) m)
    flag-at m x h = flag-of (inner_end x) (way_at (keys_of s) m) (inner-at m x h)

    pub flags-key : meeting_edges told t.nodes t.edges ≡ map (is_boundary_way i) (keys_of s).ways
    flags-key =
        let left : length (meeting_edges told t.nodes t.edges) ≡ length t.edges = length-map t.edges (is_meeting_edge told t.nodes) in
        let right = length-map (keys_of s).ways (is_boundary_way i) in
        same-entries (meeting_edges told t.nodes t.edges) (map (is_boundary_way i) (keys_of s).ways) false (left ∙ e.represents.ways ∙ sym right)
        (λ m low.
        let here : m < length t.edges = omega (arith, low, left) in
        get_or-map (is_meeting_edge told t.nodes) t.edges m nothing false here
        ∙ flag-at m (get_or t.edges m nothing) (slice_get-get_or t.edges m nothing here)
        ∙ sym (get_or-image (is_boundary_way i) (keys_of s).ways m (AssignBit [] 0 0)))

  pub of-image : (o : Option NodeId) (x : Node) → option_map node_of_id o ≡ Some x → (k : NodeId) × (o ≡ Some k) × (node_of_id k ≡ x)
  of-image None x h = absurd cc
  of-image (Some k) x h = let is : node_of_id k ≡ x = cc in (k, refl, is)

  -- ---- boundary bits in port order

  abbrev flags : List Bool
  flags = map (is_boundary_way i) (keys_of s).ways

  abbrev asked : Way → Bool
  asked w = is_boundary_way i w && has_edge s w

  abbrev edge_way : EdgeId → Way
  edge_way m = way_at (keys_of s) m.0

  -- a net bit at an edge
  hit-entry : (k m : ℕ) → IsHit t.edges k m → option_map edge_way (told_edge flags (Some m)) ≡ when (asked (bit_way (node_at (keys_of s) k))) (bit_way (node_at (keys_of s) k))
  hit-entry k m hit =
      let low : m < length (keys_of s).ways = omega (arith, slice_get_within t.edges m hit.0 hit.1, e.represents.ways) in
      let end : Some (node_at (keys_of s) k) ≡ way_bit (way_at (keys_of s) m) = sym (ap (option_map node_of_id) hit.2) ∙ inner-at m hit.0 hit.1 in
      let same = way-back (way_at (keys_of s) m) (node_at (keys_of s) k) end in
      let flag = get_or-image (is_boundary_way i) (keys_of s).ways m (AssignBit [] 0 0) in
      let has = any-in (same_way (way_at (keys_of s) m)) (way_at (keys_of s) m) (keys_of s).ways (in-at (keys_of s).ways m (AssignBit [] 0 0) low) (way-self (way_at (keys_of s) m)) in
      ap (λ b. option_map edge_way (when b (record { 0 = m }))) flag ∙ by (is_boundary_way i (way_at (keys_of s) m)) has ∙ ap (λ w. when (asked w) w) (sym same)
    where
      by : (b : Bool) → has_edge s (way_at (keys_of s) m) ≡ true → option_map edge_way (when b (record { 0 = m })) ≡ when (b && has_edge s (way_at (keys_of s) m)) (way_at (keys_of s) m)
      by true has = ap (λ h. when h (way_at (keys_of s) m)) (sym has)
      by false has = refl

  -- an edge of a net bit's way is one at that net bit
  edge-hit : (k : ℕ) → k < length (inner_nodes s) → (n : Name) (j : Option ℕ) (p : Path) → node_at (keys_of s) k ≡ Inner n j p → has_edge s (PortBit p n j) ≡ true → (m : ℕ) × IsHit t.edges k m
  unfolding way_bit
  edge-hit k low n j p is has =
      let found = of-any (same_way (PortBit p n j)) (keys_of s).ways has in
      let index = in-index found.0 (keys_of s).ways found.1 in
      let here : index.0 < length t.edges = omega (arith, slice_get_within (keys_of s).ways index.0 found.0 index.1, e.represents.ways) in
      let x : EdgeRow = get_or t.edges index.0 nothing in
      let there : slice_get t.edges index.0 ≡ Some (get_or t.edges index.0 nothing) = slice_get-get_or t.edges index.0 nothing here in
      let way : way_at (keys_of s) index.0 ≡ PortBit p n j = get_or_from_slice_get (keys_of s).ways index.0 found.0 (AssignBit [] 0 0) index.1 ∙ sym (way-true (PortBit p n j) found.0 found.2) in
      let end = of-image (inner_end (get_or t.edges index.0 nothing)) (Inner n j p) (inner-at index.0 (get_or t.edges index.0 nothing) there ∙ ap way_bit way) in
      let low-end = inner-low end.0.0 n j p end.2 in
      let size = length-append (inner_nodes s) (outer_in (module_at s [])) in
      let same : end.0.0 ≡ k = apart-at (keys_of s).nodes end.0.0 k (Fixed false) (Fixed false) e.apart.nodes (omega (arith, low-end, size)) (omega (arith, low, size)) (end.2 ∙ sym is) in
      (index.0, (get_or t.edges index.0 nothing, there, end.1 ∙ (λ r. Some (record { 0 = same r }))))

  -- and one at none
  missed-entry : (k : ℕ) → k < length (inner_nodes s) → ((m : ℕ) → IsHit t.edges k m → ⊥) → (x : Node) → node_at (keys_of s) k ≡ x → asked (bit_way x) ≡ false
  unfolding bit_way
  missed-entry k low never (Outer n j) is = refl
  missed-entry k low never (Fixed b) is = refl
  missed-entry k low never (Inner n j p) is = by (asked (PortBit p n j)) refl
    where
      by : (b : Bool) → asked (PortBit p n j) ≡ b → b ≡ false
      by false f = refl
      by true f = let hit = edge-hit k low n j p is (other (is_boundary i p) (has_edge s (PortBit p n j)) f) in absurd (never hit.0 hit.1)

  pub bits-key : map edge_way (bits_by flags (joints t.inner t.edges)) ≡ filter (has_edge s) (map way_of (boundary s i))
  bits-key =
      some-map edge_way (told_edge flags) (joints t.inner t.edges)
      ∙ some-entries (λ o. option_map edge_way (told_edge flags o)) (λ (x : Node). when (asked (bit_way x)) (bit_way x)) (joints t.inner t.edges) (inner_nodes s) None (Fixed false) (length-joints t.inner t.edges ∙ e.inner)
      (λ k low. entry k (subst (λ n. k < n) (length-joints t.inner t.edges ∙ e.inner) low))
      ∙ sym (filter-some asked bit_way (inner_nodes s))
      ∙ in-order s apart i
    where
      entry : (k : ℕ) → k < length (inner_nodes s) → option_map edge_way (told_edge flags (get_or (joints t.inner t.edges) k None)) ≡ when (asked (bit_way (get_or (inner_nodes s) k (Fixed false)))) (bit_way (get_or (inner_nodes s) k (Fixed false)))
      entry k low = elim (joints-at t.inner t.edges k (subst (λ n. k < n) (sym e.inner) low)) [
        | inl kept ↦
            ap (λ o. option_map edge_way (told_edge flags o)) kept.0
            ∙ ap (λ b. when b (bit_way (get_or (inner_nodes s) k (Fixed false)))) (sym (ap (λ x. asked (bit_way x)) (node-here k low) ∙ missed-entry k low kept.1 (node_at (keys_of s) k) refl))
        | inr found ↦
            ap (λ o. option_map edge_way (told_edge flags o)) found.2
            ∙ hit-entry k found.0 found.1
            ∙ ap (λ x. when (asked (bit_way x)) (bit_way x)) (sym (node-here k low))
      ]
