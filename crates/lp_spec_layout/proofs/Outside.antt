-- The feeds of the top's ports, on both sides, mean their drives.
use Rattle.std.proofs.Common.{◌≡◌, ◌+◌, ℕ, suc, Bool, true, false, List, [], ◌∷◌, ◌++◌, map, Option, Some, None, refl, sym, ap, ◌∙◌, arith}
use Rattle.std.specs.Prelude.{filter, flat_map, if◌then◌else◌, slice_get}
use Rattle.lp_model.specs.declared.graph.EdgeFrom.TheVariants.{Node as FromNode}
use Rattle.lp_model.specs.declared.graph.EdgeKind.TheVariants.{In, Out}
use Rattle.lp_model.specs.NetlistView.{PortView, ModuleView}
use Rattle.lp_spec_design.specs.Keys.{Node, Inner, Outer, PortBit, From, Environment}
use Rattle.lp_spec_design.specs.Netlists.{Structure, indices, is_input}
use Rattle.lp_spec_design.specs.Graph.{and_more, some_of, when, numbered, outside}
use Rattle.lp_spec_design.specs.Reads.{node-self}
use Rattle.lp_spec_bridge.specs.Tables.{Tables}
use Rattle.lp_spec_bridge.specs.Edges.{Drive, port_drives, outer_drives}
use Rattle.lp_spec_bridge.specs.Keyed.{Keyed}
use Rattle.lp_spec_bridge.proofs.Trails.{map-map}
use Rattle.lp_spec_bridge.proofs.Readers.{map-flat}
use Rattle.lp_spec_layout.specs.Sites.{port_bits}
use Rattle.lp_spec_layout.specs.Feeds.{ByEdge, ByOutside, top_feed, outer_feed}
use Rattle.lp_spec_layout.proofs.Lists.{flat-equal}
use Rattle.lp_spec_layout.proofs.Numbered.{Along, Of, Meant, drive_meant, feed_meant}

-- a bit of a port
abbrev pub PortPlace : Type 0
PortPlace = PortView × Option ℕ

abbrev pub places_in : List PortView → List PortPlace
places_in ports = flat_map (λ (x : PortView). map (λ i. (x, i)) (indices x.range)) ports

-- a value for each bit
pub places-map : {B : Type 0} (f : PortPlace → B) (ports : List PortView) → map f (places_in ports) ≡ flat_map (λ (x : PortView). map (λ i. f (x, i)) (indices x.range)) ports
places-map f ports =
    map-flat f (λ (x : PortView). map (λ i. (x, i)) (indices x.range)) ports
    ∙ flat-equal (λ (x : PortView). map f (map (λ i. (x, i)) (indices x.range))) (λ (x : PortView). map (λ i. f (x, i)) (indices x.range)) ports (λ x. map-map f (λ i. (x, i)) (indices x.range))

abbrev pub inner_place : PortPlace → Node
inner_place z = Inner z.0.name z.1 []

abbrev pub outer_place : PortPlace → Node
outer_place z = Outer z.0.name z.1

-- what drives the inner side of an input
abbrev in_drive : PortPlace → Drive
in_drive z = (inner_place z, From (PortBit [] z.0.name z.1) (outer_place z))

abbrev when_in : PortPlace → Option Drive
when_in z = when (is_input z.0) (in_drive z)

more-join : {B : Type 0} (o : Option B) (xs ys : List B) → and_more o (xs ++ ys) ≡ and_more o xs ++ ys
more-join None xs ys = refl
more-join (Some z) xs ys = refl

some-join : {A B : Type 0} (f : A → Option B) (xs ys : List A) → some_of f (xs ++ ys) ≡ some_of f xs ++ some_of f ys
some-join f [] ys = refl
some-join f (x ∷ xs) ys = ap (and_more (f x)) (some-join f xs ys) ∙ more-join (f x) (some_of f xs) (some_of f ys)

all-when : (b : Bool) (x : PortView) (idx : List (Option ℕ)) → some_of (λ z. when b (in_drive z)) (map (λ i. (x, i)) idx) ≡ (if b then map (λ i. in_drive (x, i)) idx else [])
all-when true x [] = refl
all-when false x [] = refl
all-when true x (i ∷ idx) = ap (λ r. in_drive (x, i) ∷ r) (all-when true x idx)
all-when false x (i ∷ idx) = all-when false x idx

one-port : (x : PortView) (idx : List (Option ℕ)) → some_of when_in (map (λ i. (x, i)) idx) ≡ some_of (λ z. when (is_input x) (in_drive z)) (map (λ i. (x, i)) idx)
one-port x [] = refl
one-port x (i ∷ idx) = ap (λ r. and_more (when (is_input x) (in_drive (x, i))) r) (one-port x idx)

inputs-when : (s : Structure) (ports : List PortView) → flat_map (port_drives s []) (filter is_input ports) ≡ some_of when_in (places_in ports)
inputs-when s [] = refl
inputs-when s (x ∷ ports) =
    by (is_input x) (inputs-when s ports)
    ∙ ap (λ r. r ++ some_of when_in (places_in ports)) (sym (one-port x (indices x.range) ∙ all-when (is_input x) x (indices x.range)))
    ∙ sym (some-join when_in (map (λ i. (x, i)) (indices x.range)) (places_in ports))
  where
    by : (b : Bool) → flat_map (port_drives s []) (filter is_input ports) ≡ some_of when_in (places_in ports)
        → flat_map (port_drives s []) (if b then x ∷ filter is_input ports else filter is_input ports) ≡ (if b then map (λ i. in_drive (x, i)) (indices x.range) else []) ++ some_of when_in (places_in ports)
    by true more = ap (λ r. map (λ i. in_drive (x, i)) (indices x.range) ++ r) more
    by false more = more

module _ (s : Structure) (ks : Keyed) (t : Tables) (n : ℕ) where
  -- the bits of ports are nodes from one number on, and their outer sides from another
  abbrev Both : ℕ → List PortPlace → Type 0
  Both k zs = (j : ℕ) (z : PortPlace) → slice_get zs j ≡ Some z → (slice_get ks.nodes (k + j) ≡ Some (inner_place z)) × (slice_get ks.nodes (n + (k + j)) ≡ Some (outer_place z))

  both-here : (k : ℕ) (z : PortPlace) (zs : List PortPlace) → Both k (z ∷ zs) → (slice_get ks.nodes k ≡ Some (inner_place z)) × (slice_get ks.nodes (n + k) ≡ Some (outer_place z))
  both-here k z zs h =
      let place : k ≡ k + 0 = omega arith in
      (ap (slice_get ks.nodes) place ∙ (h 0 z refl).0, ap (λ i. slice_get ks.nodes (n + i)) place ∙ (h 0 z refl).1)

  both-later : (k : ℕ) (z : PortPlace) (zs : List PortPlace) → Both k (z ∷ zs) → Both (k + 1) zs
  both-later k z zs h j y g =
      let place : (k + 1) + j ≡ k + suc j = omega arith in
      (ap (slice_get ks.nodes) place ∙ (h (suc j) y g).0, ap (λ i. slice_get ks.nodes (n + i)) place ∙ (h (suc j) y g).1)

  inputs-from : (k : ℕ) (zs : List PortPlace) → Both k zs → map (feed_meant s ks t) (some_of (top_feed n) (numbered k (map (λ (z : PortPlace). is_input z.0) zs))) ≡ map drive_meant (some_of when_in zs)
  inputs-from k [] h = refl
  inputs-from k (z ∷ zs) h = by (is_input z.0) (both-here k z zs h) (inputs-from (k + 1) zs (both-later k z zs h))
    where
      by : (b : Bool) → (slice_get ks.nodes k ≡ Some (inner_place z)) × (slice_get ks.nodes (n + k) ≡ Some (outer_place z))
          → map (feed_meant s ks t) (some_of (top_feed n) (numbered (k + 1) (map (λ (z : PortPlace). is_input z.0) zs))) ≡ map drive_meant (some_of when_in zs)
          → map (feed_meant s ks t) (and_more (if b then Some (k, ByEdge (FromNode (record { 0 = n + k })) In) else None) (some_of (top_feed n) (numbered (k + 1) (map (λ (z : PortPlace). is_input z.0) zs)))) ≡ map drive_meant (and_more (when b (in_drive z)) (some_of when_in zs))
      by false at more = more
      by true at more =
          ap {B = List Meant} (λ o. (o, Along (slice_get ks.nodes (n + k)) In) ∷ map (feed_meant s ks t) (some_of (top_feed n) (numbered (k + 1) (map (λ (z : PortPlace). is_input z.0) zs)))) at.0
          ∙ ap {B = List Meant} (λ o. (Some (inner_place z), Along o In) ∷ map (feed_meant s ks t) (some_of (top_feed n) (numbered (k + 1) (map (λ (z : PortPlace). is_input z.0) zs)))) at.1
          ∙ ap {B = List Meant} (λ c. (Some (inner_place z), Along (Some (outer_place z)) (if c then In else Out)) ∷ map (feed_meant s ks t) (some_of (top_feed n) (numbered (k + 1) (map (λ (z : PortPlace). is_input z.0) zs)))) (sym (node-self (inner_place z)))
          ∙ ap {B = List Meant} (λ r. drive_meant (in_drive z) ∷ r) more

  outers-from : (k : ℕ) (zs : List PortPlace) → Both k zs → map (feed_meant s ks t) (map (outer_feed n) (numbered k (map (λ (z : PortPlace). is_input z.0) zs))) ≡ map drive_meant (map (λ (z : PortPlace). (outer_place z, outside z.0.name z.1 z.0)) zs)
  outers-from k [] h = refl
  outers-from k (z ∷ zs) h = by (is_input z.0) (both-here k z zs h) (outers-from (k + 1) zs (both-later k z zs h))
    where
      by : (b : Bool) → (slice_get ks.nodes k ≡ Some (inner_place z)) × (slice_get ks.nodes (n + k) ≡ Some (outer_place z))
          → map (feed_meant s ks t) (map (outer_feed n) (numbered (k + 1) (map (λ (z : PortPlace). is_input z.0) zs))) ≡ map drive_meant (map (λ (z : PortPlace). (outer_place z, outside z.0.name z.1 z.0)) zs)
          → feed_meant s ks t (n + k, (if b then ByOutside else ByEdge (FromNode (record { 0 = k })) Out)) ∷ map (feed_meant s ks t) (map (outer_feed n) (numbered (k + 1) (map (λ (z : PortPlace). is_input z.0) zs)))
          ≡ drive_meant (outer_place z, (if b then Environment else From (PortBit [] z.0.name z.1) (Inner z.0.name z.1 []))) ∷ map drive_meant (map (λ (z : PortPlace). (outer_place z, outside z.0.name z.1 z.0)) zs)
      by true at more =
          ap {B = List Meant} (λ o. (o, Of (Some Environment)) ∷ map (feed_meant s ks t) (map (outer_feed n) (numbered (k + 1) (map (λ (z : PortPlace). is_input z.0) zs)))) at.1
          ∙ ap {B = List Meant} (λ r. (Some (outer_place z), Of (Some Environment)) ∷ r) more
      by false at more =
          ap {B = List Meant} (λ o. (o, Along (slice_get ks.nodes k) Out) ∷ map (feed_meant s ks t) (map (outer_feed n) (numbered (k + 1) (map (λ (z : PortPlace). is_input z.0) zs)))) at.1
          ∙ ap {B = List Meant} (λ o. (Some (outer_place z), Along o Out) ∷ map (feed_meant s ks t) (map (outer_feed n) (numbered (k + 1) (map (λ (z : PortPlace). is_input z.0) zs)))) at.0
          ∙ ap {B = List Meant} (λ r. (Some (outer_place z), Along (Some (inner_place z)) Out) ∷ r) more

  -- those of a module's ports
  pub top-inputs-mean : (m : ModuleView) → Both 0 (places_in m.ports) → map (feed_meant s ks t) (some_of (top_feed n) (numbered 0 (port_bits m))) ≡ map drive_meant (flat_map (port_drives s []) (filter is_input m.ports))
  top-inputs-mean m h =
      ap (λ bs. map (feed_meant s ks t) (some_of (top_feed n) (numbered 0 bs))) (sym (places-map (λ (z : PortPlace). is_input z.0) m.ports))
      ∙ inputs-from 0 (places_in m.ports) h
      ∙ ap (map drive_meant) (sym (inputs-when s m.ports))

  pub top-outers-mean : (m : ModuleView) → Both 0 (places_in m.ports) → map (feed_meant s ks t) (map (outer_feed n) (numbered 0 (port_bits m))) ≡ map drive_meant (outer_drives (Some m))
  top-outers-mean m h =
      ap (λ bs. map (feed_meant s ks t) (map (outer_feed n) (numbered 0 bs))) (sym (places-map (λ (z : PortPlace). is_input z.0) m.ports))
      ∙ outers-from 0 (places_in m.ports) h
      ∙ ap (map drive_meant) (places-map (λ (z : PortPlace). (outer_place z, outside z.0.name z.1 z.0)) m.ports)
