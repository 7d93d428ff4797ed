-- The net bits of all instances that are at edges of boundary bits are these bits in port order.
use Rattle.std.proofs.Common.{◌≡◌, ℕ, Bool, true, false, ◌&&◌, List, [], ◌∷◌, ◌++◌, map, Option, Some, None, inl, inr, refl, sym, ap, ◌∙◌, subst}
use Rattle.std.specs.Prelude.{filter, flat_map, if◌then◌else◌}
use Rattle.std.proofs.lemmas.List.{append-nil, map-append}
use Rattle.std.proofs.lemmas.List.Elements.{filter-append}
use Rattle.lp_model.specs.declared.netlist.BitRange.{BitRange}
use Rattle.lp_model.specs.NetlistView.{PortView, NetView, ModuleView}
use Rattle.lp_spec_design.specs.Keys.{Name, Path, Node, Inner, Outer, Fixed, Way, PortBit, AssignBit, same_way}
use Rattle.lp_spec_design.specs.Netlists.{Structure, module_at, indices}
use Rattle.lp_spec_design.specs.Instances.{module_instances}
use Rattle.lp_spec_design.specs.Intents.{Intent}
use Rattle.lp_spec_design.specs.Domains.{BoundaryBit, way_of, bits_of, is_boundary, boundary}
use Rattle.lp_spec_design.specs.Nodes.{nodes_in, inner_nodes}
use Rattle.lp_spec_design.specs.Winners.{IsIn}
use Rattle.lp_spec_design.proofs.Members.{in-map, of-map, of-flat, of-any}
use Rattle.lp_spec_bridge.specs.Edges.{Edge, edges_of}
use Rattle.lp_spec_bridge.specs.Keyed.{keys_of}
use Rattle.lp_spec_bridge.specs.Names.{HasNamesApart}
use Rattle.lp_spec_bridge.proofs.Apart.{way-true}
use Rattle.lp_spec_bridge.proofs.Distinct.{apart-parts, module-in}
use Rattle.lp_spec_bridge.proofs.Driven.{flat-same}
use Rattle.lp_spec_bridge.proofs.Readers.{map-flat}
use Rattle.lp_spec_bridge.proofs.Trails.{map-map}
use Rattle.lp_domains.specs.Domains.{is_boundary_way, has_edge}
use Rattle.lp_domains.proofs.Ends.{edge-port}

-- ---- lists

filter-flat : {A B : Type 0} (p : B → Bool) (f : A → List B) (xs : List A) → filter p (flat_map f xs) ≡ flat_map (λ x. filter p (f x)) xs
filter-flat p f [] = refl
filter-flat p f (x ∷ xs) = filter-append p (f x) (flat_map f xs) ∙ ap (λ r. filter p (f x) ++ r) (filter-flat p f xs)

-- parts of those members that pass a test
flat-filter : {A B : Type 0} (t : A → Bool) (f : A → List B) (xs : List A) → flat_map f (filter t xs) ≡ flat_map (λ x. if t x then f x else []) xs
flat-filter t f [] = refl
flat-filter t f (x ∷ xs) = by (t x) (flat-filter t f xs)
  where
    by : (b : Bool) → flat_map f (filter t xs) ≡ flat_map (λ x. if t x then f x else []) xs → flat_map f (if b then x ∷ filter t xs else filter t xs) ≡ (if b then f x else []) ++ flat_map (λ x. if t x then f x else []) xs
    by true more = ap (λ r. f x ++ r) more
    by false more = more

filter-none : {A : Type 0} (p : A → Bool) (xs : List A) → ((x : A) → IsIn x xs → p x ≡ false) → filter p xs ≡ []
filter-none p [] h = refl
filter-none p (x ∷ xs) h = ap (λ b. if b then x ∷ filter p xs else filter p xs) (h x (inl refl)) ∙ filter-none p xs (λ y m. h y (inr m))

filter-same : {A : Type 0} (p q : A → Bool) (xs : List A) → ((x : A) → IsIn x xs → p x ≡ q x) → filter p xs ≡ filter q xs
filter-same p q [] h = refl
filter-same p q (x ∷ xs) h = ap (λ b. if b then x ∷ filter p xs else filter p xs) (h x (inl refl)) ∙ ap (λ r. if q x then x ∷ r else r) (filter-same p q xs (λ y m. h y (inr m)))

-- ---- ways of net bits

unfoldable pub bit_way : Node → Way
bit_way (Inner n i p) = PortBit p n i
bit_way (Outer n i) = AssignBit [] 0 0
bit_way (Fixed b) = AssignBit [] 0 0

abbrev ways : {A : Type 0} → (A → Name) → (A → Option BitRange) → Path → List A → List Way
ways name range p xs = flat_map (λ x. map (λ i. PortBit p (name x) i) (indices (range x))) xs

net-ways : {A : Type 0} (name : A → Name) (range : A → Option BitRange) (p : Path) (xs : List A) → map bit_way (flat_map (λ x. map (λ i. Inner (name x) i p) (indices (range x))) xs) ≡ ways name range p xs
unfolding bit_way
net-ways name range p xs =
    map-flat bit_way (λ x. map (λ i. Inner (name x) i p) (indices (range x))) xs
    ∙ flat-same (λ x. map bit_way (map (λ i. Inner (name x) i p) (indices (range x)))) (λ x. map (λ i. PortBit p (name x) i) (indices (range x))) xs (λ x h. map-map bit_way (λ i. Inner (name x) i p) (indices (range x)))

way-in : {A : Type 0} (name : A → Name) (range : A → Option BitRange) (p : Path) (xs : List A) (w : Way) → IsIn w (ways name range p xs) → (x : A) × IsIn x xs × ((i : Option ℕ) × (w ≡ PortBit p (name x) i))
way-in name range p xs w h =
    let x = of-flat (λ x. map (λ i. PortBit p (name x) i) (indices (range x))) w xs h in
    let i = of-map (λ i. PortBit p (name x.0) i) w (indices (range x.0)) x.2 in
    (x.0, x.1, (i.0, i.2))

some-is : {A : Type 0} (a b : A) → Some a ≡ Some b → a ≡ b
some-is a b e = cc

-- ---- of one instance

abbrev pub bits_list : Path → Option ModuleView → List BoundaryBit
bits_list p None = []
bits_list p (Some m) = flat_map (λ (x : PortView). map (λ i. record { path = p; port = x; index = i }) (indices x.range)) m.ports

module _ (s : Structure) where
  pub bits-are : (p : Path) (o : Option ModuleView) → module_at s p ≡ o → bits_of s p ≡ bits_list p o
  bits-are p None e = rw e refl
  bits-are p (Some m) e = rw e refl

  port-ways : (p : Path) (m : ModuleView) → map way_of (bits_list p (Some m)) ≡ ways (λ (x : PortView). x.name) (λ (x : PortView). x.range) p m.ports
  port-ways p m =
      map-flat way_of (λ (x : PortView). map (λ i. record { path = p; port = x; index = i }) (indices x.range)) m.ports
      ∙ flat-same (λ (x : PortView). map way_of (map (λ i. record { path = p; port = x; index = i }) (indices x.range))) (λ (x : PortView). map (λ i. PortBit p x.name i) (indices x.range)) m.ports (λ x h. map-map way_of (λ i. record { path = p; port = x; index = i }) (indices x.range))

  module _ (apart : HasNamesApart s) (i : Intent) where
    -- no edge is one of a net that is no port
    net-no-edge : (p : Path) (m : ModuleView) (x : NetView) (j : Option ℕ) → module_at s p ≡ Some m → IsIn x m.nets → has_edge s (PortBit p x.name j) ≡ false
    net-no-edge p m x j at h = by (has_edge s (PortBit p x.name j)) refl
      where
        by : (b : Bool) → has_edge s (PortBit p x.name j) ≡ b → b ≡ false
        by false e = refl
        by true e =
            let found = of-any (same_way (PortBit p x.name j)) (keys_of s).ways e in
            let edge = of-map (λ (z : Edge). z.way) found.0 (edges_of s) found.1 in
            let same : edge.0.way ≡ PortBit p x.name j = sym edge.2 ∙ sym (way-true (PortBit p x.name j) found.0 found.2) in
            let has = edge-port s apart edge.0 p x.name j edge.1 same in
            let inside : has.inside ≡ m = some-is has.inside m (sym has.at ∙ at) in
            let listed = subst (λ (z : ModuleView). IsIn has.port z.ports) inside has.listed in
            let name = subst (λ n. IsIn n (map (λ (q : PortView). q.name) m.ports)) has.named (in-map (λ (q : PortView). q.name) has.port m.ports listed) in
            absurd (apart-parts (map (λ (q : PortView). q.name) m.ports) (map (λ (y : NetView). y.name) m.nets) x.name (apart.nets m (module-in s p m at)) name (in-map (λ (y : NetView). y.name) x m.nets h))

    abbrev asked : Way → Bool
    asked w = is_boundary_way i w && has_edge s w

    -- one instance gives the ways of its ports' bits that have edges, where it is at the boundary
    abbrev of_instance : Path → List Way
    of_instance p = filter (has_edge s) (map way_of (bits_of s p))

    abbrev port_ways : Path → ModuleView → List Way
    port_ways p m = ways (λ (x : PortView). x.name) (λ (x : PortView). x.range) p m.ports

    abbrev nets_ways : Path → ModuleView → List Way
    nets_ways p m = ways (λ (x : NetView). x.name) (λ (x : NetView). x.range) p m.nets

    and-false : (b : Bool) → (b && false) ≡ false
    and-false true = refl
    and-false false = refl

    one-instance : (p : Path) (o : Option ModuleView) → module_at s p ≡ o → filter asked (map bit_way (nodes_in p o)) ≡ (if is_boundary i p then of_instance p else [])
    one-instance p None e = by (is_boundary i p)
      where
        by : (b : Bool) → [] ≡ (if b then of_instance p else [])
        by true = ap (λ bits. filter (has_edge s) (map way_of bits)) (sym (bits-are p None e))
        by false = refl
    one-instance p (Some m) e =
        ap (filter asked) (map-append bit_way (flat_map (λ (x : PortView). map (λ j. Inner x.name j p) (indices x.range)) m.ports) (flat_map (λ (x : NetView). map (λ j. Inner x.name j p) (indices x.range)) m.nets))
        ∙ (λ r. filter asked (net-ways (λ (x : PortView). x.name) (λ (x : PortView). x.range) p m.ports r ++ net-ways (λ (x : NetView). x.name) (λ (x : NetView). x.range) p m.nets r))
        ∙ filter-append asked (port_ways p m) (nets_ways p m)
        ∙ ap (λ r. filter asked (port_ways p m) ++ r) (filter-none asked (nets_ways p m) (λ w h. no-net w h))
        ∙ append-nil (filter asked (port_ways p m))
        ∙ by (is_boundary i p) refl
      where
        no-net : (w : Way) → IsIn w (nets_ways p m) → asked w ≡ false
        no-net w h =
            let x = way-in (λ (x : NetView). x.name) (λ (x : NetView). x.range) p m.nets w h in
            ap asked x.2.1 ∙ ap (λ b. is_boundary i p && b) (net-no-edge p m x.0 x.2.0 e x.1) ∙ and-false (is_boundary i p)

        at-port : (w : Way) → IsIn w (port_ways p m) → asked w ≡ (is_boundary i p && has_edge s w)
        at-port w h =
            let x = way-in (λ (x : PortView). x.name) (λ (x : PortView). x.range) p m.ports w h in
            ap (λ v. is_boundary_way i v && has_edge s w) x.2.1

        by : (b : Bool) → is_boundary i p ≡ b → filter asked (port_ways p m) ≡ (if b then of_instance p else [])
        by true f =
            filter-same asked (has_edge s) (port_ways p m) (λ w h. at-port w h ∙ ap (λ b. b && has_edge s w) f)
            ∙ ap (filter (has_edge s)) (sym (port-ways p m))
            ∙ ap (λ bits. filter (has_edge s) (map way_of bits)) (sym (bits-are p (Some m) e))
        by false f = filter-none asked (port_ways p m) (λ w h. at-port w h ∙ ap (λ b. b && has_edge s w) f)

    pub in-order : filter asked (map bit_way (inner_nodes s)) ≡ filter (has_edge s) (map way_of (boundary s i))
    unfolding inner_nodes
    in-order =
        ap (filter asked) (map-flat bit_way (λ p. nodes_in p (module_at s p)) (module_instances s))
        ∙ filter-flat asked (λ p. map bit_way (nodes_in p (module_at s p))) (module_instances s)
        ∙ flat-same (λ p. filter asked (map bit_way (nodes_in p (module_at s p)))) (λ p. if is_boundary i p then of_instance p else []) (module_instances s) (λ p h. one-instance p (module_at s p) refl)
        ∙ sym (flat-filter (is_boundary i) of_instance (module_instances s))
        ∙ sym (filter-flat (has_edge s) (λ p. map way_of (bits_of s p)) (filter (is_boundary i) (module_instances s)))
        ∙ ap (filter (has_edge s)) (sym (map-flat way_of (bits_of s) (filter (is_boundary i) (module_instances s))))
