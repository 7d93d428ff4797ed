-- No source of a node is listed twice, in a netlist with names of its own.
use Rattle.std.proofs.Common.{◌≡◌, ◌≤◌, ℕ, suc, Bool, true, false, not, ◌&&◌, List, [], ◌∷◌, ◌++◌, map, length, Option, Some, None, inl, inr, refl, sym, ◌∙◌, ap, subst, arith}
use Rattle.std.specs.Prelude.{bytes_eq, filter, flat_map, is_some, option_and_then, unwrap_or, if◌then◌else◌}
use Rattle.std.specs.List.{list_any, list_all}
use Rattle.lp_model.specs.NetlistView.{BitView, PortView, NetView, InstanceView, AssignView, ModuleView}
use Rattle.lp_model.specs.LibraryView.{PgPinView, PinView, CellView}
use Rattle.lp_spec_design.specs.Keys.{Name, Path, Node, Inner, Outer, Fixed, PortBit, AssignBit, Source, CellPin, SwitchedPin, From, same_node, same_index}
use Rattle.lp_spec_design.specs.Netlists.{Structure, first, module_named, cell_named, module_at, indices, node_of, connected, is_input}
use Rattle.lp_spec_design.specs.Graph.{pairs, some_of, when, numbered, joined_outside, from_port, ports_in, joined_inside, from_instance, is_output_pin, touches, from_cell, from_target, from_one, from_assign, outside, in_module, sources_of}
use Rattle.lp_spec_design.specs.Reads.{one, other, name-true, index-true}
use Rattle.lp_spec_design.specs.Winners.{IsIn}
use Rattle.lp_spec_design.proofs.Members.{IsApart, of-flat, of-filter, of-some, of-when, in-either}
use Rattle.lp_spec_design.proofs.Sources.{first_in}
use Rattle.lp_spec_bridge.proofs.Driven.{indices-apart}
use Rattle.lp_spec_realises.specs.ProjectNetlists.{are_apart, names_in}
use Rattle.lp_spec_written_at.specs.Sources.{cell_names}
use Rattle.lp_spec_written_at.proofs.Instances.{apart-append, apart-flat}
use Rattle.lp_spec_written_at.proofs.Lists.{of-all, apart-right}
use Rattle.lp_spec_written_at.proofs.Modules.{from-modules}
use Rattle.lp_spec_driven.proofs.Sources.{of-when-is, in-by}
use Rattle.lp_spec_single.specs.Names.{HasOwnNames}
use Rattle.lp_spec_single.specs.Laws.{SourcesDiffer, EqualSourcesAreSingle}
use Rattle.lp_spec_single.proofs.Lists.{apart-few, apart-places, filter-apart, some-apart, named-apart, named-same, apart-left, numbered-apart, numbered-same, pairs-apart, pairs-same}

-- ---- what a source tells of where it comes from

abbrev pub named_by : Source → Name
named_by (CellPin p x q) = x
named_by (SwitchedPin p x q) = x
named_by (From (PortBit (i ∷ p) n j) k) = i
named_by _ = []

abbrev pub pinned_by : Source → Name
pinned_by (CellPin p x q) = q
pinned_by (SwitchedPin p x q) = q
pinned_by (From (PortBit p n j) k) = n
pinned_by _ = []

abbrev pub index_by : Source → Option ℕ
index_by (From (PortBit p n j) k) = j
index_by _ = None

abbrev pub assign_by : Source → ℕ
assign_by (From (AssignBit p a k) j) = a
assign_by _ = 0

abbrev pub bit_by : Source → ℕ
bit_by (From (AssignBit p a k) j) = k
bit_by _ = 0

-- which port's way it is: of the instance itself, of one below it; no port's way
abbrev pub depth_by : Source → ℕ
depth_by (From (PortBit p n j) k) = suc (length p)
depth_by _ = 0

abbrev pub is_assign : Source → Bool
is_assign (From (AssignBit p a k) j) = true
is_assign _ = false

abbrev pub is_pg : Source → Bool
is_pg (SwitchedPin p x q) = true
is_pg _ = false

abbrev pub name_of_port : PortView → Name
name_of_port q = q.name

-- ---- a module

module _ (w : Structure) (own : HasOwnNames w) (x : Path) (m : ModuleView) (e : module_at w x ≡ Some m) where
  pub own_names : are_apart (names_in m) ≡ true
  own_names = of-all (λ (k : ModuleView). are_apart (names_in k)) m w.modules (other (are_apart (map (λ (k : ModuleView). k.name) w.modules)) (list_all (λ k. are_apart (names_in k)) w.modules) own.parts) (from-modules w x m e)

  pub port-names : are_apart (map name_of_port m.ports) ≡ true
  port-names = apart-left (map name_of_port m.ports) (map (λ (n : NetView). n.name) m.nets ++ map (λ (y : InstanceView). y.name) m.instances) own_names

  instance-names : are_apart (map (λ (y : InstanceView). y.name) m.instances) ≡ true
  instance-names =
      apart-right (map (λ (n : NetView). n.name) m.nets) (map (λ (y : InstanceView). y.name) m.instances)
      (apart-right (map name_of_port m.ports) (map (λ (n : NetView). n.name) m.nets ++ map (λ (y : InstanceView). y.name) m.instances) own_names)

  module _ (n : Name) (i : Option ℕ) where
    -- ---- its own ports

    joined-few : (u : Path) (inst : Name) (port : PortView) (y : InstanceView) (inner : ModuleView) → IsApart (joined_outside u inst n i port y inner)
    joined-few u inst port y inner =
        some-apart (λ (pair : Option ℕ × BitView). when (same_index pair.0 i) (From (PortBit (inst ∷ u) n i) (node_of u pair.1))) (pairs (indices port.range) (connected inner.ports n y.connections))
        (pairs-apart (indices port.range) (connected inner.ports n y.connections) (indices-apart port.range))
        (λ a b z h g f k.
        pairs-same (indices port.range) (connected inner.ports n y.connections) (indices-apart port.range) a b h g
        (index-true a.0 i (of-when (same_index a.0 i) (From (PortBit (inst ∷ u) n i) (node_of u a.1)) z f)
        ∙ sym (index-true b.0 i (of-when (same_index b.0 i) (From (PortBit (inst ∷ u) n i) (node_of u b.1)) z k))))

    port-few : (u : Path) (port : PortView) → IsApart (from_port w u n i port)
    port-few [] port = by (list_any (same_index i) (indices port.range))
      where
        by : (b : Bool) → IsApart (if b then From (PortBit [] n i) (Outer n i) ∷ [] else [])
        by true = ((λ h. h), tt)
        by false = tt
    port-few (inst ∷ u) port = by-module (module_at w u)
      where
        by-inner : (y : InstanceView) (o : Option ModuleView) → IsApart (unwrap_or (option_and_then (λ inner. Some (joined_outside u inst n i port y inner)) o) [])
        by-inner y None = tt
        by-inner y (Some inner) = joined-few u inst port y inner

        by-instance : (o : Option InstanceView) → IsApart (unwrap_or (option_and_then (λ y. option_and_then (λ inner. Some (joined_outside u inst n i port y inner)) (module_named w y.target)) o) [])
        by-instance None = tt
        by-instance (Some y) = by-inner y (module_named w y.target)

        by-module : (o : Option ModuleView) → IsApart (unwrap_or (option_and_then (λ outer. option_and_then (λ y. option_and_then (λ inner. Some (joined_outside u inst n i port y inner)) (module_named w y.target)) (first (λ y. bytes_eq y.name inst) outer.instances)) o) [])
        by-module None = tt
        by-module (Some outer) = by-instance (first (λ (y : InstanceView). bytes_eq y.name inst) outer.instances)

    abbrev is_here : PortView → Bool
    is_here q = bytes_eq q.name n && is_input q

    one-port : (q r : PortView) → IsIn q (filter is_here m.ports) → IsIn r (filter is_here m.ports) → q ≡ r
    one-port q r h g =
        let a = of-filter is_here q m.ports h in
        let b = of-filter is_here r m.ports g in
        named-same name_of_port m.ports port-names q r a.0 b.0 (name-true q.name n (one (bytes_eq q.name n) (is_input q) a.1) ∙ sym (name-true r.name n (one (bytes_eq r.name n) (is_input r) b.1)))

    pub ports-apart : IsApart (ports_in w x n i m)
    ports-apart =
        apart-flat (from_port w x n i) (filter is_here m.ports) (filter-apart is_here m.ports (named-apart name_of_port m.ports port-names))
        (λ q h. port-few x q) (λ q r b h g f k. one-port q r h g)

    -- ---- instances

    joined-apart : (y : InstanceView) (inner : ModuleView) (port : PortView) → IsApart (joined_inside x n i y inner port)
    joined-apart y inner port =
        some-apart (λ (pair : Option ℕ × BitView). when (same_node (node_of x pair.1) (Inner n i x)) (From (PortBit (y.name ∷ x) port.name pair.0) (Inner port.name pair.0 (y.name ∷ x)))) (pairs (indices port.range) (connected inner.ports port.name y.connections))
        (pairs-apart (indices port.range) (connected inner.ports port.name y.connections) (indices-apart port.range))
        (λ a b z h g f k.
        pairs-same (indices port.range) (connected inner.ports port.name y.connections) (indices-apart port.range) a b h g
        (sym (ap index_by (of-when-is (same_node (node_of x a.1) (Inner n i x)) (From (PortBit (y.name ∷ x) port.name a.0) (Inner port.name a.0 (y.name ∷ x))) z f))
        ∙ ap index_by (of-when-is (same_node (node_of x b.1) (Inner n i x)) (From (PortBit (y.name ∷ x) port.name b.0) (Inner port.name b.0 (y.name ∷ x))) z k)))

    -- a source from an output port of a module instance
    pub record OfPort (y : InstanceView) (port : PortView) (z : Source) : Type 0 where
      pub index : Option ℕ
      pub is : z ≡ From (PortBit (y.name ∷ x) port.name index) (Inner port.name index (y.name ∷ x))

    pub of-joined : (y : InstanceView) (inner : ModuleView) (port : PortView) (z : Source) → IsIn z (joined_inside x n i y inner port) → OfPort y port z
    of-joined y inner port z h =
        let found = of-some (λ (pair : Option ℕ × BitView). when (same_node (node_of x pair.1) (Inner n i x)) (From (PortBit (y.name ∷ x) port.name pair.0) (Inner port.name pair.0 (y.name ∷ x)))) z (pairs (indices port.range) (connected inner.ports port.name y.connections)) h in
        record { index = found.0.0; is = of-when-is (same_node (node_of x found.0.1) (Inner n i x)) (From (PortBit (y.name ∷ x) port.name found.0.0) (Inner port.name found.0.0 (y.name ∷ x))) z found.2 }

    of-module : (y : InstanceView) (inner : ModuleView) (z : Source) → IsIn z (from_instance x n i y inner) → (port : PortView) × IsIn port inner.ports × OfPort y port z
    of-module y inner z h =
        let found = of-flat (joined_inside x n i y inner) z (filter (λ (q : PortView). not (is_input q)) inner.ports) h in
        (found.0, (of-filter (λ (q : PortView). not (is_input q)) found.0 inner.ports found.1).0, of-joined y inner found.0 z found.2)

    abbrev pin_at : InstanceView → PinView → Option Source
    pin_at y q = when (is_output_pin q && touches x n i (connected [] q.name y.connections)) (CellPin x y.name q.name)

    abbrev pg_at : InstanceView → PgPinView → Option Source
    pg_at y g = when (is_some g.switched && touches x n i (connected [] g.name y.connections)) (SwitchedPin x y.name g.name)

    pin-is : (y : InstanceView) (q : PinView) (z : Source) → pin_at y q ≡ Some z → z ≡ CellPin x y.name q.name
    pin-is y q z e = of-when-is (is_output_pin q && touches x n i (connected [] q.name y.connections)) (CellPin x y.name q.name) z e

    pg-is : (y : InstanceView) (g : PgPinView) (z : Source) → pg_at y g ≡ Some z → z ≡ SwitchedPin x y.name g.name
    pg-is y g z e = of-when-is (is_some g.switched && touches x n i (connected [] g.name y.connections)) (SwitchedPin x y.name g.name) z e

    cell-apart : (y : InstanceView) (c : CellView) → are_apart (cell_names c) ≡ true → IsApart (from_cell x n i y c)
    cell-apart y c names =
        let pins = apart-left (map (λ (q : PinView). q.name) c.pins) (map (λ (g : PgPinView). g.name) c.pgs) names in
        let pgs = apart-right (map (λ (q : PinView). q.name) c.pins) (map (λ (g : PgPinView). g.name) c.pgs) names in
        apart-append (some_of (pin_at y) c.pins) (some_of (pg_at y) c.pgs)
        (some-apart (pin_at y) c.pins (named-apart (λ (q : PinView). q.name) c.pins pins)
        (λ q r z h g f k. named-same (λ (q : PinView). q.name) c.pins pins q r h g (sym (ap pinned_by (pin-is y q z f)) ∙ ap pinned_by (pin-is y r z k))))
        (some-apart (pg_at y) c.pgs (named-apart (λ (g : PgPinView). g.name) c.pgs pgs)
        (λ q r z h g f k. named-same (λ (g : PgPinView). g.name) c.pgs pgs q r h g (sym (ap pinned_by (pg-is y q z f)) ∙ ap pinned_by (pg-is y r z k))))
        (λ z h g.
        let a = of-some (pin_at y) z c.pins h in
        let b = of-some (pg_at y) z c.pgs g in
        let bad : false ≡ true = sym (ap is_pg (pin-is y a.0 z a.2)) ∙ ap is_pg (pg-is y b.0 z b.2) in
        absurd cc)

    module-apart : (y : InstanceView) (inner : ModuleView) → are_apart (map name_of_port inner.ports) ≡ true → IsApart (from_instance x n i y inner)
    module-apart y inner names =
        apart-flat (joined_inside x n i y inner) (filter (λ (q : PortView). not (is_input q)) inner.ports)
        (filter-apart (λ (q : PortView). not (is_input q)) inner.ports (named-apart name_of_port inner.ports names))
        (λ q h. joined-apart y inner q)
        (λ q r z h g f k.
        named-same name_of_port inner.ports names q r
        (of-filter (λ (t : PortView). not (is_input t)) q inner.ports h).0
        (of-filter (λ (t : PortView). not (is_input t)) r inner.ports g).0
        (sym (ap pinned_by (of-joined y inner q z f).is) ∙ ap pinned_by (of-joined y inner r z k).is))

    inner-names : (k : ModuleView) → IsIn k w.modules → are_apart (map name_of_port k.ports) ≡ true
    inner-names k h =
        apart-left (map name_of_port k.ports) (map (λ (t : NetView). t.name) k.nets ++ map (λ (y : InstanceView). y.name) k.instances)
        (of-all (λ (t : ModuleView). are_apart (names_in t)) k w.modules (other (are_apart (map (λ (t : ModuleView). t.name) w.modules)) (list_all (λ t. are_apart (names_in t)) w.modules) own.parts) h)

    one-apart : (y : InstanceView) → IsIn y m.instances → IsApart (from_one w x n i y)
    one-apart y h = by (module_named w y.target) (cell_named w y.target) refl refl
      where
        by : (o : Option ModuleView) (c : Option CellView) → module_named w y.target ≡ o → cell_named w y.target ≡ c → IsApart (from_target x n i y o c)
        by (Some inner) c f g = module-apart y inner (inner-names inner (first_in (λ (k : ModuleView). bytes_eq k.name y.target) w.modules inner f).0)
        by None (Some c) f g = cell-apart y c (own.pins x m y c e h g)
        by None None f g = tt

    -- each tells the instance
    pub one-named : (y : InstanceView) (z : Source) → IsIn z (from_one w x n i y) → named_by z ≡ y.name
    one-named y z h = by (module_named w y.target) (cell_named w y.target) h
      where
        by : (o : Option ModuleView) (c : Option CellView) → IsIn z (from_target x n i y o c) → named_by z ≡ y.name
        by (Some inner) c g = ap named_by (of-module y inner z g).2.is
        by None (Some c) g = elim (in-either z (some_of (pin_at y) c.pins) (some_of (pg_at y) c.pgs) g) [
          | inl l ↦ let a = of-some (pin_at y) z c.pins l in ap named_by (pin-is y a.0 z a.2)
          | inr r ↦ let a = of-some (pg_at y) z c.pgs r in ap named_by (pg-is y a.0 z a.2)
        ]
        by None None g = absurd g

    pub instances-differ : IsApart (flat_map (from_one w x n i) m.instances)
    instances-differ =
        apart-flat (from_one w x n i) m.instances (named-apart (λ (y : InstanceView). y.name) m.instances instance-names) one-apart
        (λ y v z h g f k. named-same (λ (t : InstanceView). t.name) m.instances instance-names y v h g (sym (one-named y z f) ∙ one-named v z k))

    -- ---- assigns

    pub record OfAssign (u : ℕ × AssignView) (z : Source) : Type 0 where
      pub bit : ℕ
      pub from : Node
      pub is : z ≡ From (AssignBit x u.0 bit) from

    abbrev bit_at : ℕ × AssignView → ℕ × (BitView × BitView) → Option Source
    bit_at u pair = when (same_node (node_of x pair.1.0) (Inner n i x)) (From (AssignBit x u.0 pair.0) (node_of x pair.1.1))

    bit-is : (u : ℕ × AssignView) (pair : ℕ × (BitView × BitView)) (z : Source) → bit_at u pair ≡ Some z → z ≡ From (AssignBit x u.0 pair.0) (node_of x pair.1.1)
    bit-is u pair z e = of-when-is (same_node (node_of x pair.1.0) (Inner n i x)) (From (AssignBit x u.0 pair.0) (node_of x pair.1.1)) z e

    pub of-assigned : (u : ℕ × AssignView) (z : Source) → IsIn z (from_assign x n i u) → OfAssign u z
    of-assigned u z h =
        let found = of-some (bit_at u) z (numbered 0 (pairs u.1.left u.1.right)) h in
        record { bit = found.0.0; from = node_of x found.0.1.1; is = bit-is u found.0 z found.2 }

    pub assigns-differ : IsApart (flat_map (from_assign x n i) (numbered 0 m.assigns))
    assigns-differ =
        apart-flat (from_assign x n i) (numbered 0 m.assigns) (numbered-apart 0 m.assigns)
        (λ u h.
        some-apart (bit_at u) (numbered 0 (pairs u.1.left u.1.right)) (numbered-apart 0 (pairs u.1.left u.1.right))
        (λ a b z g k f j. numbered-same 0 (pairs u.1.left u.1.right) a b g k (sym (ap bit_by (bit-is u a z f)) ∙ ap bit_by (bit-is u b z j))))
        (λ u v z h g f k. numbered-same 0 m.assigns u v h g (sym (ap assign_by (of-assigned u z f).is) ∙ ap assign_by (of-assigned v z k).is))

    -- ---- together

    one-assigns-none : (z : Source) → IsIn z (flat_map (from_one w x n i) m.instances) → is_assign z ≡ false
    one-assigns-none z h = let found = of-flat (from_one w x n i) z m.instances h in by found.0 (module_named w found.0.target) (cell_named w found.0.target) found.2
      where
        by : (y : InstanceView) (o : Option ModuleView) (c : Option CellView) → IsIn z (from_target x n i y o c) → is_assign z ≡ false
        by y (Some inner) c g = ap is_assign (of-module y inner z g).2.is
        by y None (Some c) g = elim (in-either z (some_of (pin_at y) c.pins) (some_of (pg_at y) c.pgs) g) [
          | inl l ↦ let a = of-some (pin_at y) z c.pins l in ap is_assign (pin-is y a.0 z a.2)
          | inr r ↦ let a = of-some (pg_at y) z c.pgs r in ap is_assign (pg-is y a.0 z a.2)
        ]
        by y None None g = absurd g

    one-deep : (z : Source) → IsIn z (flat_map (from_one w x n i) m.instances) → depth_by z ≡ suc (length x) → ⊥
    one-deep z h deep = let found = of-flat (from_one w x n i) z m.instances h in by found.0 (module_named w found.0.target) (cell_named w found.0.target) found.2
      where
        by : (y : InstanceView) (o : Option ModuleView) (c : Option CellView) → IsIn z (from_target x n i y o c) → ⊥
        by y (Some inner) c g = let its : depth_by z ≡ suc (suc (length x)) = ap depth_by (of-module y inner z g).2.is in omega (arith, deep, its)
        by y None (Some c) g = elim (in-either z (some_of (pin_at y) c.pins) (some_of (pg_at y) c.pgs) g) [
          | inl l ↦ let a = of-some (pin_at y) z c.pins l in let its : depth_by z ≡ 0 = ap depth_by (pin-is y a.0 z a.2) in omega (arith, deep, its)
          | inr r ↦ let a = of-some (pg_at y) z c.pgs r in let its : depth_by z ≡ 0 = ap depth_by (pg-is y a.0 z a.2) in omega (arith, deep, its)
        ]
        by y None None g = absurd g

    -- a source from a port of its own is the way into its bit
    pub port-way : (u : Path) (port : PortView) (z : Source) → IsIn z (from_port w u n i port) → (j : Node) × (z ≡ From (PortBit u n i) j)
    port-way [] port z h = by (list_any (same_index i) (indices port.range)) h
      where
        by : (b : Bool) → IsIn z (if b then From (PortBit [] n i) (Outer n i) ∷ [] else []) → (j : Node) × (z ≡ From (PortBit [] n i) j)
        by true (inl is) = (Outer n i, is)
        by true (inr none) = absurd none
        by false g = absurd g
    port-way (inst ∷ u) port z h = by-module (module_at w u) h
      where
        by-inner : (y : InstanceView) (o : Option ModuleView) → IsIn z (unwrap_or (option_and_then (λ inner. Some (joined_outside u inst n i port y inner)) o) []) → (j : Node) × (z ≡ From (PortBit (inst ∷ u) n i) j)
        by-inner y None g = absurd g
        by-inner y (Some inner) g =
            let found = of-some (λ (pair : Option ℕ × BitView). when (same_index pair.0 i) (From (PortBit (inst ∷ u) n i) (node_of u pair.1))) z (pairs (indices port.range) (connected inner.ports n y.connections)) g in
            (node_of u found.0.1, of-when-is (same_index found.0.0 i) (From (PortBit (inst ∷ u) n i) (node_of u found.0.1)) z found.2)

        by-instance : (o : Option InstanceView) → IsIn z (unwrap_or (option_and_then (λ y. option_and_then (λ inner. Some (joined_outside u inst n i port y inner)) (module_named w y.target)) o) []) → (j : Node) × (z ≡ From (PortBit (inst ∷ u) n i) j)
        by-instance None g = absurd g
        by-instance (Some y) g = by-inner y (module_named w y.target) g

        by-module : (o : Option ModuleView) → IsIn z (unwrap_or (option_and_then (λ outer. option_and_then (λ y. option_and_then (λ inner. Some (joined_outside u inst n i port y inner)) (module_named w y.target)) (first (λ y. bytes_eq y.name inst) outer.instances)) o) []) → (j : Node) × (z ≡ From (PortBit (inst ∷ u) n i) j)
        by-module None g = absurd g
        by-module (Some outer) g = by-instance (first (λ (y : InstanceView). bytes_eq y.name inst) outer.instances) g

    pub ports-way : (z : Source) → IsIn z (ports_in w x n i m) → (j : Node) × (z ≡ From (PortBit x n i) j)
    ports-way z h = let found = of-flat (from_port w x n i) z (filter is_here m.ports) h in port-way x found.0 z found.2

    pub all-apart : IsApart (in_module w x n i m)
    all-apart =
        apart-append (ports_in w x n i m) (flat_map (from_one w x n i) m.instances ++ flat_map (from_assign x n i) (numbered 0 m.assigns)) ports-apart
        (apart-append (flat_map (from_one w x n i) m.instances) (flat_map (from_assign x n i) (numbered 0 m.assigns)) instances-differ assigns-differ
        (λ z h g.
        let a = of-flat (from_assign x n i) z (numbered 0 m.assigns) g in
        let bad : true ≡ false = sym (ap is_assign (of-assigned a.0 z a.2).is) ∙ one-assigns-none z h in
        absurd cc))
        (λ z h g.
        let way = ports-way z h in
        elim (in-either z (flat_map (from_one w x n i) m.instances) (flat_map (from_assign x n i) (numbered 0 m.assigns)) g) [
          | inl l ↦ one-deep z l (ap depth_by way.1)
          | inr r ↦
              let a = of-flat (from_assign x n i) z (numbered 0 m.assigns) r in
              let bad : true ≡ false = sym (ap is_assign (of-assigned a.0 z a.2).is) ∙ ap is_assign way.1 in
              absurd cc
        ])

  -- ---- the outer side of a port of the top

  abbrev is_outer : Name → Option ℕ → PortView → Bool
  is_outer n i q = bytes_eq q.name n && list_any (same_index i) (indices q.range)

  pub outer-apart : (n : Name) (i : Option ℕ) → IsApart (map (outside n i) (filter (λ (q : PortView). bytes_eq q.name n && list_any (same_index i) (indices q.range)) m.ports))
  outer-apart n i =
      few-map (filter (is_outer n i) m.ports)
      (apart-few (filter (is_outer n i) m.ports) (filter-apart (is_outer n i) m.ports (named-apart name_of_port m.ports port-names)) (λ q r h g.
      let a = of-filter (is_outer n i) q m.ports h in
      let b = of-filter (is_outer n i) r m.ports g in
      named-same name_of_port m.ports port-names q r a.0 b.0 (name-true q.name n (one (bytes_eq q.name n) _ a.1) ∙ sym (name-true r.name n (one (bytes_eq r.name n) _ b.1)))))
    where
      few-map : (qs : List PortView) → length qs ≤ 1 → IsApart (map (outside n i) qs)
      few-map [] few = tt
      few-map (q ∷ []) few = ((λ h. h), tt)
      few-map (q ∷ r ∷ qs) few = absurd (omega (arith, few))

pub sources-apart : (w : Structure) → HasOwnNames w → (k : Node) → IsApart (sources_of w k)
sources-apart w own (Fixed b) = tt
sources-apart w own (Outer n i) = by (module_at w []) refl
  where
    by : (o : Option ModuleView) → module_at w [] ≡ o → IsApart (sources_of w (Outer n i))
    by None e = rw (e) tt
    by (Some m) e = rw (e) (outer-apart w own [] m e n i)
sources-apart w own (Inner n i x) = by (module_at w x) refl
  where
    by : (o : Option ModuleView) → module_at w x ≡ o → IsApart (sources_of w (Inner n i x))
    by None e = rw (e) tt
    by (Some m) e = subst IsApart (sym (in-by w x n i m e)) (all-apart w own x m e n i)

pub sources-differ : SourcesDiffer
sources-differ w own k i j y e f = apart-places (sources_of w k) (sources-apart w own k) i j y e f

pub equal-are-single : EqualSourcesAreSingle
equal-are-single w own k same = apart-few (sources_of w k) (sources-apart w own k) same
