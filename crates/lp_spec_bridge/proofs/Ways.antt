-- Where the names of each module are apart, no way stands twice among the edges of a design.
use Rattle.std.proofs.Common.{◌≡◌, ◌≤◌, ◌+◌, ℕ, suc, Bool, true, false, not, List, [], ◌∷◌, ◌++◌, map, length, Option, Some, None, inl, inr, refl, sym, ap, ◌∙◌, subst, arith}
use Rattle.std.specs.Prelude.{filter, flat_map, bytes_eq, is_some, option_and_then, unwrap_or, if◌then◌else◌}
use Rattle.std.proofs.lemmas.Bool.{false≢true}
use Rattle.std.proofs.lemmas.List.{map-id}
use Rattle.lp_model.specs.NetlistView.{BitView, PortView, NetView, InstanceView, AssignView, ModuleView}
use Rattle.lp_model.specs.LibraryView.{PgPinView, CellView, PinView}
use Rattle.lp_spec_design.specs.Keys.{Name, Path, Inner, Outer, Way, PortBit, AssignBit, CellPin, SwitchedPin, Environment, From}
use Rattle.lp_spec_design.specs.Netlists.{Structure, first, module_named, cell_named, instance_named, module_at, indices, node_of, connected, is_input}
use Rattle.lp_spec_design.specs.Instances.{module_instances}
use Rattle.lp_spec_design.specs.Graph.{pairs, and_more, some_of, numbered, is_output_pin, outside}
use Rattle.lp_spec_design.specs.Winners.{IsIn}
use Rattle.lp_spec_design.specs.Reads.{name-true, name-self}
use Rattle.lp_spec_design.proofs.Sources.{first_in}
use Rattle.lp_spec_design.proofs.Members.{in-either, in-map, of-map, of-flat, of-filter, of-some}
use Rattle.lp_spec_bridge.specs.Edges.{Drive, Edge, edge_of, connected_drives, port_drives, output_drives, cell_drives, target_drives, instance_drives, assign_drives, drives_in, outer_drives, drives_of}
use Rattle.lp_spec_bridge.specs.Keyed.{IsApart, keys_of, AreKeys}
use Rattle.lp_spec_bridge.specs.Names.{HasNamesApart}
use Rattle.lp_spec_bridge.proofs.Driven.{then-in, indices-apart}
use Rattle.lp_spec_bridge.proofs.Distinct.{apart-append, apart-left, apart-filter, apart-map, apart-flat, module-in, instances_apart, leaves_apart, nodes_apart, nodes_net_bits}

-- ---- the ways among drives

way_only : Drive → Option Way
way_only (k, From w j) = Some w
way_only (k, x) = None

ways_of : List Drive → List Way
ways_of drives = some_of way_only drives

edges-ways : (drives : List Drive) → map (λ (e : Edge). e.way) (some_of edge_of drives) ≡ ways_of drives
unfolding way_only ways_of
edges-ways [] = refl
edges-ways ((k, From w j) ∷ ds) = ap (λ r. w ∷ r) (edges-ways ds)
edges-ways ((k, CellPin p x q) ∷ ds) = edges-ways ds
edges-ways ((k, SwitchedPin p x q) ∷ ds) = edges-ways ds
edges-ways ((k, Environment) ∷ ds) = edges-ways ds

ways-append : (xs ys : List Drive) → ways_of (xs ++ ys) ≡ ways_of xs ++ ways_of ys
unfolding ways_of
ways-append [] ys = refl
ways-append (x ∷ xs) ys = by (way_only x) (ways-append xs ys)
  where
    by : (o : Option Way) → some_of way_only (xs ++ ys) ≡ some_of way_only xs ++ some_of way_only ys → and_more o (some_of way_only (xs ++ ys)) ≡ and_more o (some_of way_only xs) ++ some_of way_only ys
    by None more = more
    by (Some w) more = ap (λ r. w ∷ r) more

ways-flat : {A : Type 0} (f : A → List Drive) (xs : List A) → ways_of (flat_map f xs) ≡ flat_map (λ x. ways_of (f x)) xs
unfolding ways_of
ways-flat f [] = refl
ways-flat f (x ∷ xs) = ways-append (f x) (flat_map f xs) ∙ ap (λ r. ways_of (f x) ++ r) (ways-flat f xs)

ways-map : {Z : Type 0} (d : Z → Drive) (w : Z → Way) (zs : List Z) → ((z : Z) → way_only (d z) ≡ Some (w z)) → ways_of (map d zs) ≡ map w zs
unfolding ways_of
ways-map d w [] h = refl
ways-map d w (z ∷ zs) h = ap (λ o. and_more o (some_of way_only (map d zs))) (h z) ∙ ap (λ r. w z ∷ r) (ways-map d w zs h)

ways-none : (xs : List Drive) → ((x : Drive) → IsIn x xs → way_only x ≡ None) → ways_of xs ≡ []
unfolding ways_of
ways-none [] h = refl
ways-none (x ∷ xs) h = ap (λ o. and_more o (some_of way_only xs)) (h x (inl refl)) ∙ ways-none xs (λ y m. h y (inr m))

of-ways : (w : Way) (xs : List Drive) → IsIn w (ways_of xs) → (d : Drive) × IsIn d xs × (way_only d ≡ Some w)
unfolding ways_of
of-ways w xs h = of-some way_only w xs h

-- ---- lists

pairs-first : {A B : Type 0} (x : A) (us : List A) (vs : List B) → IsIn x (map (λ (z : A × B). z.0) (pairs us vs)) → IsIn x us
pairs-first x [] vs h = absurd h
pairs-first x (u ∷ us) [] h = absurd h
pairs-first x (u ∷ us) (v ∷ vs) h = elim h [ inl is ↦ inl is | inr rest ↦ inr (pairs-first x us vs rest) ]

pairs-apart : {A B : Type 0} (xs : List A) (ys : List B) → IsApart xs → IsApart (map (λ (z : A × B). z.0) (pairs xs ys))
pairs-apart [] ys a = tt
pairs-apart (x ∷ xs) [] a = tt
pairs-apart (x ∷ xs) (y ∷ ys) a = ((λ h. a.0 (pairs-first x xs ys h)), pairs-apart xs ys a.1)

numbers-from : {A : Type 0} (k : ℕ) (xs : List A) (n : ℕ) → IsIn n (map (λ (z : ℕ × A). z.0) (numbered k xs)) → k ≤ n
numbers-from k [] n h = absurd h
numbers-from k (x ∷ xs) n (inl is) = omega (arith, is)
numbers-from k (x ∷ xs) n (inr h) = let more = numbers-from (k + 1) xs n h in omega arith

numbers-apart : {A : Type 0} (k : ℕ) (xs : List A) → IsApart (map (λ (z : ℕ × A). z.0) (numbered k xs))
numbers-apart k [] = tt
numbers-apart k (x ∷ xs) = ((λ h. let more = numbers-from (k + 1) xs k h in omega arith), numbers-apart (k + 1) xs)

-- a member is found by its name
named-first : {A : Type 0} (name : A → Name) (xs : List A) (x : A) → IsApart (map name xs) → IsIn x xs → first (λ y. bytes_eq (name y) (name x)) xs ≡ Some x
named-first name [] x apart h = absurd h
named-first name (y ∷ ys) x apart (inl is) = ap (λ b. if b then Some y else first (λ z. bytes_eq (name z) (name x)) ys) (ap (λ z. bytes_eq (name y) (name z)) is ∙ name-self (name y)) ∙ ap (λ z. Some z) (sym is)
named-first name (y ∷ ys) x apart (inr h) = by (bytes_eq (name y) (name x)) refl (named-first name ys x apart.1 h)
  where
    by : (b : Bool) → bytes_eq (name y) (name x) ≡ b → first (λ z. bytes_eq (name z) (name x)) ys ≡ Some x → (if b then Some y else first (λ z. bytes_eq (name z) (name x)) ys) ≡ Some x
    by true e more = absurd (apart.0 (subst (λ n. IsIn n (map name ys)) (sym (name-true (name y) (name x) e)) (in-map name x ys h)))
    by false e more = more

-- ---- the form of each way

-- the ways of an input port
port-way : (s : Structure) (p : Path) (port : PortView) (x : Drive) → IsIn x (port_drives s p port) → (j : Option ℕ) × (way_only x ≡ Some (PortBit p port.name j))
unfolding way_only
port-way s [] port x h =
    let bit = of-map {B = Drive} (λ j. (Inner port.name j [], From (PortBit [] port.name j) (Outer port.name j))) x (indices port.range) h in
    (bit.0, ap way_only bit.2)
port-way s (inst ∷ p) port x h =
    let outer = then-in (λ (o : ModuleView). option_and_then (λ (y : InstanceView). option_and_then (λ (inner : ModuleView). Some (connected_drives (inst ∷ p) port y inner)) (module_named s y.target)) (instance_named o inst)) (module_at s p) x h in
    let y = then-in (λ (y : InstanceView). option_and_then (λ (inner : ModuleView). Some (connected_drives (inst ∷ p) port y inner)) (module_named s y.target)) (instance_named outer.0 inst) x outer.1 in
    let inner = then-in (λ (inner : ModuleView). Some (connected_drives (inst ∷ p) port y.0 inner)) (module_named s y.0.target) x y.1 in
    let bit = of-map {B = Drive} (λ (pair : Option ℕ × BitView). (Inner port.name pair.0 (inst ∷ p), From (PortBit (inst ∷ p) port.name pair.0) (node_of p pair.1))) x (pairs (indices port.range) (connected inner.0.ports port.name y.0.connections)) inner.1 in
    (bit.0.0, ap way_only bit.2)

-- those of the output ports of a module instance
pub record IsOutputWay (p : Path) (n : Name) (o : Option ModuleView) (w : Way) : Type 0 where
  pub inner : ModuleView
  pub port : PortView
  pub index : Option ℕ
  pub target : o ≡ Some inner
  pub listed : IsIn port inner.ports
  pub output : is_input port ≡ false
  pub is : w ≡ PortBit (n ∷ p) port.name index

not-true : (b : Bool) → not b ≡ true → b ≡ false
not-true true e = absurd (false≢true e)
not-true false e = refl

cell-no-way : (p : Path) (y : InstanceView) (c : CellView) (x : Drive) → IsIn x (cell_drives p y c) → way_only x ≡ None
unfolding way_only
cell-no-way p y c x h =
    elim (in-either x (flat_map (λ (q : PinView). map (λ b. (node_of p b, CellPin p y.name q.name)) (connected [] q.name y.connections)) (filter is_output_pin c.pins)) (flat_map (λ (g : PgPinView). map (λ b. (node_of p b, SwitchedPin p y.name g.name)) (connected [] g.name y.connections)) (filter (λ (g : PgPinView). is_some g.switched) c.pgs)) h) [
      | inl l ↦
          let q = of-flat (λ (q : PinView). map (λ b. (node_of p b, CellPin p y.name q.name)) (connected [] q.name y.connections)) x (filter is_output_pin c.pins) l in
          let bit = of-map {B = Drive} (λ (b : BitView). (node_of p b, CellPin p y.name q.0.name)) x (connected [] q.0.name y.connections) q.2 in
          ap way_only bit.2
      | inr l ↦
          let g = of-flat (λ (g : PgPinView). map (λ b. (node_of p b, SwitchedPin p y.name g.name)) (connected [] g.name y.connections)) x (filter (λ (g : PgPinView). is_some g.switched) c.pgs) l in
          let bit = of-map {B = Drive} (λ (b : BitView). (node_of p b, SwitchedPin p y.name g.0.name)) x (connected [] g.0.name y.connections) g.2 in
          ap way_only bit.2
    ]

target-way : (p : Path) (y : InstanceView) (o : Option ModuleView) (c : Option CellView) (x : Drive) (w : Way) → IsIn x (target_drives p y o c) → way_only x ≡ Some w → IsOutputWay p y.name o w
unfolding way_only
target-way p y (Some m) c x w h e =
    let port = of-flat (output_drives p y m) x (filter (λ (port : PortView). not (is_input port)) m.ports) h in
    let kept = of-filter (λ (port : PortView). not (is_input port)) port.0 m.ports port.1 in
    let bit = of-map {B = Drive} (λ (pair : Option ℕ × BitView). (node_of p pair.1, From (PortBit (y.name ∷ p) port.0.name pair.0) (Inner port.0.name pair.0 (y.name ∷ p)))) x (pairs (indices port.0.range) (connected m.ports port.0.name y.connections)) port.2 in
    let same : Some w ≡ Some (PortBit (y.name ∷ p) port.0.name bit.0.0) = sym e ∙ ap way_only bit.2 in
    record { inner = m; port = port.0; index = bit.0.0; target = refl; listed = kept.0; output = not-true (is_input port.0) kept.1; is = cc }
target-way p y None (Some c) x w h e = let none : None ≡ Some w = sym (cell-no-way p y c x h) ∙ e in absurd cc
target-way p y None None x w h e = absurd h

assign-way : (p : Path) (a : ℕ × AssignView) (x : Drive) → IsIn x (assign_drives p a) → (k : ℕ) × (way_only x ≡ Some (AssignBit p a.0 k))
unfolding way_only
assign-way p a x h =
    let bit = of-map {B = Drive} (λ (pair : ℕ × (BitView × BitView)). (node_of p pair.1.0, From (AssignBit p a.0 pair.0) (node_of p pair.1.1))) x (numbered 0 (pairs a.1.left a.1.right)) h in
    (bit.0.0, ap way_only bit.2)

-- ---- which instance has a way among its drives

abbrev is_input_of : Option PortView → Bool
is_input_of None = true
is_input_of (Some port) = is_input port

abbrev port_at : Structure → Path → Name → Option PortView
port_at s q n = option_and_then (λ (m : ModuleView). first (λ (port : PortView). bytes_eq port.name n) m.ports) (module_at s q)

abbrev port_owner : Path → Bool → Option Path
port_owner q true = Some q
port_owner [] false = None
port_owner (x ∷ p) false = Some p

abbrev owner : Structure → Way → Option Path
owner s (AssignBit p a k) = Some p
owner s (PortBit q n i) = port_owner q (is_input_of (port_at s q n))

module _ (s : Structure) (apart : HasNamesApart s) where
  -- a port of an instance's module is found by its name
  port-found : (p : Path) (m : ModuleView) (port : PortView) → module_at s p ≡ Some m → IsIn port m.ports → port_at s p port.name ≡ Some port
  port-found p m port e h =
      let names = apart-left (map (λ (q : PortView). q.name) m.ports) (map (λ (x : NetView). x.name) m.nets) (apart.nets m (module-in s p m e)) in
      ap (option_and_then (λ (m : ModuleView). first (λ (q : PortView). bytes_eq q.name port.name) m.ports)) e
      ∙ named-first (λ (q : PortView). q.name) m.ports port names h

  -- an instance of a module has that module at its path
  instance-module : (p : Path) (m : ModuleView) (y : InstanceView) → module_at s p ≡ Some m → IsIn y m.instances → module_at s (y.name ∷ p) ≡ module_named s y.target
  instance-module p m y e h =
      ap (option_and_then (λ (m : ModuleView). option_and_then (λ (x : InstanceView). module_named s x.target) (instance_named m y.name))) e
      ∙ ap (option_and_then (λ (x : InstanceView). module_named s x.target)) (named-first (λ (x : InstanceView). x.name) m.instances y (apart.instances m (module-in s p m e)) h)

  owned-in : (p : Path) (m : ModuleView) → module_at s p ≡ Some m → (x : Drive) (w : Way) → IsIn x (drives_in s p (Some m)) → way_only x ≡ Some w → owner s w ≡ Some p
  owned-in p m e x w h is = elim (in-either x (flat_map (port_drives s p) (filter is_input m.ports)) (flat_map (instance_drives s p) m.instances ++ flat_map (assign_drives p) (numbered 0 m.assigns)) h) [
    | inl l ↦
        let port = of-flat (port_drives s p) x (filter is_input m.ports) l in
        let kept = of-filter is_input port.0 m.ports port.1 in
        let way = port-way s p port.0 x port.2 in
        let same : Some w ≡ Some (PortBit p port.0.name way.0) = sym is ∙ way.1 in
        let it : w ≡ PortBit p port.0.name way.0 = cc in
        ap (owner s) it ∙ ap (λ o. port_owner p (is_input_of o)) (port-found p m port.0 e kept.0) ∙ ap (port_owner p) kept.1
    | inr l ↦ elim (in-either x (flat_map (instance_drives s p) m.instances) (flat_map (assign_drives p) (numbered 0 m.assigns)) l) [
      | inl inst ↦
          let y = of-flat (instance_drives s p) x m.instances inst in
          let way = target-way p y.0 (module_named s y.0.target) (cell_named s y.0.target) x w y.2 is in
          let inner : module_at s (y.0.name ∷ p) ≡ Some way.inner = instance-module p m y.0 e y.1 ∙ way.target in
          ap (owner s) way.is ∙ ap (λ o. port_owner (y.0.name ∷ p) (is_input_of o)) (port-found (y.0.name ∷ p) way.inner way.port inner way.listed) ∙ ap (port_owner (y.0.name ∷ p)) way.output
      | inr assign ↦
          let a = of-flat (assign_drives p) x (numbered 0 m.assigns) assign in
          let way = assign-way p a.0 x a.2 in
          let same : Some w ≡ Some (AssignBit p a.0.0 way.0) = sym is ∙ way.1 in
          let it : w ≡ AssignBit p a.0.0 way.0 = cc in
          ap (owner s) it
    ]
  ]

  owned : (p : Path) (o : Option ModuleView) → module_at s p ≡ o → (x : Drive) (w : Way) → IsIn x (drives_in s p o) → way_only x ≡ Some w → owner s w ≡ Some p
  owned p None e x w h is = absurd h
  owned p (Some m) e x w h is = owned-in p m e x w h is

  -- an outer side has the way of an output port of the top
  outer-way : (n : Name) (i : Option ℕ) (port : PortView) (w : Way) → way_only (Outer n i, outside n i port) ≡ Some w → (is_input port ≡ false) × (w ≡ PortBit [] n i)
  unfolding way_only
  outer-way n i port w e = by (is_input port) refl e
    where
      by : (b : Bool) → is_input port ≡ b → way_only (Outer n i, (if b then Environment else From (PortBit [] n i) (Inner n i []))) ≡ Some w → (is_input port ≡ false) × (w ≡ PortBit [] n i)
      by true f g = absurd cc
      by false f g = let is : w ≡ PortBit [] n i = cc in (f, is)

  owned-outer : (o : Option ModuleView) → module_at s [] ≡ o → (x : Drive) (w : Way) → IsIn x (outer_drives o) → way_only x ≡ Some w → owner s w ≡ None
  owned-outer None e x w h is = absurd h
  owned-outer (Some m) e x w h is =
      let port = of-flat {B = Drive} (λ (port : PortView). map (λ i. (Outer port.name i, outside port.name i port)) (indices port.range)) x m.ports h in
      let bit = of-map {B = Drive} (λ i. (Outer port.0.name i, outside port.0.name i port.0)) x (indices port.0.range) port.2 in
      let way = outer-way port.0.name bit.0 port.0 w (sym (ap way_only bit.2) ∙ is) in
      ap (owner s) way.1 ∙ ap (λ o. port_owner [] (is_input_of o)) (port-found [] m port.0 e port.1) ∙ ap (port_owner []) way.0

  -- ---- the ways of one instance

  then-apart : {A : Type 0} (f : A → Option (List Drive)) (o : Option A) → ((x : A) → IsApart (ways_of (unwrap_or (f x) []))) → IsApart (ways_of (unwrap_or (option_and_then f o) []))
  unfolding ways_of
  then-apart f None h = tt
  then-apart f (Some x) h = h x

  port-bits : (p : Path) (n : Name) (i j : Option ℕ) → PortBit p n i ≡ PortBit p n j → i ≡ j
  port-bits p n i j same = cc

  port-ways-apart : (p : Path) (port : PortView) → IsApart (ways_of (port_drives s p port))
  unfolding way_only
  port-ways-apart [] port =
      subst IsApart (sym (ways-map (λ i. (Inner port.name i [], From (PortBit [] port.name i) (Outer port.name i))) (λ i. PortBit [] port.name i) (indices port.range) (λ i. refl)))
      (apart-map (λ (i : Option ℕ). i) (λ i. PortBit [] port.name i) (indices port.range) (subst IsApart (sym (map-id (indices port.range))) (indices-apart port.range)) (port-bits [] port.name))
  port-ways-apart (inst ∷ p) port =
      then-apart (λ (o : ModuleView). option_and_then (λ (y : InstanceView). option_and_then (λ (inner : ModuleView). Some (connected_drives (inst ∷ p) port y inner)) (module_named s y.target)) (instance_named o inst)) (module_at s p)
      (λ o. then-apart (λ (y : InstanceView). option_and_then (λ (inner : ModuleView). Some (connected_drives (inst ∷ p) port y inner)) (module_named s y.target)) (instance_named o inst)
      (λ y. then-apart (λ (inner : ModuleView). Some (connected_drives (inst ∷ p) port y inner)) (module_named s y.target)
      (λ inner.
      subst IsApart (sym (ways-map (λ (pair : Option ℕ × BitView). (Inner port.name pair.0 (inst ∷ p), From (PortBit (inst ∷ p) port.name pair.0) (node_of p pair.1))) (λ pair. PortBit (inst ∷ p) port.name pair.0) (pairs (indices port.range) (connected inner.ports port.name y.connections)) (λ pair. refl)))
      (apart-map (λ (pair : Option ℕ × BitView). pair.0) (λ pair. PortBit (inst ∷ p) port.name pair.0) (pairs (indices port.range) (connected inner.ports port.name y.connections)) (pairs-apart (indices port.range) (connected inner.ports port.name y.connections) (indices-apart port.range)) (λ a b. port-bits (inst ∷ p) port.name a.0 b.0)))))

  -- the ways of two ports with one in common are those of one name
  input-ways-apart : (p : Path) (ports : List PortView) → IsApart (map (λ (q : PortView). q.name) ports) → IsApart (ways_of (flat_map (port_drives s p) (filter is_input ports)))
  input-ways-apart p ports names =
      subst IsApart (sym (ways-flat (port_drives s p) (filter is_input ports)))
      (apart-flat (λ (q : PortView). q.name) (λ q. ways_of (port_drives s p q)) (filter is_input ports) (apart-filter (λ (q : PortView). q.name) (λ (q : PortView). q.name) is_input ports names (λ x y same. same)) (λ q h. port-ways-apart p q)
      (λ x y w hx hy wx wy.
      let dx = of-ways w (port_drives s p x) wx in
      let dy = of-ways w (port_drives s p y) wy in
      let vx = port-way s p x dx.0 dx.1 in
      let vy = port-way s p y dy.0 dy.1 in
      let same : Some (PortBit p x.name vx.0) ≡ Some (PortBit p y.name vy.0) = sym vx.1 ∙ dx.2 ∙ sym dy.2 ∙ vy.1 in
      cc))

  output-ways-apart : (p : Path) (y : InstanceView) (m : ModuleView) → IsApart (map (λ (q : PortView). q.name) m.ports) → IsApart (ways_of (flat_map (output_drives p y m) (filter (λ q. not (is_input q)) m.ports)))
  unfolding way_only
  output-ways-apart p y m names =
      subst IsApart (sym (ways-flat (output_drives p y m) (filter (λ q. not (is_input q)) m.ports)))
      (apart-flat (λ (q : PortView). q.name) (λ q. ways_of (output_drives p y m q)) (filter (λ q. not (is_input q)) m.ports) (apart-filter (λ (q : PortView). q.name) (λ (q : PortView). q.name) (λ q. not (is_input q)) m.ports names (λ a b same. same))
      (λ q h.
      subst IsApart (sym (ways-map (λ (pair : Option ℕ × BitView). (node_of p pair.1, From (PortBit (y.name ∷ p) q.name pair.0) (Inner q.name pair.0 (y.name ∷ p)))) (λ pair. PortBit (y.name ∷ p) q.name pair.0) (pairs (indices q.range) (connected m.ports q.name y.connections)) (λ pair. refl)))
      (apart-map (λ (pair : Option ℕ × BitView). pair.0) (λ pair. PortBit (y.name ∷ p) q.name pair.0) (pairs (indices q.range) (connected m.ports q.name y.connections)) (pairs-apart (indices q.range) (connected m.ports q.name y.connections) (indices-apart q.range)) (λ a b. port-bits (y.name ∷ p) q.name a.0 b.0)))
      (λ a b w ha hb wa wb.
      let da = of-ways w (output_drives p y m a) wa in
      let db = of-ways w (output_drives p y m b) wb in
      let pa = of-map {B = Drive} (λ (pair : Option ℕ × BitView). (node_of p pair.1, From (PortBit (y.name ∷ p) a.name pair.0) (Inner a.name pair.0 (y.name ∷ p)))) da.0 (pairs (indices a.range) (connected m.ports a.name y.connections)) da.1 in
      let pb = of-map {B = Drive} (λ (pair : Option ℕ × BitView). (node_of p pair.1, From (PortBit (y.name ∷ p) b.name pair.0) (Inner b.name pair.0 (y.name ∷ p)))) db.0 (pairs (indices b.range) (connected m.ports b.name y.connections)) db.1 in
      let same : Some (PortBit (y.name ∷ p) a.name pa.0.0) ≡ Some (PortBit (y.name ∷ p) b.name pb.0.0) = sym (ap way_only pa.2) ∙ da.2 ∙ sym db.2 ∙ ap way_only pb.2 in
      cc))

  module-named-in : (n : Name) (m : ModuleView) → module_named s n ≡ Some m → IsIn m s.modules
  module-named-in n m e = (first_in (λ (x : ModuleView). bytes_eq x.name n) s.modules m e).0

  ports-named : (m : ModuleView) → IsIn m s.modules → IsApart (map (λ (q : PortView). q.name) m.ports)
  ports-named m h = apart-left (map (λ (q : PortView). q.name) m.ports) (map (λ (x : NetView). x.name) m.nets) (apart.nets m h)

  target-ways-apart : (p : Path) (y : InstanceView) (o : Option ModuleView) (c : Option CellView) → module_named s y.target ≡ o → IsApart (ways_of (target_drives p y o c))
  unfolding ways_of
  target-ways-apart p y (Some m) c e = output-ways-apart p y m (ports-named m (module-named-in y.target m e))
  target-ways-apart p y None (Some c) e = subst IsApart (sym (ways-none (cell_drives p y c) (cell-no-way p y c))) tt
  target-ways-apart p y None None e = tt

  assign-ways-apart : (p : Path) (a : ℕ × AssignView) → IsApart (ways_of (assign_drives p a))
  unfolding way_only
  assign-ways-apart p a =
      subst IsApart (sym (ways-map (λ (pair : ℕ × (BitView × BitView)). (node_of p pair.1.0, From (AssignBit p a.0 pair.0) (node_of p pair.1.1))) (λ pair. AssignBit p a.0 pair.0) (numbered 0 (pairs a.1.left a.1.right)) (λ pair. refl)))
      (apart-map (λ (pair : ℕ × (BitView × BitView)). pair.0) (λ pair. AssignBit p a.0 pair.0) (numbered 0 (pairs a.1.left a.1.right)) (numbers-apart 0 (pairs a.1.left a.1.right)) (λ x y same. cc))

  in-form : (p : Path) (m : ModuleView) (w : Way) → IsIn w (ways_of (flat_map (port_drives s p) (filter is_input m.ports))) → (n : Name) × (j : Option ℕ) × (w ≡ PortBit p n j)
  in-form p m w h =
      let d = of-ways w (flat_map (port_drives s p) (filter is_input m.ports)) h in
      let port = of-flat (port_drives s p) d.0 (filter is_input m.ports) d.1 in
      let way = port-way s p port.0 d.0 port.2 in
      let same : Some w ≡ Some (PortBit p port.0.name way.0) = sym d.2 ∙ way.1 in
      let is : w ≡ PortBit p port.0.name way.0 = cc in
      (port.0.name, way.0, is)

  out-form : (p : Path) (m : ModuleView) (w : Way) → IsIn w (ways_of (flat_map (instance_drives s p) m.instances)) → (x : Name) × (n : Name) × (j : Option ℕ) × (w ≡ PortBit (x ∷ p) n j)
  out-form p m w h =
      let d = of-ways w (flat_map (instance_drives s p) m.instances) h in
      let y = of-flat (instance_drives s p) d.0 m.instances d.1 in
      let way = target-way p y.0 (module_named s y.0.target) (cell_named s y.0.target) d.0 w y.2 d.2 in
      (y.0.name, way.port.name, way.index, way.is)

  assign-form : (p : Path) (m : ModuleView) (w : Way) → IsIn w (ways_of (flat_map (assign_drives p) (numbered 0 m.assigns))) → (a : ℕ) × (k : ℕ) × (w ≡ AssignBit p a k)
  assign-form p m w h =
      let d = of-ways w (flat_map (assign_drives p) (numbered 0 m.assigns)) h in
      let a = of-flat (assign_drives p) d.0 (numbered 0 m.assigns) d.1 in
      let way = assign-way p a.0 d.0 a.2 in
      let same : Some w ≡ Some (AssignBit p a.0.0 way.0) = sym d.2 ∙ way.1 in
      let is : w ≡ AssignBit p a.0.0 way.0 = cc in
      (a.0.0, way.0, is)

  in-out : (p : Path) (m : ModuleView) (w : Way) → IsIn w (ways_of (flat_map (port_drives s p) (filter is_input m.ports))) → IsIn w (ways_of (flat_map (instance_drives s p) m.instances)) → ⊥
  in-out p m w l r =
      let a = in-form p m w l in
      let b = out-form p m w r in
      let same : PortBit p a.0 a.1 ≡ PortBit (b.0 ∷ p) b.1 b.2 = sym a.2 ∙ b.3 in
      let path : p ≡ b.0 ∷ p = cc in
      let longer : length p ≡ suc (length p) = ap (λ (q : Path). length q) path in
      omega arith

  in-assign : (p : Path) (m : ModuleView) (w : Way) → IsIn w (ways_of (flat_map (port_drives s p) (filter is_input m.ports))) → IsIn w (ways_of (flat_map (assign_drives p) (numbered 0 m.assigns))) → ⊥
  in-assign p m w l r =
      let a = in-form p m w l in
      let b = assign-form p m w r in
      let same : PortBit p a.0 a.1 ≡ AssignBit p b.0 b.1 = sym a.2 ∙ b.2 in
      absurd cc

  out-assign : (p : Path) (m : ModuleView) (w : Way) → IsIn w (ways_of (flat_map (instance_drives s p) m.instances)) → IsIn w (ways_of (flat_map (assign_drives p) (numbered 0 m.assigns))) → ⊥
  out-assign p m w l r =
      let a = out-form p m w l in
      let b = assign-form p m w r in
      let same : PortBit (a.0 ∷ p) a.1 a.2 ≡ AssignBit p b.0 b.1 = sym a.3 ∙ b.2 in
      absurd cc

  chunk-apart : (p : Path) (o : Option ModuleView) → module_at s p ≡ o → IsApart (ways_of (drives_in s p o))
  unfolding ways_of
  chunk-apart p None e = tt
  chunk-apart p (Some m) e =
      let ins = flat_map (port_drives s p) (filter is_input m.ports) in
      let outs = flat_map (instance_drives s p) m.instances in
      let assigns = flat_map (assign_drives p) (numbered 0 m.assigns) in
      let member = module-in s p m e in
      let outs-apart : IsApart (ways_of (flat_map (instance_drives s p) m.instances)) =
      subst IsApart (sym (ways-flat (instance_drives s p) m.instances))
      (apart-flat (λ (y : InstanceView). y.name) (λ y. ways_of (instance_drives s p y)) m.instances (apart.instances m member) (λ y h. target-ways-apart p y (module_named s y.target) (cell_named s y.target) refl)
      (λ x y w hx hy wx wy.
      let dx = of-ways w (instance_drives s p x) wx in
      let dy = of-ways w (instance_drives s p y) wy in
      let vx = target-way p x (module_named s x.target) (cell_named s x.target) dx.0 w dx.1 dx.2 in
      let vy = target-way p y (module_named s y.target) (cell_named s y.target) dy.0 w dy.1 dy.2 in
      let same : PortBit (x.name ∷ p) vx.port.name vx.index ≡ PortBit (y.name ∷ p) vy.port.name vy.index = sym vx.is ∙ vy.is in
      cc)) in
      let assigns-apart : IsApart (ways_of (flat_map (assign_drives p) (numbered 0 m.assigns))) =
      subst IsApart (sym (ways-flat (assign_drives p) (numbered 0 m.assigns)))
      (apart-flat (λ (a : ℕ × AssignView). a.0) (λ a. ways_of (assign_drives p a)) (numbered 0 m.assigns) (numbers-apart 0 m.assigns) (λ a h. assign-ways-apart p a)
      (λ a b w ha hb wa wb.
      let da = of-ways w (assign_drives p a) wa in
      let db = of-ways w (assign_drives p b) wb in
      let va = assign-way p a da.0 da.1 in
      let vb = assign-way p b db.0 db.1 in
      let same : Some (AssignBit p a.0 va.0) ≡ Some (AssignBit p b.0 vb.0) = sym va.1 ∙ da.2 ∙ sym db.2 ∙ vb.1 in
      cc)) in
      subst IsApart (sym (ways-append ins (outs ++ assigns) ∙ ap (λ r. ways_of ins ++ r) (ways-append outs assigns)))
      (apart-append (ways_of ins) (ways_of outs ++ ways_of assigns) (input-ways-apart p m.ports (ports-named m member))
      (apart-append (ways_of outs) (ways_of assigns) outs-apart assigns-apart (λ w l r. out-assign p m w l r))
      (λ w l r. elim (in-either w (ways_of outs) (ways_of assigns) r) [ inl g ↦ in-out p m w l g | inr g ↦ in-assign p m w l g ]))

  -- ---- the ways of all instances

  outer-bits-apart : (port : PortView) → IsApart (ways_of (map (λ i. (Outer port.name i, outside port.name i port)) (indices port.range)))
  unfolding way_only
  outer-bits-apart port = by (is_input port)
    where
      by : (b : Bool) → IsApart (ways_of (map (λ i. (Outer port.name i, (if b then Environment else From (PortBit [] port.name i) (Inner port.name i [])))) (indices port.range)))
      by true =
          subst IsApart (sym (ways-none (map (λ i. (Outer port.name i, Environment)) (indices port.range)) (λ x h. let bit = of-map {B = Drive} (λ i. (Outer port.name i, Environment)) x (indices port.range) h in ap way_only bit.2))) tt
      by false =
          subst IsApart (sym (ways-map (λ i. (Outer port.name i, From (PortBit [] port.name i) (Inner port.name i []))) (λ i. PortBit [] port.name i) (indices port.range) (λ i. refl)))
          (apart-map (λ (i : Option ℕ). i) (λ i. PortBit [] port.name i) (indices port.range) (subst IsApart (sym (map-id (indices port.range))) (indices-apart port.range)) (port-bits [] port.name))

  outer-ways-apart : (o : Option ModuleView) → module_at s [] ≡ o → IsApart (ways_of (outer_drives o))
  unfolding ways_of
  outer-ways-apart None e = tt
  outer-ways-apart (Some m) e =
      subst IsApart (sym (ways-flat (λ (port : PortView). map (λ i. (Outer port.name i, outside port.name i port)) (indices port.range)) m.ports))
      (apart-flat (λ (q : PortView). q.name) (λ (port : PortView). ways_of (map (λ i. (Outer port.name i, outside port.name i port)) (indices port.range))) m.ports (ports-named m (module-in s [] m e)) (λ q h. outer-bits-apart q)
      (λ x y w hx hy wx wy.
      let dx = of-ways w (map (λ i. (Outer x.name i, outside x.name i x)) (indices x.range)) wx in
      let dy = of-ways w (map (λ i. (Outer y.name i, outside y.name i y)) (indices y.range)) wy in
      let bx = of-map {B = Drive} (λ i. (Outer x.name i, outside x.name i x)) dx.0 (indices x.range) dx.1 in
      let by = of-map {B = Drive} (λ i. (Outer y.name i, outside y.name i y)) dy.0 (indices y.range) dy.1 in
      let vx = outer-way x.name bx.0 x w (sym (ap way_only bx.2) ∙ dx.2) in
      let vy = outer-way y.name by.0 y w (sym (ap way_only by.2) ∙ dy.2) in
      let same : PortBit [] x.name bx.0 ≡ PortBit [] y.name by.0 = sym vx.1 ∙ vy.1 in
      cc))

  pub ways_apart : IsApart (keys_of s).ways
  ways_apart =
      let inner = flat_map (λ p. drives_in s p (module_at s p)) (module_instances s) in
      let outer = outer_drives (module_at s []) in
      let inner-apart : IsApart (ways_of (flat_map (λ p. drives_in s p (module_at s p)) (module_instances s))) =
      subst IsApart (sym (ways-flat (λ p. drives_in s p (module_at s p)) (module_instances s)))
      (apart-flat (λ (p : Path). p) (λ p. ways_of (drives_in s p (module_at s p))) (module_instances s) (subst IsApart (sym (map-id (module_instances s))) (instances_apart s apart)) (λ p h. chunk-apart p (module_at s p) refl)
      (λ p q w hp hq wp wq.
      let dp = of-ways w (drives_in s p (module_at s p)) wp in
      let dq = of-ways w (drives_in s q (module_at s q)) wq in
      let same : Some p ≡ Some q = sym (owned p (module_at s p) refl dp.0 w dp.1 dp.2) ∙ owned q (module_at s q) refl dq.0 w dq.1 dq.2 in
      cc)) in
      subst IsApart (sym (edges-ways (drives_of s) ∙ ways-append inner outer))
      (apart-append (ways_of inner) (ways_of outer) inner-apart (outer-ways-apart (module_at s []) refl)
      (λ w l r.
      let d = of-ways w inner l in
      let p = of-flat (λ p. drives_in s p (module_at s p)) d.0 (module_instances s) d.1 in
      let b = of-ways w outer r in
      let same : Some p.0 ≡ None = sym (owned p.0 (module_at s p.0) refl d.0 w p.2 d.2) ∙ owned-outer (module_at s []) refl b.0 w b.1 b.2 in
      absurd cc))

  pub keys_apart : AreKeys (keys_of s)
  keys_apart = record { instances = instances_apart s apart; leaves = leaves_apart s apart; nodes = nodes_apart s apart; ways = ways_apart; net_bits = nodes_net_bits s }
