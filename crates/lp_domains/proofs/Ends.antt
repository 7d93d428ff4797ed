-- Each edge of a port has the net bit inside at one of its ends, and the port at its instance's module.
use Rattle.std.proofs.Common.{◌≡◌, ℕ, Bool, true, false, not, List, [], ◌∷◌, ◌++◌, map, Option, Some, None, inl, inr, refl, sym, ap, ◌∙◌, subst}
use Rattle.std.specs.Prelude.{filter, flat_map, bytes_eq, is_some, option_and_then, if◌then◌else◌}
use Rattle.lp_model.specs.declared.graph.EdgeKind.{EdgeKind}
use Rattle.lp_model.specs.declared.graph.EdgeKind.TheVariants.{In, Out, Assign}
use Rattle.lp_model.specs.NetlistView.{BitView, PortView, InstanceView, AssignView, ModuleView}
use Rattle.lp_model.specs.LibraryView.{PgPinView, CellView, PinView}
use Rattle.lp_spec_design.specs.Keys.{Name, Path, Node, Inner, Outer, Way, PortBit, AssignBit, CellPin, SwitchedPin, Environment, From, same_node}
use Rattle.lp_spec_design.specs.Netlists.{Structure, first, module_named, cell_named, instance_named, module_at, indices, node_of, connected, is_input}
use Rattle.lp_spec_design.specs.Instances.{module_instances}
use Rattle.lp_spec_design.specs.Graph.{pairs, numbered, is_output_pin, outside}
use Rattle.lp_spec_design.specs.Winners.{IsIn}
use Rattle.lp_spec_design.specs.Reads.{name-true, name-self, node-true, node-self}
use Rattle.lp_spec_design.proofs.Members.{in-either, in-map, of-map, of-flat, of-filter, of-some}
use Rattle.lp_spec_bridge.specs.Edges.{Drive, Edge, edge_of, edges_of, connected_drives, port_drives, output_drives, cell_drives, target_drives, instance_drives, assign_drives, drives_in, outer_drives, drives_of}
use Rattle.lp_spec_bridge.specs.Elaborates.{Ends, edge_ends}
use Rattle.lp_spec_bridge.specs.Keyed.{IsApart}
use Rattle.lp_spec_bridge.specs.Names.{HasNamesApart}
use Rattle.lp_spec_bridge.proofs.Driven.{then-in}
use Rattle.lp_spec_bridge.proofs.Distinct.{module-in}

-- ---- the end inside

unfoldable pub end_inside : Ends → Option Node
end_inside (from, to, In) = Some to
end_inside (from, to, Out) = Some from
end_inside (from, to, Assign) = None

unfoldable pub way_bit : Way → Option Node
way_bit (PortBit p n i) = Some (Inner n i p)
way_bit (AssignBit p a k) = None

abbrev kind_by : Bool → EdgeKind
kind_by b = if b then In else Out

-- an edge that leads to the net bit inside, or comes from it
end-to : (from to : Node) (n : Name) (i : Option ℕ) (p : Path) → to ≡ Inner n i p → end_inside (from, to, kind_by (same_node to (Inner n i p))) ≡ Some (Inner n i p)
unfolding end_inside
end-to from to n i p is = ap (λ (b : Bool). end_inside (from, to, kind_by b)) (ap (λ k. same_node k (Inner n i p)) is ∙ node-self (Inner n i p)) ∙ ap (λ (k : Node). Some k) is

end-from : (from to : Node) (n : Name) (i : Option ℕ) (p : Path) → from ≡ Inner n i p → end_inside (from, to, kind_by (same_node to (Inner n i p))) ≡ Some (Inner n i p)
unfolding end_inside
end-from from to n i p is = by (same_node to (Inner n i p)) refl
  where
    by : (b : Bool) → same_node to (Inner n i p) ≡ b → end_inside (from, to, kind_by b) ≡ Some (Inner n i p)
    by true e = ap (λ (k : Node). Some k) (node-true to (Inner n i p) e)
    by false e = ap (λ (k : Node). Some k) is

-- ---- what holds of each drive

-- a port of an instance's module
pub record HasPort (s : Structure) (p : Path) (n : Name) : Type 0 where
  pub inside : ModuleView
  pub port : PortView
  pub at : module_at s p ≡ Some inside
  pub listed : IsIn port inside.ports
  pub named : port.name ≡ n

-- of a way from a node to one
IsWay : Structure → Node → Way → Node → Type 0
IsWay s from (PortBit p n i) to = (end_inside (from, to, kind_by (same_node to (Inner n i p))) ≡ Some (Inner n i p)) × HasPort s p n
IsWay s from (AssignBit p a k) to = Unit {0}

IsDriven : Structure → Drive → Type 0
IsDriven s (to, From w from) = IsWay s from w to
IsDriven s (to, x) = Unit {0}

-- ---- a member is found by its name

named-first : {A : Type 0} (name : A → Name) (xs : List A) (x : A) → IsApart (map name xs) → IsIn x xs → first (λ y. bytes_eq (name y) (name x)) xs ≡ Some x
named-first name [] x apart h = absurd h
named-first name (y ∷ ys) x apart (inl is) = ap (λ b. if b then Some y else first (λ z. bytes_eq (name z) (name x)) ys) (ap (λ z. bytes_eq (name y) (name z)) is ∙ name-self (name y)) ∙ ap (λ z. Some z) (sym is)
named-first name (y ∷ ys) x apart (inr h) = by (bytes_eq (name y) (name x)) refl (named-first name ys x apart.1 h)
  where
    by : (b : Bool) → bytes_eq (name y) (name x) ≡ b → first (λ z. bytes_eq (name z) (name x)) ys ≡ Some x → (if b then Some y else first (λ z. bytes_eq (name z) (name x)) ys) ≡ Some x
    by true e more = absurd (apart.0 (subst (λ n. IsIn n (map name ys)) (sym (name-true (name y) (name x) e)) (in-map name x ys h)))
    by false e more = more

module _ (s : Structure) (apart : HasNamesApart s) where
  instance-module : (p : Path) (m : ModuleView) (y : InstanceView) → module_at s p ≡ Some m → IsIn y m.instances → module_at s (y.name ∷ p) ≡ module_named s y.target
  instance-module p m y e h =
      ap (option_and_then (λ (m : ModuleView). option_and_then (λ (x : InstanceView). module_named s x.target) (instance_named m y.name))) e
      ∙ ap (option_and_then (λ (x : InstanceView). module_named s x.target)) (named-first (λ (x : InstanceView). x.name) m.instances y (apart.instances m (module-in s p m e)) h)

  -- ---- an input port

  input-driven : (p : Path) (port : PortView) (x : Drive) → HasPort s p port.name → IsIn x (port_drives s p port) → IsDriven s x
  unfolding IsDriven IsWay
  input-driven [] port x has h =
      let bit = of-map {B = Drive} (λ j. (Inner port.name j [], From (PortBit [] port.name j) (Outer port.name j))) x (indices port.range) h in
      subst (IsDriven s) (sym bit.2) (end-to (Outer port.name bit.0) (Inner port.name bit.0 []) port.name bit.0 [] refl, has)
  input-driven (inst ∷ p) port x has h =
      let outer = then-in (λ (o : ModuleView). option_and_then (λ (y : InstanceView). option_and_then (λ (inner : ModuleView). Some (connected_drives (inst ∷ p) port y inner)) (module_named s y.target)) (instance_named o inst)) (module_at s p) x h in
      let y = then-in (λ (y : InstanceView). option_and_then (λ (inner : ModuleView). Some (connected_drives (inst ∷ p) port y inner)) (module_named s y.target)) (instance_named outer.0 inst) x outer.1 in
      let inner = then-in (λ (inner : ModuleView). Some (connected_drives (inst ∷ p) port y.0 inner)) (module_named s y.0.target) x y.1 in
      let bit = of-map {B = Drive} (λ (pair : Option ℕ × BitView). (Inner port.name pair.0 (inst ∷ p), From (PortBit (inst ∷ p) port.name pair.0) (node_of p pair.1))) x (pairs (indices port.range) (connected inner.0.ports port.name y.0.connections)) inner.1 in
      subst (IsDriven s) (sym bit.2) (end-to (node_of p bit.0.1) (Inner port.name bit.0.0 (inst ∷ p)) port.name bit.0.0 (inst ∷ p) refl, has)

  -- ---- an instance

  cell-driven : (p : Path) (y : InstanceView) (c : CellView) (x : Drive) → IsIn x (cell_drives p y c) → IsDriven s x
  unfolding IsDriven
  cell-driven p y c x h =
      elim (in-either x (flat_map (λ (q : PinView). map (λ b. (node_of p b, CellPin p y.name q.name)) (connected [] q.name y.connections)) (filter is_output_pin c.pins)) (flat_map (λ (g : PgPinView). map (λ b. (node_of p b, SwitchedPin p y.name g.name)) (connected [] g.name y.connections)) (filter (λ (g : PgPinView). is_some g.switched) c.pgs)) h) [
        | inl l ↦
            let q = of-flat (λ (q : PinView). map (λ b. (node_of p b, CellPin p y.name q.name)) (connected [] q.name y.connections)) x (filter is_output_pin c.pins) l in
            let bit = of-map {B = Drive} (λ (b : BitView). (node_of p b, CellPin p y.name q.0.name)) x (connected [] q.0.name y.connections) q.2 in
            subst (IsDriven s) (sym bit.2) tt
        | inr l ↦
            let g = of-flat (λ (g : PgPinView). map (λ b. (node_of p b, SwitchedPin p y.name g.name)) (connected [] g.name y.connections)) x (filter (λ (g : PgPinView). is_some g.switched) c.pgs) l in
            let bit = of-map {B = Drive} (λ (b : BitView). (node_of p b, SwitchedPin p y.name g.0.name)) x (connected [] g.0.name y.connections) g.2 in
            subst (IsDriven s) (sym bit.2) tt
      ]

  target-driven : (p : Path) (y : InstanceView) (o : Option ModuleView) (c : Option CellView) (x : Drive) → module_at s (y.name ∷ p) ≡ o → IsIn x (target_drives p y o c) → IsDriven s x
  unfolding IsDriven IsWay
  target-driven p y (Some m) c x at h =
      let port = of-flat (output_drives p y m) x (filter (λ (port : PortView). not (is_input port)) m.ports) h in
      let listed = (of-filter (λ (port : PortView). not (is_input port)) port.0 m.ports port.1).0 in
      let bit = of-map {B = Drive} (λ (pair : Option ℕ × BitView). (node_of p pair.1, From (PortBit (y.name ∷ p) port.0.name pair.0) (Inner port.0.name pair.0 (y.name ∷ p)))) x (pairs (indices port.0.range) (connected m.ports port.0.name y.connections)) port.2 in
      let has : HasPort s (y.name ∷ p) port.0.name = record { inside = m; port = port.0; at = at; listed = listed; named = refl } in
      subst (IsDriven s) (sym bit.2) (end-from (Inner port.0.name bit.0.0 (y.name ∷ p)) (node_of p bit.0.1) port.0.name bit.0.0 (y.name ∷ p) refl, has)
  target-driven p y None (Some c) x at h = cell-driven p y c x h
  target-driven p y None None x at h = absurd h

  -- ---- an assign, and the outer sides

  assign-driven : (p : Path) (a : ℕ × AssignView) (x : Drive) → IsIn x (assign_drives p a) → IsDriven s x
  unfolding IsDriven IsWay
  assign-driven p a x h =
      let bit = of-map {B = Drive} (λ (pair : ℕ × (BitView × BitView)). (node_of p pair.1.0, From (AssignBit p a.0 pair.0) (node_of p pair.1.1))) x (numbered 0 (pairs a.1.left a.1.right)) h in
      subst (IsDriven s) (sym bit.2) tt

  side : (n : Name) (i : Option ℕ) (b : Bool) → HasPort s [] n → IsDriven s (Outer n i, (if b then Environment else From (PortBit [] n i) (Inner n i [])))
  unfolding IsDriven IsWay
  side n i true has = tt
  side n i false has = (end-from (Inner n i []) (Outer n i) n i [] refl, has)

  outer-driven : (o : Option ModuleView) (x : Drive) → module_at s [] ≡ o → IsIn x (outer_drives o) → IsDriven s x
  outer-driven None x e h = absurd h
  outer-driven (Some m) x e h =
      let port = of-flat (λ (port : PortView). map (λ i. (Outer port.name i, outside port.name i port)) (indices port.range)) x m.ports h in
      let bit = of-map {B = Drive} (λ i. (Outer port.0.name i, outside port.0.name i port.0)) x (indices port.0.range) port.2 in
      let has : HasPort s [] port.0.name = record { inside = m; port = port.0; at = e; listed = port.1; named = refl } in
      subst (IsDriven s) (sym bit.2) (side port.0.name bit.0 (is_input port.0) has)

  -- ---- all drives

  drive-in : (p : Path) (o : Option ModuleView) (x : Drive) → module_at s p ≡ o → IsIn x (drives_in s p o) → IsDriven s x
  drive-in p None x e h = absurd h
  drive-in p (Some m) x e h = elim (in-either x (flat_map (port_drives s p) (filter is_input m.ports)) (flat_map (instance_drives s p) m.instances ++ flat_map (assign_drives p) (numbered 0 m.assigns)) h) [
    | inl l ↦
        let port = of-flat (port_drives s p) x (filter is_input m.ports) l in
        let kept = of-filter is_input port.0 m.ports port.1 in
        input-driven p port.0 x (record { inside = m; port = port.0; at = e; listed = kept.0; named = refl }) port.2
    | inr l ↦ elim (in-either x (flat_map (instance_drives s p) m.instances) (flat_map (assign_drives p) (numbered 0 m.assigns)) l) [
      | inl inst ↦ let y = of-flat (instance_drives s p) x m.instances inst in target-driven p y.0 (module_named s y.0.target) (cell_named s y.0.target) x (instance-module p m y.0 e y.1) y.2
      | inr assign ↦ let a = of-flat (assign_drives p) x (numbered 0 m.assigns) assign in assign-driven p a.0 x a.2
    ]
  ]

  driven : (x : Drive) → IsIn x (drives_of s) → IsDriven s x
  driven x h = elim (in-either x (flat_map (λ p. drives_in s p (module_at s p)) (module_instances s)) (outer_drives (module_at s [])) h) [
    | inl l ↦ let p = of-flat (λ p. drives_in s p (module_at s p)) x (module_instances s) l in drive-in p.0 (module_at s p.0) x refl p.2
    | inr l ↦ outer-driven (module_at s []) x refl l
  ]

  -- ---- edges

  of-edge : (d : Drive) (x : Edge) → edge_of d ≡ Some x → d ≡ (x.to, From x.way x.from)
  of-edge (k, From w j) x e = let is : record { way = w; from = j; to = k } ≡ x = cc in (λ r. ((is r).to, From (is r).way (is r).from))
  of-edge (k, CellPin p i q) x e = absurd cc
  of-edge (k, SwitchedPin p i q) x e = absurd cc
  of-edge (k, Environment) x e = absurd cc

  edge-way : (x : Edge) → IsIn x (edges_of s) → IsWay s x.from x.way x.to
  unfolding IsDriven
  edge-way x h =
      let d = of-some edge_of x (drives_of s) h in
      subst (IsDriven s) (of-edge d.0 x d.2) (driven d.0 d.1)

  way-end : (from to : Node) (w : Way) → IsWay s from w to → end_inside (edge_ends (record { way = w; from = from; to = to })) ≡ way_bit w
  unfolding IsWay way_bit end_inside
  way-end from to (PortBit p n i) is = is.0
  way-end from to (AssignBit p a k) is = refl

  -- the end inside is the net bit of the way
  pub edge-end : (x : Edge) → IsIn x (edges_of s) → end_inside (edge_ends x) ≡ way_bit x.way
  edge-end x h = way-end x.from x.to x.way (edge-way x h)

  -- and the port is there
  pub edge-port : (x : Edge) (p : Path) (n : Name) (i : Option ℕ) → IsIn x (edges_of s) → x.way ≡ PortBit p n i → HasPort s p n
  unfolding IsWay
  edge-port x p n i h e = (subst (λ w. IsWay s x.from w x.to) e (edge-way x h)).1
