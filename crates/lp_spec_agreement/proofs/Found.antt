-- Cell instances are found by their names, and what drives a node is an output pin of one of them.
use Rattle.std.proofs.Common.{◌≡◌, ◌≤◌, ◌<◌, ℕ, suc, ◌+◌, ◌-◌, Bool, true, false, ◌&&◌, List, [], ◌∷◌, ◌++◌, length, Option, Some, None, inl, inr, refl, sym, ap, ◌∙◌, subst, arith}
use Rattle.std.specs.Prelude.{bytes_eq, flat_map, filter, is_some, if◌then◌else◌, option_and_then, not}
use Rattle.std.specs.List.{list_any}
use Rattle.std.proofs.lemmas.Bool.{and_parts, cases_lt}
use Rattle.lp_model.specs.NetlistView.{BitView, PortView, InstanceView, ModuleView}
use Rattle.lp_model.specs.LibraryView.{PgPinView, PinView, CellView}
use Rattle.lp_spec_design.specs.Keys.{Name, Path, PortBit, AssignBit, Node, Inner, Outer, Fixed, Source, CellPin, SwitchedPin, Environment, From, same_index, same_node}
use Rattle.lp_spec_design.specs.Netlists.{Structure, first, module_named, cell_named, instance_named, module_at, cell_at, indices, node_of, is_input, connected}
use Rattle.lp_spec_design.specs.Instances.{Placed, cells_of_target, cells_of, cells_in, cells_below, cell_instances}
use Rattle.lp_spec_design.specs.Graph.{pairs, some_of, when, joined_outside, from_port, ports_in, joined_inside, from_instance, is_output_pin, touches, from_cell, from_target, from_one, numbered, from_assign, in_module, outside, sources_of, source_of}
use Rattle.lp_spec_design.specs.Winners.{IsIn}
use Rattle.lp_spec_design.specs.Reads.{name-true}
use Rattle.lp_spec_design.proofs.Members.{in-either, in-flat, of-map, of-flat, of-some}
use Rattle.lp_spec_design.proofs.Looped.{source_by, outer_sources, outer_by}
use Rattle.lp_spec_design.proofs.Sources.{then_is, first_in}
use Rattle.lp_spec_realises.specs.ProjectNetlists.{has_names_apart}
use Rattle.lp_spec_agreement.proofs.Apart.{when_is, instance_found}
use Rattle.lp_spec_agreement.proofs.Bits.{head_in, in_some}

-- ---- cell instances

module _ (s : Structure) where
  -- those of an instance are among those of its parent
  cells_up : (i : Name) (q : Path) (m : ModuleView) → module_at s (i ∷ q) ≡ Some m → (depth : ℕ) (a : Placed) → IsIn a (cells_below s depth (i ∷ q)) → IsIn a (cells_below s (suc depth) q)
  cells_up i q m e depth a h =
      let above = then_is (λ (x : ModuleView). option_and_then (λ (y : InstanceView). module_named s y.target) (instance_named x i)) (module_at s q) m e in
      let inst = then_is (λ (y : InstanceView). module_named s y.target) (instance_named above.0 i) m above.2 in
      let found = first_in (λ (y : InstanceView). bytes_eq y.name i) above.0.instances inst.0 inst.1 in
      let inside : IsIn a (cells_below s depth (inst.0.name ∷ q)) = subst (λ n. IsIn a (cells_below s depth (n ∷ q))) (sym (name-true inst.0.name i found.1)) h in
      let target : IsIn a (cells_of s (cells_below s depth) q inst.0) = subst (λ o. IsIn a (cells_of_target (cells_below s depth) q inst.0.name o (cell_named s inst.0.target))) (sym inst.2) inside in
      subst (λ o. IsIn a (cells_in s (cells_below s depth) q o)) (sym above.1) (in-flat (cells_of s (cells_below s depth) q) inst.0 a above.0.instances found.0 target)

  module_above : (i : Name) (q : Path) (m : ModuleView) → module_at s (i ∷ q) ≡ Some m → (outer : ModuleView) × (module_at s q ≡ Some outer)
  module_above i q m e =
      let above = then_is (λ (x : ModuleView). option_and_then (λ (y : InstanceView). module_named s y.target) (instance_named x i)) (module_at s q) m e in (above.0, above.1)

  -- and so among all
  cells_at : (q : Path) (m : ModuleView) → module_at s q ≡ Some m → (depth n : ℕ) → n ≡ depth + length q → (a : Placed) → IsIn a (cells_below s depth q) → IsIn a (cells_below s n [])
  cells_at [] m e depth n is a h = let same : depth ≡ n = omega (arith, is) in subst (λ d. IsIn a (cells_below s d [])) same h
  cells_at (i ∷ q) m e depth n is a h =
      let outer = module_above i q m e in
      cells_at q outer.0 outer.1 (suc depth) n (omega (arith, is)) a (cells_up i q m e depth a h)

  cell_is : (y : InstanceView) (c : CellView) → cell_named s y.target ≡ Some c → module_named s y.target ≡ None
  cell_is y c e = by (module_named s y.target) refl
    where
      by : (o : Option ModuleView) → module_named s y.target ≡ o → o ≡ None
      by None is = refl
      by (Some m) is = let none : None ≡ Some c = sym (ap (λ (o : Option ModuleView). if is_some o then None else first (λ (d : CellView). bytes_eq d.name y.target) s.cells) is) ∙ e in absurd cc

  module _ (shallow : (q : Path) → 64 ≤ length q → module_at s q ≡ None) where
    short : (q : Path) (m : ModuleView) → module_at s q ≡ Some m → length q < 64
    short q m e = elim (cases_lt (length q) 64) [
      | inl less ↦ less
      | inr more ↦ let none : None ≡ Some m = sym (shallow q more) ∙ e in absurd cc
    ]

    instance_in : (q : Path) (m : ModuleView) → module_at s q ≡ Some m → (y : InstanceView) → IsIn y m.instances → (c : CellView) → cell_named s y.target ≡ Some c → IsIn (record { path = q; instance = y.name }) (cell_instances s)
    unfolding cell_instances
    instance_in q m e y h c target =
        let less = short q m e in
        let depth : ℕ = 63 - length q in
        let here : IsIn (record { path = q; instance = y.name }) (cells_of s (cells_below s depth) q y) =
        subst (λ o. IsIn (record { path = q; instance = y.name }) (cells_of_target (cells_below s depth) q y.name o (cell_named s y.target))) (sym (cell_is y c target))
        (subst (λ o. IsIn (record { path = q; instance = y.name }) (cells_of_target (cells_below s depth) q y.name None o)) (sym target) (inl refl)) in
        let there : IsIn (record { path = q; instance = y.name }) (cells_below s (suc depth) q) =
        subst (λ o. IsIn (record { path = q; instance = y.name }) (cells_in s (cells_below s depth) q o)) (sym e) (in-flat (cells_of s (cells_below s depth) q) y (record { path = q; instance = y.name }) m.instances h here) in
        cells_at q m e (suc depth) 64 (omega (arith, less)) (record { path = q; instance = y.name }) there

    -- a cell that stands at a path under a name is one of the cell instances
    pub cell_there : (q : Path) (x : Name) (c : CellView) → cell_at s q x ≡ Some c → IsIn (record { path = q; instance = x }) (cell_instances s)
    cell_there q x c e =
        let above = then_is (λ (m : ModuleView). option_and_then (λ (y : InstanceView). cell_named s y.target) (instance_named m x)) (module_at s q) c e in
        let inst = then_is (λ (y : InstanceView). cell_named s y.target) (instance_named above.0 x) c above.2 in
        let found = first_in (λ (y : InstanceView). bytes_eq y.name x) above.0.instances inst.0 inst.1 in
        subst (λ n. IsIn (record { path = q; instance = n }) (cell_instances s)) (name-true inst.0.name x found.1) (instance_in q above.0 above.1 inst.0 found.0 c inst.2)

-- ---- what drives a node

-- an output pin of the cell of an instance
pub record IsDriver (s : Structure) (q : Path) (x v : Name) : Type 0 where
  pub owner : ModuleView
  pub there : module_at s q ≡ Some owner
  pub instance : InstanceView
  pub among : IsIn instance owner.instances
  pub named : instance.name ≡ x
  pub cell : CellView
  pub target : cell_named s instance.target ≡ Some cell
  pub pin : PinView
  pub pin_in : IsIn pin cell.pins
  pub output : is_output_pin pin ≡ true
  pub pin_named : pin.name ≡ v

module _ (s : Structure) (q : Path) (x v : Name) where
  abbrev it : Source
  it = CellPin q x v

  no_port : (p : Path) (n : Name) (i : Option ℕ) (port : PortView) → IsIn it (from_port s p n i port) → ⊥
  no_port [] n i port h = by (list_any (same_index i) (indices port.range)) h
    where
      by : (t : Bool) → IsIn it (if t then From (PortBit [] n i) (Outer n i) ∷ [] else []) → ⊥
      by false g = absurd g
      by true (inr g) = absurd g
      by true (inl is) = absurd cc
  no_port (inst ∷ p) n i port h =
      let above = in_some (λ (outer : ModuleView). option_and_then (λ (y : InstanceView). option_and_then (λ (inner : ModuleView). Some (joined_outside p inst n i port y inner)) (module_named s y.target)) (first (λ (y : InstanceView). bytes_eq y.name inst) outer.instances)) (module_at s p) it h in
      let that = in_some (λ (y : InstanceView). option_and_then (λ (inner : ModuleView). Some (joined_outside p inst n i port y inner)) (module_named s y.target)) (first (λ (y : InstanceView). bytes_eq y.name inst) above.0.instances) it above.2 in
      let inside = in_some (λ (inner : ModuleView). Some (joined_outside p inst n i port that.0 inner)) (module_named s that.0.target) it that.2 in
      let pair = of-some (λ (z : Option ℕ × BitView). when (same_index z.0 i) (From (PortBit (inst ∷ p) n i) (node_of p z.1))) it (pairs (indices port.range) (connected inside.0.ports n that.0.connections)) inside.2 in
      let is = (when_is (same_index pair.0.0 i) (From (PortBit (inst ∷ p) n i) (node_of p pair.0.1)) it pair.2).1 in absurd cc

  module _ (p : Path) (m : ModuleView) (at : module_at s p ≡ Some m) (n : Name) (i : Option ℕ) where
    from_cell_is : (y : InstanceView) → IsIn y m.instances → (c : CellView) → cell_named s y.target ≡ Some c → IsIn it (from_cell p n i y c) → IsDriver s q x v
    from_cell_is y h c target g = elim (in-either it
        (some_of (λ (k : PinView). when (is_output_pin k && touches p n i (connected [] k.name y.connections)) (CellPin p y.name k.name)) c.pins)
        (some_of (λ (k : PgPinView). when (is_some k.switched && touches p n i (connected [] k.name y.connections)) (SwitchedPin p y.name k.name)) c.pgs) g) [
          | inl pin ↦
              let found = of-some (λ (k : PinView). when (is_output_pin k && touches p n i (connected [] k.name y.connections)) (CellPin p y.name k.name)) it c.pins pin in
              let is = when_is (is_output_pin found.0 && touches p n i (connected [] found.0.name y.connections)) (CellPin p y.name found.0.name) it found.2 in
              let same : CellPin p y.name found.0.name ≡ CellPin q x v = is.1 in
              let path : p ≡ q = cc in
              let name : y.name ≡ x = cc in
              let pin_is : found.0.name ≡ v = cc in
              record { owner = m; there = ap (module_at s) (sym path) ∙ at; instance = y; among = h; named = name; cell = c; target = target; pin = found.0; pin_in = found.1; output = (and_parts _ _ is.0).0; pin_named = pin_is }
          | inr pg ↦
              let found = of-some (λ (k : PgPinView). when (is_some k.switched && touches p n i (connected [] k.name y.connections)) (SwitchedPin p y.name k.name)) it c.pgs pg in
              let is = (when_is (is_some found.0.switched && touches p n i (connected [] found.0.name y.connections)) (SwitchedPin p y.name found.0.name) it found.2).1 in absurd cc
        ]

    no_module : (y : InstanceView) (inner : ModuleView) → IsIn it (from_instance p n i y inner) → ⊥
    no_module y inner h =
        let port = of-flat (joined_inside p n i y inner) it (filter (λ (k : PortView). not (is_input k)) inner.ports) h in
        let pair = of-some (λ (z : Option ℕ × BitView). when (same_node (node_of p z.1) (Inner n i p)) (From (PortBit (y.name ∷ p) port.0.name z.0) (Inner port.0.name z.0 (y.name ∷ p)))) it (pairs (indices port.0.range) (connected inner.ports port.0.name y.connections)) port.2 in
        let is = (when_is (same_node (node_of p pair.0.1) (Inner n i p)) (From (PortBit (y.name ∷ p) port.0.name pair.0.0) (Inner port.0.name pair.0.0 (y.name ∷ p))) it pair.2).1 in absurd cc

    from_target_is : (y : InstanceView) → IsIn y m.instances → (o : Option ModuleView) (c : Option CellView) → cell_named s y.target ≡ c → IsIn it (from_target p n i y o c) → IsDriver s q x v
    from_target_is y h (Some inner) c e g = absurd (no_module y inner g)
    from_target_is y h None (Some c) e g = from_cell_is y h c e g
    from_target_is y h None None e g = absurd g

    no_assign : IsIn it (flat_map (from_assign p n i) (numbered 0 m.assigns)) → ⊥
    no_assign h =
        let a = of-flat (from_assign p n i) it (numbered 0 m.assigns) h in
        let pair = of-some (λ (z : ℕ × (BitView × BitView)). when (same_node (node_of p z.1.0) (Inner n i p)) (From (AssignBit p a.0.0 z.0) (node_of p z.1.1))) it (numbered 0 (pairs a.0.1.left a.0.1.right)) a.2 in
        let is = (when_is (same_node (node_of p pair.0.1.0) (Inner n i p)) (From (AssignBit p a.0.0 pair.0.0) (node_of p pair.0.1.1)) it pair.2).1 in absurd cc

    in_module_is : IsIn it (in_module s p n i m) → IsDriver s q x v
    in_module_is h = elim (in-either it (ports_in s p n i m) (flat_map (from_one s p n i) m.instances ++ flat_map (from_assign p n i) (numbered 0 m.assigns)) h) [
      | inl port ↦ let at_port = of-flat (from_port s p n i) it (filter (λ (k : PortView). bytes_eq k.name n && is_input k) m.ports) port in absurd (no_port p n i at_port.0 at_port.2)
      | inr rest ↦ elim (in-either it (flat_map (from_one s p n i) m.instances) (flat_map (from_assign p n i) (numbered 0 m.assigns)) rest) [
        | inl inst ↦ let y = of-flat (from_one s p n i) it m.instances inst in from_target_is y.0 y.1 (module_named s y.0.target) (cell_named s y.0.target) refl y.2
        | inr assign ↦ absurd (no_assign assign)
      ]
    ]

  inner_sources : Path → Name → Option ℕ → Option ModuleView → List Source
  inner_sources p n i None = []
  inner_sources p n i (Some m) = in_module s p n i m

  inner_by : (p : Path) (n : Name) (i : Option ℕ) (o : Option ModuleView) → module_at s p ≡ o → sources_of s (Inner n i p) ≡ inner_sources p n i o
  unfolding inner_sources
  inner_by p n i None e = rw (e) refl
  inner_by p n i (Some m) e = rw (e) refl

  inner_driver : (p : Path) (n : Name) (i : Option ℕ) → source_of s (Inner n i p) ≡ Some it → (o : Option ModuleView) → module_at s p ≡ o → IsDriver s q x v
  unfolding inner_sources
  inner_driver p n i e None at = let none : None ≡ Some it = sym (source_by s (Inner n i p) [] (inner_by p n i None at)) ∙ e in absurd cc
  inner_driver p n i e (Some m) at = in_module_is p m at n i (head_in (in_module s p n i m) it (sym (source_by s (Inner n i p) (in_module s p n i m) (inner_by p n i (Some m) at)) ∙ e))

  no_outer : (n : Name) (i : Option ℕ) → source_of s (Outer n i) ≡ Some it → (o : Option ModuleView) → module_at s [] ≡ o → ⊥
  no_outer n i e None at = let none : None ≡ Some it = sym (source_by s (Outer n i) [] (outer_by s n i None at)) ∙ e in absurd cc
  no_outer n i e (Some m) at =
      let there = head_in (outer_sources s n i (Some m)) it (sym (source_by s (Outer n i) (outer_sources s n i (Some m)) (outer_by s n i (Some m) at)) ∙ e) in
      let port = of-map (outside n i) it (filter (λ port. bytes_eq port.name n && list_any (same_index i) (indices port.range)) m.ports) there in
      by port.0 (is_input port.0) refl port.2
    where
      by : (k : PortView) (t : Bool) → is_input k ≡ t → it ≡ outside n i k → ⊥
      by k true input is = let no_env : it ≡ Environment = rw input at is in absurd cc
      by k false input is = let no_way : it ≡ From (PortBit [] n i) (Inner n i []) = rw input at is in absurd cc

  pub driver_is : (k : Node) → source_of s k ≡ Some it → IsDriver s q x v
  driver_is (Inner n i p) e = inner_driver p n i e (module_at s p) refl
  driver_is (Outer n i) e = absurd (no_outer n i e (module_at s []) refl)
  driver_is (Fixed b) e = let none : None ≡ Some it = e in absurd cc

-- the cell of the driver, by its path and its name
pub driver_cell : (s : Structure) → has_names_apart s.modules ≡ true → (q : Path) (x v : Name) (of : IsDriver s q x v) → cell_at s q x ≡ Some of.cell
driver_cell s apart q x v of =
    ap (cell_at s q) (sym of.named)
    ∙ (ap (λ o. option_and_then (λ (m : ModuleView). option_and_then (λ (y : InstanceView). cell_named s y.target) (instance_named m of.instance.name)) o) of.there
    ∙ (ap (λ o. option_and_then (λ (y : InstanceView). cell_named s y.target) o) (instance_found s apart q of.owner of.there of.instance of.among)
    ∙ of.target))
