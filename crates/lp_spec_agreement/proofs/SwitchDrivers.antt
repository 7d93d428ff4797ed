-- What drives a node as a switched pin is one of the cell of an instance.
use Rattle.std.proofs.Common.{◌≡◌, ℕ, Bool, true, false, ◌&&◌, List, [], ◌∷◌, ◌++◌, Option, Some, None, inl, inr, refl, sym, ap, ◌∙◌}
use Rattle.std.specs.Prelude.{bytes_eq, flat_map, filter, is_some, if◌then◌else◌, option_and_then, not}
use Rattle.std.specs.List.{list_any}
use Rattle.std.proofs.lemmas.Bool.{and_parts}
use Rattle.lp_model.specs.NetlistView.{BitView, PortView, InstanceView, ModuleView}
use Rattle.lp_model.specs.LibraryView.{PgPinView, PinView, CellView}
use Rattle.lp_spec_design.specs.Keys.{Name, Path, PortBit, AssignBit, Node, Inner, Outer, Fixed, Source, CellPin, SwitchedPin, Environment, From, same_index, same_node}
use Rattle.lp_spec_design.specs.Netlists.{Structure, first, module_named, cell_named, module_at, indices, node_of, is_input, connected}
use Rattle.lp_spec_design.specs.Graph.{pairs, some_of, when, joined_outside, from_port, ports_in, joined_inside, from_instance, is_output_pin, touches, from_cell, from_target, from_one, numbered, from_assign, in_module, outside, sources_of, source_of}
use Rattle.lp_spec_design.specs.Winners.{IsIn}
use Rattle.lp_spec_design.proofs.Members.{in-either, of-map, of-flat, of-some}
use Rattle.lp_spec_design.proofs.Looped.{source_by, outer_sources, outer_by}
use Rattle.lp_spec_agreement.proofs.Apart.{when_is}
use Rattle.lp_spec_agreement.proofs.Bits.{head_in, in_some}

-- a switched pin of the cell of an instance
pub record IsSwitchDriver (s : Structure) (q : Path) (x v : Name) : Type 0 where
  pub owner : ModuleView
  pub there : module_at s q ≡ Some owner
  pub instance : InstanceView
  pub among : IsIn instance owner.instances
  pub named : instance.name ≡ x
  pub cell : CellView
  pub target : cell_named s instance.target ≡ Some cell
  pub pg : PgPinView
  pub pg_in : IsIn pg cell.pgs
  pub switched : is_some pg.switched ≡ true

module _ (s : Structure) (q : Path) (x v : Name) where
  abbrev it : Source
  it = SwitchedPin q x v

  no_port : (p : Path) (n : Name) (i : Option ℕ) (port : PortView) → IsIn it (from_port s p n i port) → ⊥
  no_port [] n i port h = by (list_any (same_index i) (indices port.range)) h
    where
      by : (t : Bool) → IsIn it (if t then From (PortBit [] n i) (Outer n i) ∷ [] else []) → ⊥
      by false g = absurd g
      by true (inr g) = absurd g
      by true (inl is) = absurd cc
  no_port (inst ∷ p) n i port h =
      let above = in_some (λ (outer : ModuleView). option_and_then (λ (y : InstanceView). option_and_then (λ (inner : ModuleView). Some (joined_outside p inst n i port y inner)) (module_named s y.target)) (first (λ (y : InstanceView). bytes_eq y.name inst) outer.instances)) (module_at s p) it h in
      let that = in_some (λ (y : InstanceView). option_and_then (λ (inner : ModuleView). Some (joined_outside p inst n i port y inner)) (module_named s y.target)) (first (λ (y : InstanceView). bytes_eq y.name inst) above.0.instances) it above.2 in
      let inside = in_some (λ (inner : ModuleView). Some (joined_outside p inst n i port that.0 inner)) (module_named s that.0.target) it that.2 in
      let pair = of-some (λ (z : Option ℕ × BitView). when (same_index z.0 i) (From (PortBit (inst ∷ p) n i) (node_of p z.1))) it (pairs (indices port.range) (connected inside.0.ports n that.0.connections)) inside.2 in
      let is = (when_is (same_index pair.0.0 i) (From (PortBit (inst ∷ p) n i) (node_of p pair.0.1)) it pair.2).1 in absurd cc

  module _ (p : Path) (m : ModuleView) (at : module_at s p ≡ Some m) (n : Name) (i : Option ℕ) where
    from_cell_is : (y : InstanceView) → IsIn y m.instances → (c : CellView) → cell_named s y.target ≡ Some c → IsIn it (from_cell p n i y c) → IsSwitchDriver s q x v
    from_cell_is y h c target g = elim (in-either it
        (some_of (λ (k : PinView). when (is_output_pin k && touches p n i (connected [] k.name y.connections)) (CellPin p y.name k.name)) c.pins)
        (some_of (λ (k : PgPinView). when (is_some k.switched && touches p n i (connected [] k.name y.connections)) (SwitchedPin p y.name k.name)) c.pgs) g) [
          | inl pin ↦
              let found = of-some (λ (k : PinView). when (is_output_pin k && touches p n i (connected [] k.name y.connections)) (CellPin p y.name k.name)) it c.pins pin in
              let is = (when_is (is_output_pin found.0 && touches p n i (connected [] found.0.name y.connections)) (CellPin p y.name found.0.name) it found.2).1 in absurd cc
          | inr pg ↦
              let found = of-some (λ (k : PgPinView). when (is_some k.switched && touches p n i (connected [] k.name y.connections)) (SwitchedPin p y.name k.name)) it c.pgs pg in
              let is = when_is (is_some found.0.switched && touches p n i (connected [] found.0.name y.connections)) (SwitchedPin p y.name found.0.name) it found.2 in
              let same : SwitchedPin p y.name found.0.name ≡ SwitchedPin q x v = is.1 in
              let path : p ≡ q = cc in
              let name : y.name ≡ x = cc in
              record { owner = m; there = ap (module_at s) (sym path) ∙ at; instance = y; among = h; named = name; cell = c; target = target; pg = found.0; pg_in = found.1; switched = (and_parts _ _ is.0).0 }
        ]

    no_module : (y : InstanceView) (inner : ModuleView) → IsIn it (from_instance p n i y inner) → ⊥
    no_module y inner h =
        let port = of-flat (joined_inside p n i y inner) it (filter (λ (k : PortView). not (is_input k)) inner.ports) h in
        let pair = of-some (λ (z : Option ℕ × BitView). when (same_node (node_of p z.1) (Inner n i p)) (From (PortBit (y.name ∷ p) port.0.name z.0) (Inner port.0.name z.0 (y.name ∷ p)))) it (pairs (indices port.0.range) (connected inner.ports port.0.name y.connections)) port.2 in
        let is = (when_is (same_node (node_of p pair.0.1) (Inner n i p)) (From (PortBit (y.name ∷ p) port.0.name pair.0.0) (Inner port.0.name pair.0.0 (y.name ∷ p))) it pair.2).1 in absurd cc

    from_target_is : (y : InstanceView) → IsIn y m.instances → (o : Option ModuleView) (c : Option CellView) → cell_named s y.target ≡ c → IsIn it (from_target p n i y o c) → IsSwitchDriver s q x v
    from_target_is y h (Some inner) c e g = absurd (no_module y inner g)
    from_target_is y h None (Some c) e g = from_cell_is y h c e g
    from_target_is y h None None e g = absurd g

    no_assign : IsIn it (flat_map (from_assign p n i) (numbered 0 m.assigns)) → ⊥
    no_assign h =
        let a = of-flat (from_assign p n i) it (numbered 0 m.assigns) h in
        let pair = of-some (λ (z : ℕ × (BitView × BitView)). when (same_node (node_of p z.1.0) (Inner n i p)) (From (AssignBit p a.0.0 z.0) (node_of p z.1.1))) it (numbered 0 (pairs a.0.1.left a.0.1.right)) a.2 in
        let is = (when_is (same_node (node_of p pair.0.1.0) (Inner n i p)) (From (AssignBit p a.0.0 pair.0.0) (node_of p pair.0.1.1)) it pair.2).1 in absurd cc

    in_module_is : IsIn it (in_module s p n i m) → IsSwitchDriver s q x v
    in_module_is h = elim (in-either it (ports_in s p n i m) (flat_map (from_one s p n i) m.instances ++ flat_map (from_assign p n i) (numbered 0 m.assigns)) h) [
      | inl port ↦ let at_port = of-flat (from_port s p n i) it (filter (λ (k : PortView). bytes_eq k.name n && is_input k) m.ports) port in absurd (no_port p n i at_port.0 at_port.2)
      | inr rest ↦ elim (in-either it (flat_map (from_one s p n i) m.instances) (flat_map (from_assign p n i) (numbered 0 m.assigns)) rest) [
        | inl inst ↦ let y = of-flat (from_one s p n i) it m.instances inst in from_target_is y.0 y.1 (module_named s y.0.target) (cell_named s y.0.target) refl y.2
        | inr assign ↦ absurd (no_assign assign)
      ]
    ]

  inner_sources : Path → Name → Option ℕ → Option ModuleView → List Source
  inner_sources p n i None = []
  inner_sources p n i (Some m) = in_module s p n i m

  inner_by : (p : Path) (n : Name) (i : Option ℕ) (o : Option ModuleView) → module_at s p ≡ o → sources_of s (Inner n i p) ≡ inner_sources p n i o
  unfolding inner_sources
  inner_by p n i None e = rw (e) refl
  inner_by p n i (Some m) e = rw (e) refl

  inner_driver : (p : Path) (n : Name) (i : Option ℕ) → source_of s (Inner n i p) ≡ Some it → (o : Option ModuleView) → module_at s p ≡ o → IsSwitchDriver s q x v
  unfolding inner_sources
  inner_driver p n i e None at = let none : None ≡ Some it = sym (source_by s (Inner n i p) [] (inner_by p n i None at)) ∙ e in absurd cc
  inner_driver p n i e (Some m) at = in_module_is p m at n i (head_in (in_module s p n i m) it (sym (source_by s (Inner n i p) (in_module s p n i m) (inner_by p n i (Some m) at)) ∙ e))

  no_outer : (n : Name) (i : Option ℕ) → source_of s (Outer n i) ≡ Some it → (o : Option ModuleView) → module_at s [] ≡ o → ⊥
  no_outer n i e None at = let none : None ≡ Some it = sym (source_by s (Outer n i) [] (outer_by s n i None at)) ∙ e in absurd cc
  no_outer n i e (Some m) at =
      let there = head_in (outer_sources s n i (Some m)) it (sym (source_by s (Outer n i) (outer_sources s n i (Some m)) (outer_by s n i (Some m) at)) ∙ e) in
      let port = of-map (outside n i) it (filter (λ port. bytes_eq port.name n && list_any (same_index i) (indices port.range)) m.ports) there in
      by port.0 (is_input port.0) refl port.2
    where
      by : (k : PortView) (t : Bool) → is_input k ≡ t → it ≡ outside n i k → ⊥
      by k true input is = let no_env : it ≡ Environment = rw input at is in absurd cc
      by k false input is = let no_way : it ≡ From (PortBit [] n i) (Inner n i []) = rw input at is in absurd cc

  pub switch_driver_is : (k : Node) → source_of s k ≡ Some it → IsSwitchDriver s q x v
  switch_driver_is (Inner n i p) e = inner_driver p n i e (module_at s p) refl
  switch_driver_is (Outer n i) e = absurd (no_outer n i e (module_at s []) refl)
  switch_driver_is (Fixed b) e = let none : None ≡ Some it = e in absurd cc
