-- What the way into a bit of an input port comes from.
use Rattle.std.proofs.Common.{◌≡◌, ℕ, Bool, true, false, cond, List, [], ◌∷◌, Option, Some, inl, refl, sym, ◌∙◌, subst}
use Rattle.std.specs.Prelude.{option_and_then}
use Rattle.std.specs.List.{list_any}
use Rattle.lp_model.specs.NetlistView.{BitView, PortView, InstanceView, ModuleView}
use Rattle.lp_spec_design.specs.Keys.{Name, Path, same_index, Outer, PortBit, Source, From}
use Rattle.lp_spec_design.specs.Netlists.{Structure, module_named, instance_named, module_at, node_of, indices, connected}
use Rattle.lp_spec_design.specs.Graph.{pairs, when, from_port}
use Rattle.lp_spec_design.specs.Winners.{IsIn}
use Rattle.lp_spec_design.proofs.Members.{of-some, of-when}
use Rattle.lp_spec_design.proofs.Sources.{then_is}
use Rattle.lp_spec_wired.proofs.Inputs.{joined-port}
use Rattle.lp_spec_driven.proofs.Sources.{of-when-is}

module _ (s : Structure) (q : PortView) (i : Option ℕ) (z : Source) (more : List Source) where
  -- at the top from its outer side
  pub top-in : from_port s [] q.name i q ≡ z ∷ more → (list_any (same_index i) (indices q.range) ≡ true) × (z ≡ From (PortBit [] q.name i) (Outer q.name i))
  top-in e = by (list_any (same_index i) (indices q.range)) refl e
    where
      by : (d : Bool) → list_any (same_index i) (indices q.range) ≡ d → cond d (From (PortBit [] q.name i) (Outer q.name i) ∷ []) [] ≡ z ∷ more → (list_any (same_index i) (indices q.range) ≡ true) × (z ≡ From (PortBit [] q.name i) (Outer q.name i))
      by true is g = let same : z ≡ From (PortBit [] q.name i) (Outer q.name i) = cc in (is, same)
      by false is g = absurd cc

  -- below it from what the parent's connection has there
  pub record LowIn (inst : Name) (up : Path) (m : ModuleView) : Type 0 where
    pub parent : ModuleView
    pub above : module_at s up ≡ Some parent
    pub instance : InstanceView
    pub found : instance_named parent inst ≡ Some instance
    pub target : module_named s instance.target ≡ Some m
    pub two : Option ℕ × BitView
    pub pair : IsIn two (pairs (indices q.range) (connected m.ports q.name instance.connections))
    pub index : same_index two.0 i ≡ true
    pub is : z ≡ From (PortBit (inst ∷ up) q.name i) (node_of up two.1)

  pub low-in : (inst : Name) (up : Path) (m : ModuleView) → module_at s (inst ∷ up) ≡ Some m → from_port s (inst ∷ up) q.name i q ≡ z ∷ more → LowIn inst up m
  low-in inst up m e list =
      let parent = then_is (λ (k : ModuleView). option_and_then (λ (y : InstanceView). module_named s y.target) (instance_named k inst)) (module_at s up) m e in
      let child = then_is (λ (y : InstanceView). module_named s y.target) (instance_named parent.0 inst) m parent.2 in
      let joined = joined-port s inst up q.name i q m parent.0 child.0 e parent.1 child.1 in
      let found = of-some (λ (u : Option ℕ × BitView). when (same_index u.0 i) (From (PortBit (inst ∷ up) q.name i) (node_of up u.1))) z (pairs (indices q.range) (connected m.ports q.name child.0.connections))
      (subst (λ l. IsIn z l) (sym list ∙ joined) (inl refl)) in
      record {
        parent = parent.0;
        above = parent.1;
        instance = child.0;
        found = child.1;
        target = child.2;
        two = found.0;
        pair = found.1;
        index = of-when (same_index found.0.0 i) (From (PortBit (inst ∷ up) q.name i) (node_of up found.0.1)) z found.2;
        is = of-when-is (same_index found.0.0 i) (From (PortBit (inst ∷ up) q.name i) (node_of up found.0.1)) z found.2;
      }
