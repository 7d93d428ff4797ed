-- What drives the net bit inside an input port, and the outer side of the top's.
use Rattle.std.proofs.Common.{◌≡◌, ℕ, Bool, true, List, [], ◌∷◌, ◌++◌, map, Option, Some, None, refl, sym, ◌∙◌, ap}
use Rattle.std.specs.Prelude.{bytes_eq, flat_map, option_and_then, unwrap_or, ◌&&◌}
use Rattle.std.specs.List.{list_any}
use Rattle.lp_model.specs.NetlistView.{BitView, PortView, InstanceView, ModuleView}
use Rattle.lp_model.specs.declared.netlist.Direction.TheVariants.{Input}
use Rattle.lp_spec_design.specs.Keys.{Name, Path, Inner, Outer, PortBit, Source, Environment, From, same_index}
use Rattle.lp_spec_design.specs.Netlists.{Structure, first, module_named, module_at, instance_named, indices, node_of, connected, is_input}
use Rattle.lp_spec_design.specs.Graph.{some_of, pairs, when, numbered, joined_outside, from_port, from_one, from_assign, in_module, outside, sources_of, source_of}
use Rattle.lp_spec_design.proofs.Looped.{source_by, outer_by}
use Rattle.lp_spec_written.specs.Supplies.{scalar}
use Rattle.lp_spec_wired.proofs.Lists.{first-filter}

-- an input port of a name
abbrev pub is_input_named : Name → PortView → Bool
is_input_named n q = bytes_eq q.name n && is_input q

-- a port of a name that is a scalar
abbrev pub is_scalar_named : Name → PortView → Bool
is_scalar_named n q = bytes_eq q.name n && list_any (same_index None) (indices q.range)

module _ (w : Structure) where
  in-by : (x : Path) (n : Name) (i : Option ℕ) (here : ModuleView) → module_at w x ≡ Some here → sources_of w (Inner n i x) ≡ in_module w x n i here
  in-by x n i here e = rw (e) refl

  abbrev others : Path → Name → Option ℕ → ModuleView → List Source
  others x n i here = flat_map (from_one w x n i) here.instances ++ flat_map (from_assign x n i) (numbered 0 here.assigns)

  -- the first input port of the name drives it
  pub port-first : (x : Path) (n : Name) (i : Option ℕ) (here : ModuleView) (q : PortView) (a : Source) (more : List Source)
      → module_at w x ≡ Some here → first (is_input_named n) here.ports ≡ Some q → from_port w x n i q ≡ a ∷ more → source_of w (Inner n i x) ≡ Some a
  port-first x n i here q a more e found is =
      let list = first-filter (is_input_named n) here.ports q found in
      source_by w (Inner n i x) (a ∷ ((more ++ flat_map (from_port w x n i) list.0) ++ others x n i here)) (
      in-by x n i here e
      ∙ (ap (λ ports. flat_map (from_port w x n i) ports ++ others x n i here) list.1
      ∙ ap (λ s. (s ++ flat_map (from_port w x n i) list.0) ++ others x n i here) is))

  -- an input of the top comes from the outer side
  pub top-input : (n : Name) (here : ModuleView) → module_at w [] ≡ Some here → first (is_input_named n) here.ports ≡ Some (scalar n Input)
      → source_of w (Inner n None []) ≡ Some (From (PortBit [] n None) (Outer n None))
  top-input n here e found = port-first [] n None here (scalar n Input) (From (PortBit [] n None) (Outer n None)) [] e found refl

  -- the outer side is the environment's
  pub outer-input : (n : Name) (here : ModuleView) (q : PortView) → module_at w [] ≡ Some here → first (is_scalar_named n) here.ports ≡ Some q → is_input q ≡ true
      → source_of w (Outer n None) ≡ Some Environment
  outer-input n here q e found is =
      let list = first-filter (is_scalar_named n) here.ports q found in
      source_by w (Outer n None) (Environment ∷ map (outside n None) list.0) (
      outer_by w n None (Some here) e
      ∙ (ap (map (outside n None)) list.1
      ∙ rw (is) refl))

  -- the instance of a module is of that module
  target-is : (inst : Name) (x : Path) (here outer : ModuleView) (y : InstanceView) → module_at w (inst ∷ x) ≡ Some here → module_at w x ≡ Some outer → instance_named outer inst ≡ Some y → module_named w y.target ≡ Some here
  target-is inst x here outer y e f g =
      sym (ap (λ o. option_and_then (λ m. option_and_then (λ (z : InstanceView). module_named w z.target) (instance_named m inst)) o) f
      ∙ ap (λ o. option_and_then (λ (z : InstanceView). module_named w z.target) o) g)
      ∙ e

  -- a port of an instance has what the instance's connection has there
  pub joined-port : (inst : Name) (x : Path) (n : Name) (i : Option ℕ) (q : PortView) (here outer : ModuleView) (y : InstanceView) → module_at w (inst ∷ x) ≡ Some here → module_at w x ≡ Some outer → instance_named outer inst ≡ Some y
      → from_port w (inst ∷ x) n i q ≡ joined_outside x inst n i q y here
  joined-port inst x n i q here outer y e f g =
      ap (λ o. unwrap_or (option_and_then (λ (m : ModuleView). option_and_then (λ (z : InstanceView). option_and_then (λ (inner : ModuleView). Some (joined_outside x inst n i q z inner)) (module_named w z.target)) (instance_named m inst)) o) []) f
      ∙ (ap (λ o. unwrap_or (option_and_then (λ (z : InstanceView). option_and_then (λ (inner : ModuleView). Some (joined_outside x inst n i q z inner)) (module_named w z.target)) o) []) g
      ∙ ap (λ o. unwrap_or (option_and_then (λ (inner : ModuleView). Some (joined_outside x inst n i q y inner)) o) []) (target-is inst x here outer y e f g))

  -- a scalar input below the top comes from what is connected to it
  pub led-input : (inst : Name) (x : Path) (n : Name) (here outer : ModuleView) (y : InstanceView) (b : BitView)
      → module_at w (inst ∷ x) ≡ Some here → first (is_input_named n) here.ports ≡ Some (scalar n Input)
      → module_at w x ≡ Some outer → instance_named outer inst ≡ Some y → connected here.ports n y.connections ≡ b ∷ []
      → source_of w (Inner n None (inst ∷ x)) ≡ Some (From (PortBit (inst ∷ x) n None) (node_of x b))
  led-input inst x n here outer y b e found f g h =
      port-first (inst ∷ x) n None here (scalar n Input) (From (PortBit (inst ∷ x) n None) (node_of x b)) [] e found (
      joined-port inst x n None (scalar n Input) here outer y e f g
      ∙ ap (λ bits. some_of (λ pair. when (same_index pair.0 None) (From (PortBit (inst ∷ x) n None) (node_of x pair.1))) (pairs (None ∷ []) bits)) h)
