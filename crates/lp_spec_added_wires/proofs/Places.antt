-- Instances have modules, and so has what stands above them.
use Rattle.std.proofs.Common.{◌≡◌, ◌⊎◌, Bool, true, false, ◌||◌, [], ◌∷◌, ◌++◌, Option, Some, None, inl, inr, refl, sym, ap, ◌∙◌}
use Rattle.std.specs.Prelude.{bytes_eq, is_some, option_and_then}
use Rattle.std.proofs.lemmas.Bool.{false≢true}
use Rattle.lp_model.specs.NetlistView.{InstanceView, ModuleView}
use Rattle.lp_spec_design.specs.Keys.{Name, Path}
use Rattle.lp_spec_design.specs.Netlists.{Structure, module_named, instance_named, module_at}
use Rattle.lp_spec_design.specs.Instances.{module_instances}
use Rattle.lp_spec_design.specs.Graph.{when}
use Rattle.lp_spec_design.specs.Registers.{is_above}
use Rattle.lp_spec_design.specs.Winners.{IsIn}
use Rattle.lp_spec_design.specs.Reads.{name-true}
use Rattle.lp_spec_design.proofs.Sources.{then_is, first_in}
use Rattle.lp_spec_realises.specs.Projects.{Project}
use Rattle.lp_spec_written.specs.Places.{instances}
use Rattle.lp_spec_hub.proofs.Paths.{above-to}
use Rattle.lp_spec_written_at.specs.Sources.{IsFree}
use Rattle.lp_spec_written_at.proofs.Paths.{of-below, source-by-names}

-- an instance of a module, and the module of its target
pub record Child (s : Structure) (i : Name) (x : Path) (inner : ModuleView) : Type 0 where
  pub outer : ModuleView
  pub at : module_at s x ≡ Some outer
  pub instance : InstanceView
  pub listed : IsIn instance outer.instances
  pub name : instance.name ≡ i
  pub target : module_named s instance.target ≡ Some inner

module _ (s : Structure) where
  pub child : (i : Name) (x : Path) (inner : ModuleView) → module_at s (i ∷ x) ≡ Some inner → Child s i x inner
  child i x inner e =
      let above = then_is (λ (m : ModuleView). option_and_then (λ (y : InstanceView). module_named s y.target) (instance_named m i)) (module_at s x) inner e in
      let found = then_is (λ (y : InstanceView). module_named s y.target) (instance_named above.0 i) inner above.2 in
      let listed = first_in (λ (y : InstanceView). bytes_eq y.name i) above.0.instances found.0 found.1 in
      record { outer = above.0; at = above.1; instance = found.0; listed = listed.0; name = name-true found.0.name i listed.1; target = found.2 }

  pub parent-there : (i : Name) (x : Path) → is_some (module_at s (i ∷ x)) ≡ true → is_some (module_at s x) ≡ true
  parent-there i x h = by (module_at s x) h
    where
      by : (o : Option ModuleView) → is_some (option_and_then (λ (m : ModuleView). option_and_then (λ (y : InstanceView). module_named s y.target) (instance_named m i)) o) ≡ true → is_some o ≡ true
      by None g = absurd (false≢true g)
      by (Some m) g = refl

  behind-there : (l x : Path) → is_some (module_at s (l ++ x)) ≡ true → is_some (module_at s x) ≡ true
  behind-there [] x h = h
  behind-there (i ∷ l) x h = behind-there l x (parent-there i (l ++ x) h)

  -- what stands above a module instance is one
  pub above-there : (x y : Path) → is_above x y ≡ true → is_some (module_at s y) ≡ true → is_some (module_at s x) ≡ true
  above-there x y above h = let found = above-to x y above in behind-there found.0 x (ap (λ z. is_some (module_at s z)) (sym found.1) ∙ h)

-- each instance has a module
pub module-there : (p : Project) → IsFree p → is_some (module_at p.structure []) ≡ true → (x : Path) → IsIn x (instances p) → is_some (module_at p.structure x) ≡ true
unfolding module_instances
module-there p f top x h = elim (of-below p.structure (source-by-names p f) 64 [] x h) [
  | inl is ↦ ap (λ z. is_some (module_at p.structure z)) is ∙ top
  | inr there ↦ there
]

-- ---- tests

pub or-left : (b c : Bool) → b ≡ true → (b || c) ≡ true
or-left b c e = ap (λ d. d || c) e

pub or-right : (b c : Bool) → c ≡ true → (b || c) ≡ true
or-right true c e = refl
or-right false c e = e

pub or-either : (b c : Bool) → (b || c) ≡ true → (b ≡ true) ⊎ (c ≡ true)
or-either true c e = inl refl
or-either false c e = inr e

pub some-when : {A : Type 0} (b : Bool) (x : A) → is_some (when b x) ≡ true → b ≡ true
some-when true x h = refl
some-when false x h = absurd (false≢true h)

pub is-when : {A : Type 0} (b : Bool) (x y : A) → when b x ≡ Some y → (b ≡ true) × (x ≡ y)
is-when true x y h = (refl, cc)
is-when false x y h = absurd cc
