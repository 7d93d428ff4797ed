-- What names of instances and of controls give is in the netlist.
use Rattle.std.proofs.Common.{◌≡◌, ℕ, zero, suc, Bool, true, false, List, [], ◌∷◌, Option, Some, None, inl, inr, refl, sym, ap, subst}
use Rattle.std.specs.Prelude.{codes, length, nat_lt, ◌==◌, filter, is_some, option_and_then, bytes_eq, if◌then◌else◌}
use Rattle.std.proofs.lemmas.Bool.{false≢true}
use Rattle.lp_model.specs.NetlistView.{InstanceView, ModuleView}
use Rattle.lp_spec_design.specs.Keys.{Name, Path, Node, Inner}
use Rattle.lp_spec_design.specs.Netlists.{Structure, first, module_named, module_at, instance_named}
use Rattle.lp_spec_design.specs.Graph.{some_of}
use Rattle.lp_spec_design.specs.Winners.{IsIn}
use Rattle.lp_spec_design.proofs.Members.{in-either, of-map, of-filter, of-some}
use Rattle.lp_spec_design.proofs.Sources.{first_in}
use Rattle.lp_spec_origins.specs.Commands.{Scoped}
use Rattle.lp_spec_realises.specs.Controls.{control_node, all_bits, bit_named}
use Rattle.lp_spec_intent.specs.Names.{at, Place, parent_of, is_module_instance, instances_in, places_from, behind, taken, shorter, least, step_from, on_by, walk, beginning, last_part, whole_name, path_of, instance_at, is_instance, instance_of, control_of}
use Rattle.lp_spec_intent.specs.Laws.{StandsInside}

pub some-same : {A : Type 0} (u v : A) → Some u ≡ Some v → u ≡ v
some-same u v e = cc

abbrev pub HasPlace : Structure → Path → Type 0
HasPlace s p = is_some (module_at s p) ≡ true

then-some : {A B : Type 0} (f : A → Option B) (o : Option A) → is_some (option_and_then f o) ≡ true → is_some o ≡ true
then-some f None e = absurd (false≢true e)
then-some f (Some x) e = refl

-- ---- steps

parent-stands : (s : Structure) (p : Path) (x : Place) → HasPlace s p → IsIn x (parent_of p) → HasPlace s x.path
parent-stands s [] x h i = absurd i
parent-stands s (n ∷ p) x h i = elim i [
  | inl is ↦ subst (λ (y : Place). HasPlace s y.path) (sym is) (then-some (λ m. option_and_then (λ y. module_named s y.target) (instance_named m n)) (module_at s p) h)
  | inr none ↦ absurd none
]

instance-stands : (s : Structure) (p : Path) (o : Option ModuleView) (x : Place) → IsIn x (instances_in s p o) → HasPlace s x.path
instance-stands s p None x i = absurd i
instance-stands s p (Some m) x i =
    let found = of-map (λ (y : InstanceView). record { name = y.name; path = y.name ∷ p }) x (filter (is_module_instance s p) m.instances) i in
    subst (λ (y : Place). HasPlace s y.path) (sym found.2) (of-filter (is_module_instance s p) found.0 m.instances found.1).1

place-stands : (s : Structure) (p : Path) (x : Place) → HasPlace s p → IsIn x (places_from s p) → HasPlace s x.path
place-stands s p x h i = elim i [
  | inl is ↦ subst (λ (y : Place). HasPlace s y.path) (sym is) h
  | inr more ↦ elim (in-either x (parent_of p) (instances_in s p (module_at s p)) more) [
    | inl up ↦ parent-stands s p x h up
    | inr down ↦ instance-stands s p (module_at s p) x down
  ]
]

shorter-in : (a : Scoped) (o : Option Scoped) (xs : List Scoped) → ((b : Scoped) → o ≡ Some b → IsIn b xs) → IsIn (shorter a o) (a ∷ xs)
shorter-in a None xs more = inl refl
shorter-in a (Some b) xs more = by (nat_lt (length b.name) (length a.name))
  where
    by : (t : Bool) → IsIn (if t then b else a) (a ∷ xs)
    by true = inr (more b refl)
    by false = inl refl

least-in : (xs : List Scoped) (b : Scoped) → least xs ≡ Some b → IsIn b xs
least-in [] b e = absurd cc
least-in (a ∷ xs) b e = subst (λ y. IsIn y (a ∷ xs)) (some-same (shorter a (least xs)) b e) (shorter-in a (least xs) xs (least-in xs))

taken-there : (text : Name) (x : Place) (b : Scoped) → taken text x ≡ Some b → b.scope ≡ x.path
taken-there text x b e = by (behind x.name text) e
  where
    by : (o : Option Name) → option_and_then (λ rest. Some (at x.path rest)) o ≡ Some b → b.scope ≡ x.path
    by None f = absurd cc
    by (Some rest) f = ap (λ (y : Scoped). y.scope) (sym (some-same (at x.path rest) b f))

step-stands : (s : Structure) (a b : Scoped) → HasPlace s a.scope → step_from s a ≡ Some b → HasPlace s b.scope
step-stands s a b h e =
    let found = of-some (taken a.name) b (places_from s a.scope) (least-in (some_of (taken a.name) (places_from s a.scope)) b e) in
    subst (λ p. HasPlace s p) (sym (taken-there a.name found.0 b found.2)) (place-stands s a.scope found.0 h found.1)

-- ---- walks

walk-stands : (s : Structure) (ends : Scoped → Bool) (fuel : ℕ) (a : Scoped) → HasPlace s a.scope → HasPlace s (walk s ends fuel a).scope
walk-stands s ends zero a h = h
walk-stands s ends (suc fuel) a h = by (ends a) (λ b g. walk-stands s ends fuel b g)
  where
    on : (o : Option Scoped) → step_from s a ≡ o → ((b : Scoped) → HasPlace s b.scope → HasPlace s (walk s ends fuel b).scope) → HasPlace s (on_by a o (walk s ends fuel)).scope
    on None e more = h
    on (Some b) e more = more b (step-stands s a b h e)

    by : (t : Bool) → ((b : Scoped) → HasPlace s b.scope → HasPlace s (walk s ends fuel b).scope) → HasPlace s (if t then a else on_by a (step_from s a) (walk s ends fuel)).scope
    by true more = h
    by false more = on (step_from s a) refl more

module _ (s : Structure) (scope : Path) (top : HasPlace s []) (h : HasPlace s scope) where
  beginning-stands : (text : Name) → HasPlace s (beginning scope text).scope
  beginning-stands [] = h
  beginning-stands (c ∷ text) = by (c == 47)
    where
      by : (t : Bool) → HasPlace s (if t then at [] text else at scope (c ∷ text)).scope
      by true = top
      by false = h

  pub last-stands : (ends : Scoped → Bool) (text : Name) → HasPlace s (last_part s ends scope text).scope
  last-stands ends text = walk-stands s ends (length text) (beginning scope text) (beginning-stands text)

  at-stands : (a : Scoped) (q : Path) → HasPlace s a.scope → instance_at s a ≡ Some q → HasPlace s q
  at-stands a q g e = by (first (λ (x : Place). bytes_eq x.name a.name) (places_from s a.scope)) refl e
    where
      by : (o : Option Place) → first (λ (x : Place). bytes_eq x.name a.name) (places_from s a.scope) ≡ o → path_of o ≡ Some q → HasPlace s q
      by None f e = absurd cc
      by (Some x) f e = subst (λ p. HasPlace s p) (some-same x.path q e) (place-stands s a.scope x g (first_in (λ (x : Place). bytes_eq x.name a.name) (places_from s a.scope) x f).0)

  -- what a name of an instance gives is there
  pub instance-there : (text : Name) (q : Path) → instance_of s scope text ≡ Some q → HasPlace s q
  instance-there text q e = by (bytes_eq text (codes "/")) e
    where
      by : (t : Bool) → (if t then Some [] else instance_at s (last_part s (is_instance s) scope text)) ≡ Some q → HasPlace s q
      by true f = subst (λ p. HasPlace s p) (some-same [] q f) top
      by false f = at-stands (last_part s (is_instance s) scope text) q (last-stands (is_instance s) text) f

-- ---- controls

node-there : (s : Structure) (p : Path) (text : Name) (k : Node) → control_node s p text ≡ Some k → StandsInside s k
node-there s p text k e = by (module_at s p) refl e
  where
    bit : (o : Option (Name × Option ℕ)) → HasPlace s p → option_and_then (λ b. Some (Inner b.0 b.1 p)) o ≡ Some k → StandsInside s k
    bit None h f = absurd cc
    bit (Some b) h f = subst (λ x. StandsInside s x) (some-same (Inner b.0 b.1 p) k f) h

    by : (o : Option ModuleView) → module_at s p ≡ o → option_and_then (λ (m : ModuleView). option_and_then (λ b. Some (Inner b.0 b.1 p)) (bit_named text (all_bits m))) o ≡ Some k → StandsInside s k
    by None f g = absurd cc
    by (Some m) f g = bit (bit_named text (all_bits m)) (ap is_some f) g

-- what a name of a control gives is there
pub control-there : (s : Structure) (scope : Path) (text : Name) (k : Node) → control_of s scope text ≡ Some k → StandsInside s k
control-there s scope text k e = node-there s (whole_name s scope text).scope (whole_name s scope text).name k e
