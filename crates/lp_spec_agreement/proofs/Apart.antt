-- Names that are apart, and what is found by a name.
use Rattle.std.proofs.Common.{◌≡◌, Bool, true, false, not, ◌||◌, List, [], ◌∷◌, ◌++◌, map, Option, Some, None, inl, inr, refl, sym, ap, ◌∙◌}
use Rattle.std.specs.Prelude.{bytes_eq, if◌then◌else◌, option_and_then}
use Rattle.std.specs.List.{list_any, list_all}
use Rattle.std.proofs.lemmas.Bool.{and_parts, and_from, or_parts, not-true, false≢true}
use Rattle.std.proofs.lemmas.List.Folds.{list_any-append}
use Rattle.lp_model.specs.NetlistView.{PortView, NetView, InstanceView, ModuleView}
use Rattle.lp_spec_design.specs.Keys.{Name, Path}
use Rattle.lp_spec_design.specs.Netlists.{Structure, first, is_instantiated, module_named, instance_named, module_at}
use Rattle.lp_spec_design.specs.Graph.{when}
use Rattle.lp_spec_design.specs.Winners.{IsIn}
use Rattle.lp_spec_design.specs.Reads.{name-self, name-true}
use Rattle.lp_spec_design.proofs.Members.{in-map, any-in}
use Rattle.lp_spec_design.proofs.Sources.{then_is, first_in}
use Rattle.lp_spec_realises.specs.ProjectNetlists.{are_apart, names_in, has_names_apart}

pub all_in : {A : Type 0} (t : A → Bool) (a : A) (xs : List A) → list_all t xs ≡ true → IsIn a xs → t a ≡ true
all_in t a [] all h = absurd h
all_in t a (x ∷ xs) all h = elim h [ inl is ↦ ap t is ∙ (and_parts _ _ all).0 | inr rest ↦ all_in t a xs (and_parts _ _ all).1 rest ]

pub when_is : {A : Type 0} (b : Bool) (x y : A) → when b x ≡ Some y → (b ≡ true) × (x ≡ y)
when_is true x y e = let is : x ≡ y = cc in (refl, is)
when_is false x y e = absurd cc

-- what stands before others, and behind them, is apart
pub apart_left : (xs ys : List Name) → are_apart (xs ++ ys) ≡ true → are_apart xs ≡ true
apart_left [] ys e = refl
apart_left (x ∷ xs) ys e =
    let both = and_parts _ _ e in
    and_from _ _ (ap not (or_parts _ _ (sym (list_any-append (bytes_eq x) xs ys) ∙ not-true _ both.0)).0) (apart_left xs ys both.1)

pub apart_right : (xs ys : List Name) → are_apart (xs ++ ys) ≡ true → are_apart ys ≡ true
apart_right [] ys e = e
apart_right (x ∷ xs) ys e = apart_right xs ys (and_parts _ _ e).1

module _ {A : Type 0} (f : A → Name) where
  -- of things whose names are apart, two of one name are one
  pub same_named : (xs : List A) → are_apart (map f xs) ≡ true → (a b : A) → IsIn a xs → IsIn b xs → f a ≡ f b → a ≡ b
  same_named [] e a b h g n = absurd h
  same_named (x ∷ xs) e a b (inl is) (inl same) n = is ∙ sym same
  same_named (x ∷ xs) e a b (inl is) (inr g) n = absurd (false≢true (sym (not-true _ (and_parts _ _ e).0) ∙ any-in (bytes_eq (f x)) (f b) (map f xs) (in-map f b xs g) (ap (λ m. bytes_eq m (f b)) (ap f (sym is) ∙ n) ∙ name-self (f b))))
  same_named (x ∷ xs) e a b (inr h) (inl same) n = absurd (false≢true (sym (not-true _ (and_parts _ _ e).0) ∙ any-in (bytes_eq (f x)) (f a) (map f xs) (in-map f a xs h) (ap (λ m. bytes_eq m (f a)) (ap f (sym same) ∙ sym n) ∙ name-self (f a))))
  same_named (x ∷ xs) e a b (inr h) (inr g) n = same_named xs (and_parts _ _ e).1 a b h g n

  -- one of them is found by its name
  pub found_named : (xs : List A) → are_apart (map f xs) ≡ true → (a : A) → IsIn a xs → first (λ x. bytes_eq (f x) (f a)) xs ≡ Some a
  found_named xs e a h = by (first (λ x. bytes_eq (f x) (f a)) xs) refl
    where
      by : (o : Option A) → first (λ x. bytes_eq (f x) (f a)) xs ≡ o → first (λ x. bytes_eq (f x) (f a)) xs ≡ Some a
      by None is = absurd (false≢true (sym (none_passes xs is) ∙ any-in (λ x. bytes_eq (f x) (f a)) a xs h (name-self (f a))))
        where
          none_passes : (ys : List A) → first (λ x. bytes_eq (f x) (f a)) ys ≡ None → list_any (λ x. bytes_eq (f x) (f a)) ys ≡ false
          none_passes [] g = refl
          none_passes (y ∷ ys) g = here (bytes_eq (f y) (f a)) g (none_passes ys)
            where
              here : (t : Bool) → (if t then Some y else first (λ x. bytes_eq (f x) (f a)) ys) ≡ None → (first (λ x. bytes_eq (f x) (f a)) ys ≡ None → list_any (λ x. bytes_eq (f x) (f a)) ys ≡ false) → (t || list_any (λ x. bytes_eq (f x) (f a)) ys) ≡ false
              here true q more = absurd cc
              here false q more = more q
      by (Some x) is = let there = first_in (λ y. bytes_eq (f y) (f a)) xs x is in is ∙ ap (λ y. Some y) (same_named xs e x a there.0 h (name-true (f x) (f a) there.1))

-- ---- modules of a netlist with names apart

module _ (s : Structure) (apart : has_names_apart s.modules ≡ true) where
  pub module_in : (q : Path) (m : ModuleView) → module_at s q ≡ Some m → IsIn m s.modules
  module_in [] m e = (first_in (λ (k : ModuleView). not (is_instantiated s k.name)) s.modules m e).0
  module_in (i ∷ q) m e =
      let above = then_is (λ (x : ModuleView). option_and_then (λ (y : InstanceView). module_named s y.target) (instance_named x i)) (module_at s q) m e in
      let inst = then_is (λ (y : InstanceView). module_named s y.target) (instance_named above.0 i) m above.2 in
      (first_in (λ (k : ModuleView). bytes_eq k.name inst.0.target) s.modules m inst.2).0

  names_apart_at : (q : Path) (m : ModuleView) → module_at s q ≡ Some m → are_apart (names_in m) ≡ true
  names_apart_at q m e = all_in (λ (k : ModuleView). are_apart (names_in k)) m s.modules (and_parts _ _ apart).1 (module_in q m e)

  pub ports_apart : (q : Path) (m : ModuleView) → module_at s q ≡ Some m → are_apart (map (λ (x : PortView). x.name) m.ports) ≡ true
  ports_apart q m e = apart_left (map (λ (x : PortView). x.name) m.ports) (map (λ (x : NetView). x.name) m.nets ++ map (λ (x : InstanceView). x.name) m.instances) (names_apart_at q m e)

  pub instances_apart : (q : Path) (m : ModuleView) → module_at s q ≡ Some m → are_apart (map (λ (x : InstanceView). x.name) m.instances) ≡ true
  instances_apart q m e =
      apart_right (map (λ (x : NetView). x.name) m.nets) (map (λ (x : InstanceView). x.name) m.instances)
      (apart_right (map (λ (x : PortView). x.name) m.ports) (map (λ (x : NetView). x.name) m.nets ++ map (λ (x : InstanceView). x.name) m.instances) (names_apart_at q m e))

  -- an instance of a module is found by its name
  pub instance_found : (q : Path) (m : ModuleView) → module_at s q ≡ Some m → (x : InstanceView) → IsIn x m.instances → instance_named m x.name ≡ Some x
  instance_found q m e x h = found_named (λ (y : InstanceView). y.name) m.instances (instances_apart q m e) x h

  pub module_below : (q : Path) (m : ModuleView) → module_at s q ≡ Some m → (x : InstanceView) → IsIn x m.instances → module_at s (x.name ∷ q) ≡ module_named s x.target
  module_below q m e x h =
      ap (λ o. option_and_then (λ (k : ModuleView). option_and_then (λ (y : InstanceView). module_named s y.target) (instance_named k x.name)) o) e
      ∙ ap (λ o. option_and_then (λ (y : InstanceView). module_named s y.target) o) (instance_found q m e x h)
