-- Where F22 does not hold of the depth, no module instance is deeper than 64.
use Rattle.std.proofs.Common.{◌≡◌, ◌≤◌, ℕ, zero, suc, ◌+◌, ◌-◌, true, false, List, [], ◌∷◌, Option, Some, None, inl, inr, refl, sym, ap, ◌∙◌, subst, arith}
use Rattle.std.specs.Prelude.{length, bytes_eq, option_and_then}
use Rattle.std.specs.Option.{option_map_or}
use Rattle.std.proofs.lemmas.Bool.{false≢true}
use Rattle.lp_model.specs.declared.fault.netlist.NetlistLimit.TheVariants as limits
use Rattle.lp_model.specs.NetlistView.{InstanceView, ModuleView}
use Rattle.lp_spec_design.specs.Keys.{Path}
use Rattle.lp_spec_design.specs.Netlists.{Structure, module_named, top_of, instance_named, module_at}
use Rattle.lp_spec_design.specs.Graph.{and_more, some_of}
use Rattle.lp_spec_design.specs.Winners.{IsIn}
use Rattle.lp_spec_design.proofs.Members.{of-any, any-in}
use Rattle.lp_spec_design.proofs.Sources.{then_is, first_in}
use Rattle.lp_spec_faults.specs.Modules.{modules_in, is_deeper, is_over}

in_some : {A B : Type 0} (f : A → Option B) (a : A) (b : B) (xs : List A) → IsIn a xs → f a ≡ Some b → IsIn b (some_of f xs)
in_some f a b [] h e = absurd h
in_some f a b (x ∷ xs) h e = by (f x) refl h (λ r. in_some f a b xs r e)
  where
    by : (o : Option _) → f x ≡ o → IsIn a (x ∷ xs) → (IsIn a xs → IsIn b (some_of f xs)) → IsIn b (and_more o (some_of f xs))
    by None is (inl here) more = let none : None ≡ Some b = sym is ∙ ap f (sym here) ∙ e in absurd cc
    by None is (inr rest) more = more rest
    by (Some y) is (inl here) more = let same : Some y ≡ Some b = sym is ∙ ap f (sym here) ∙ e in let eq : b ≡ y = cc in inl eq
    by (Some y) is (inr rest) more = inr (more rest)

module _ (s : Structure) where
  -- below an instance is below the top, by the length of its path more
  deep_at : (p : Path) (m : ModuleView) (k n : ℕ) → module_at s p ≡ Some m → is_deeper s k m ≡ true → n ≡ length p + k → (top : ModuleView) × (top_of s ≡ Some top) × (is_deeper s n top ≡ true)
  deep_at [] m k n e deep is = let same : k ≡ n = omega arith in (m, e, subst (λ j. is_deeper s j m ≡ true) same deep)
  deep_at (i ∷ p) m k n e deep is =
      let above = then_is (λ (x : ModuleView). option_and_then (λ (y : InstanceView). module_named s y.target) (instance_named x i)) (module_at s p) m e in
      let inst = then_is (λ (y : InstanceView). module_named s y.target) (instance_named above.0 i) m above.2 in
      let found = first_in (λ (y : InstanceView). bytes_eq y.name i) above.0.instances inst.0 inst.1 in
      let there = in_some (λ (y : InstanceView). module_named s y.target) inst.0 m above.0.instances found.0 inst.2 in
      deep_at p above.0 (suc k) n above.1 (any-in (is_deeper s k) m (modules_in s above.0) there deep) (omega arith)

  less_deep : (n : ℕ) (m : ModuleView) → is_deeper s (suc n) m ≡ true → is_deeper s n m ≡ true
  less_deep zero m deep = refl
  less_deep (suc n) m deep =
      let one = of-any (is_deeper s (suc n)) (modules_in s m) deep in
      any-in (is_deeper s n) one.0 (modules_in s m) one.1 (less_deep n one.0 one.2)

  at_least : (d more n : ℕ) (m : ModuleView) → n ≡ d + more → is_deeper s n m ≡ true → is_deeper s d m ≡ true
  at_least d zero n m is deep = let same : n ≡ d = omega arith in subst (λ j. is_deeper s j m ≡ true) same deep
  at_least d (suc more) zero m is deep = absurd (omega arith)
  at_least d (suc more) (suc n) m is deep = at_least d more n m (omega arith) (less_deep n m deep)

  over : (d : ℕ) (p : Path) (m : ModuleView) → module_at s p ≡ Some m → d ≤ length p → option_map_or (is_deeper s d) (top_of s) false ≡ true
  over d p m e long =
      let deep = deep_at p m 0 (length p) e refl (omega arith) in
      ap (λ o. option_map_or (is_deeper s d) o false) deep.1 ∙ at_least d (length p - d) (length p) deep.0 (omega arith) deep.2

  pub shallow : is_over s limits.Depth ≡ false → (p : Path) → 64 ≤ length p → module_at s p ≡ None
  shallow within p long = by (module_at s p) refl
    where
      by : (o : Option ModuleView) → module_at s p ≡ o → o ≡ None
      by None e = refl
      by (Some m) e = absurd (false≢true (sym within ∙ over 64 p m e long))
