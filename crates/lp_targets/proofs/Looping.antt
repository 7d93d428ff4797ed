-- A loop of the places of children is a module that contains itself.
use Rattle.std.proofs.Common.{◌≡◌, inl, inr, ℕ, zero, suc, ◌<◌, Bool, true, false, ◌||◌, cond, List, [], ◌∷◌, length, Option, Some, None, refl, sym, ap, ◌∙◌, subst, arith}
use Rattle.std.specs.Prelude.{map, is_some, slice_get, bytes_eq}
use Rattle.std.specs.List.{Contains}
use Rattle.lp_text.specs.Texts.{true-same_text}
use Rattle.lp_model.specs.NetlistView.{InstanceView, ModuleView}
use Rattle.lp_order.specs.Order.{Reads, Reaches, HasLoop}
use Rattle.lp_order.proofs.OrderLaws.{Contains-cons_cases, Reaches-within}
use Rattle.lp_loops.proofs.Ways.{IsWay, short_way, next_within}
use Rattle.lp_spec_design.specs.Netlists.{Structure, first, module_named}
use Rattle.lp_spec_design.specs.Graph.{and_more, some_of}
use Rattle.lp_spec_design.specs.Winners.{IsIn}
use Rattle.lp_spec_design.proofs.Members.{any-in}
use Rattle.lp_spec_faults.specs.Lines.{first_of}
use Rattle.lp_spec_faults.specs.Modules.{modules_in, is_within, recursive}
use Rattle.lp_targets.specs.declared.target.Target.{Target}
use Rattle.lp_targets.specs.declared.target.Target.TheVariants.{OfModule, OfCell}
use Rattle.lp_targets.specs.Targets.{module_of, AreTargets}
use Rattle.lp_targets.specs.Children.{children_of, children}
use Rattle.lp_targets.proofs.Closed.{count_map}
use Rattle.lp_targets.proofs.Recursion.{at_place, row_at, some_map}

-- ---- modules

first_some : {A : Type 0} (p : A → Bool) (xs : List A) (a : ℕ) (x : A) → slice_get xs a ≡ Some x → p x ≡ true → is_some (first p xs) ≡ true
first_some p [] a x at e = cc
first_some p (y ∷ xs) zero x at e =
    let is : y ≡ x = cc in
    ap (λ v. is_some (cond v (Some y) (first p xs))) (ap p is ∙ e)
first_some p (y ∷ xs) (suc a) x at e = by (p y) (first_some p xs a x at e)
  where
    by : (v : Bool) → is_some (first p xs) ≡ true → is_some (cond v (Some y) (first p xs)) ≡ true
    by true r = refl
    by false r = r

pub stands : {A : Type 0} (xs : List A) (a : ℕ) → a < length xs → (x : A) × (slice_get xs a ≡ Some x)
stands [] a h = absurd (omega (arith, h))
stands (x ∷ xs) zero h = (x, refl)
stands (x ∷ xs) (suc a) h = stands xs a (omega (arith, h))

or_true : (a b : Bool) → b ≡ true → (a || b) ≡ true
or_true true b e = refl
or_true false b e = e

module _ (s : Structure) (rows : List (List Target)) (targets : AreTargets s rows) where
  pub count : length (children rows) ≡ length s.modules
  count = count_map children_of rows ∙ sym (count_map (map (module_of s)) rows) ∙ ap length targets.modules ∙ count_map (λ (m : ModuleView). map (λ (i : InstanceView). module_named s i.target) m.instances) s.modules

  in_row : (row : List Target) (b : ℕ) (k : ModuleView) → slice_get s.modules b ≡ Some k → Contains (children_of row) b → IsIn k (some_of (module_of s) row)
  in_row [] b k at c = absurd (omega (arith, c.1))
  in_row (OfCell j ∷ row) b k at c = in_row row b k at c
  in_row (OfModule j ∷ row) b k at c =
      elim (Contains-cons_cases j (children_of row) b c) [
        | inl e ↦ subst (λ o. IsIn k (and_more o (some_of (module_of s) row))) (sym (ap (slice_get s.modules) e ∙ at)) (inl refl)
        | inr there ↦ by (slice_get s.modules j) (in_row row b k at there)
      ]
    where
      by : (o : Option ModuleView) → IsIn k (some_of (module_of s) row) → IsIn k (and_more o (some_of (module_of s) row))
      by None r = r
      by (Some x) r = inr r

  pub in_module : (a b : ℕ) (m k : ModuleView) → slice_get s.modules a ≡ Some m → slice_get s.modules b ≡ Some k → Reads (children rows) a b → IsIn k (modules_in s m)
  in_module a b m k at there r =
      let row = at_place (map (module_of s)) (λ (x : ModuleView). map (λ (i : InstanceView). module_named s i.target) x.instances) rows s.modules targets.modules a m at in
      let same : modules_in s m ≡ some_of (module_of s) row.0 = some_map (λ (i : InstanceView). module_named s i.target) m.instances ∙ sym (ap (some_of (λ o. o)) row.2) ∙ sym (some_map (module_of s) row.0) in
      subst (IsIn k) (sym same) (in_row row.0 b k there (subst (λ ks. Contains ks b) (row_at rows a row.0 row.1) r))

  along : (steps : ℕ) (js : List ℕ) (a b : ℕ) (m k : ModuleView) → slice_get s.modules a ≡ Some m → slice_get s.modules b ≡ Some k → IsWay (children rows) a js b → length js < steps → is_within s k.name steps m ≡ true
  along zero js a b m k at there w h = absurd (omega (arith, h))
  along (suc steps) [] a b m k at there w h =
      any-in (λ (x : ModuleView). bytes_eq x.name k.name || is_within s k.name steps x) k (modules_in s m) (in_module a b m k at there w)
      (ap (λ v. v || is_within s k.name steps k) (true-same_text k.name k.name refl))
  along (suc steps) (j ∷ js) a b m k at there w h =
      let next = stands s.modules j (subst (λ n. j < n) count (next_within (children rows) js j b w.1)) in
      any-in (λ (x : ModuleView). bytes_eq x.name k.name || is_within s k.name steps x) next.0 (modules_in s m) (in_module a j m next.0 at next.1 w.0)
      (or_true (bytes_eq next.0.name k.name) (is_within s k.name steps next.0) (along steps js j b next.0 k next.1 there w.1 (omega (arith, h))))

  pub contains_itself : (a : ℕ) (m : ModuleView) → slice_get s.modules a ≡ Some m → Reaches (children rows) a a → is_within s m.name (length s.modules) m ≡ true
  contains_itself a m at r =
      let brief = short_way (children rows) a a r in
      let less : length brief.0 < length s.modules = subst (λ n. length brief.0 < n) count brief.2 in
      along (length s.modules) brief.0 a a m m at at brief.1 less

  recursion : (a : ℕ) → Reaches (children rows) a a → is_some (first_of (recursive s)) ≡ true
  recursion a r =
      let here = stands s.modules a (subst (λ n. a < n) count (Reaches-within (children rows) a a r)) in
      first_some (λ (m : ModuleView). is_within s m.name (length s.modules) m) s.modules a here.0 here.1 (contains_itself a here.0 here.1 r)

pub loop_found : (s : Structure) (rows : List (List Target)) → AreTargets s rows → HasLoop (children rows) → is_some (first_of (recursive s)) ≡ true
loop_found s rows targets (a, r) = recursion s rows targets a r
