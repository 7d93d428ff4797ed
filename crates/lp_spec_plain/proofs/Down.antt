-- A power-down function that follows the supply to which all pins are joined is 0 exactly where that supply is on.
use Rattle.std.proofs.Common.{◌≡◌, ℕ, zero, suc, Bool, true, false, not, ◌&&◌, cond, List, [], ◌∷◌, map, Option, Some, None, refl, sym, ◌∙◌, ap, subst}
use Rattle.std.specs.Prelude.{is_some, bytes_eq, slice_get, filter}
use Rattle.std.specs.List.{AllByRecursion, list_all, zip}
use Rattle.std.proofs.lemmas.Bool.{and_parts, false≢true}
use Rattle.lp_tern.specs.declared.tern.Tern.{Tern}
use Rattle.lp_tern.specs.declared.supply.SupplyState.{SupplyState}
use Rattle.lp_tern.specs.declared.supply.SupplyState.TheVariants.{On, Off, Unknown}
use Rattle.lp_expr.specs.Formula.{truth, completions}
use Rattle.lp_model.specs.LibraryView.{ExprView, PgPinView, CellView}
use Rattle.lp_spec_design.specs.Keys.{Name, Path, same_bool}
use Rattle.lp_spec_design.specs.Netlists.{first}
use Rattle.lp_spec_design.specs.Settled.{is_on}
use Rattle.lp_spec_pins.specs.Pins.{SupplySource, FromTop, Powered, PinAssignment, Pair, pair_on, state_from, source_of_pg, onness, pg_named, level_by, levels, sources_named, is_consistent, is_zero_for, is_up}
use Rattle.lp_spec_plain.specs.Cells.{on_with, levels_with, is_down_with, follows_supply, is_power_at}
use Rattle.lp_spec_plain.specs.Carried.{IsJoined}
use Rattle.lp_spec_plain.proofs.Choices.{level_by_kind, levels_of, source_of_kind, value_of_kind, is_one, zero_where_on}

same_bool-true : (a b : Bool) → same_bool a b ≡ true → a ≡ b
same_bool-true true b e = sym e
same_bool-true false true e = absurd (false≢true e)
same_bool-true false false e = refl

-- what holds of each of a list holds of the first that passes a test
pub AllByRecursion-first : {A : Type 0} (P : A → Type 0) (p : A → Bool) (xs : List A) (x : A) → AllByRecursion P xs → first p xs ≡ Some x → P x
AllByRecursion-first P p [] x all e = absurd cc
AllByRecursion-first P p (y ∷ ys) x all e = by (p y) e (λ f. AllByRecursion-first P p ys x all.1 f)
  where
    by : (b : Bool) → (cond b (Some y) (first p ys)) ≡ Some x → (first p ys ≡ Some x → P x) → P x
    by true f rest = let same : y ≡ x = cc in subst P same all.0
    by false f rest = rest f

pub AllByRecursion-get : {A : Type 0} (P : A → Type 0) (xs : List A) (n : ℕ) (x : A) → AllByRecursion P xs → slice_get xs n ≡ Some x → P x
AllByRecursion-get P [] n x all e = absurd cc
AllByRecursion-get P (y ∷ ys) zero x all e = let same : y ≡ x = cc in subst P same all.0
AllByRecursion-get P (y ∷ ys) (suc n) x all e = AllByRecursion-get P ys n x all.1 e

module _ (c : CellView) where
  kind : Name → Bool
  kind v = is_power_at (pg_named c v)

  abbrev AllNamed : List Name → Type 0
  AllNamed vs = list_all (λ v. is_some (pg_named c v)) vs ≡ true

  level-kind : (g : Option PgPinView) (on : Bool) → is_some g ≡ true → level_by g on ≡ level_by_kind (is_power_at g) on
  level-kind None on e = absurd (false≢true e)
  level-kind (Some g) on e = refl

  levels-kinds : (vs : List Name) (bits : List Bool) → AllNamed vs → levels c vs bits ≡ levels_of (map kind vs) bits
  unfolding kind
  levels-kinds [] bits all = refl
  levels-kinds (v ∷ vs) [] all = refl
  levels-kinds (v ∷ vs) (b ∷ bits) all = λ i.
      level-kind (pg_named c v) b (and_parts _ _ all).0 i
      ∷ levels-kinds vs bits (and_parts _ _ all).1 i

  with-kind : (a b : Bool) (g : Option PgPinView) → is_some g ≡ true → level_by g (on_with a b g) ≡ level_by_kind (is_power_at g) (cond (is_power_at g) a b)
  with-kind a b None e = absurd (false≢true e)
  with-kind a b (Some g) e = refl

  levels_with-kinds : (a b : Bool) (vs : List Name) → AllNamed vs → levels_with c a b vs ≡ map (λ k. level_by_kind k (cond k a b)) (map kind vs)
  unfolding kind
  levels_with-kinds a b [] all = refl
  levels_with-kinds a b (v ∷ vs) all = λ i.
      with-kind a b (pg_named c v) (and_parts _ _ all).0 i
      ∷ levels_with-kinds a b vs (and_parts _ _ all).1 i

  module _ (e : ExprView) (follows : follows_supply c e ≡ true) where
    all_named : AllNamed e.variables
    all_named = (and_parts _ _ follows).0

    four : (is_down_with c e true true ≡ true) × ((is_down_with c e true false ≡ true) × ((is_down_with c e false true ≡ true) × (is_down_with c e false false ≡ true)))
    four =
        let behind_on = and_parts _ _ (and_parts _ _ follows).1 in
        let behind_power = and_parts _ _ behind_on.1 in
        (behind_on.0, (behind_power.0, and_parts _ _ behind_power.1))

    down : (a b : Bool) → is_down_with c e a b ≡ true
    down true true = four.0
    down true false = four.1.0
    down false true = four.1.1.0
    down false false = four.1.1.1

    by_kinds : (a b : Bool) → truth e.steps (map (λ k. level_by_kind k (cond k a b)) (map kind e.variables)) ≡ not (a && b)
    by_kinds a b = ap (truth e.steps) (sym (levels_with-kinds a b e.variables all_named)) ∙ same_bool-true (truth e.steps (levels_with c a b e.variables)) (not (a && b)) (down a b)

    module _ (w : Powered) (p : Path) (x : Name) (power gnd : Name) (apart : bytes_eq power gnd ≡ false) (apart_too : bytes_eq gnd power ≡ false) (joined : AllByRecursion (IsJoined w p x power gnd) c.pgs) where
      source-kind : (v : Name) (g : Option PgPinView) → pg_named c v ≡ g → is_some g ≡ true → source_of_pg w p x g ≡ source_of_kind power gnd apart apart_too (is_power_at g)
      source-kind v None at e = absurd (false≢true e)
      source-kind v (Some g) at e = (AllByRecursion-first (IsJoined w p x power gnd) (λ (h : PgPinView). bytes_eq h.name v) c.pgs g joined at).0

      sources-kinds : (vs : List Name) → AllNamed vs → sources_named w p x c vs ≡ map (source_of_kind power gnd apart apart_too) (map kind vs)
      unfolding kind
      sources-kinds [] all = refl
      sources-kinds (v ∷ vs) all = λ i.
          source-kind v (pg_named c v) refl (and_parts _ _ all).0 i
          ∷ sources-kinds vs (and_parts _ _ all).1 i

      module _ (B : PinAssignment) where
        abbrev pub supply_of : Pair
        supply_of = record { power = state_from B (Some (FromTop power)); gnd = state_from B (Some (FromTop gnd)) }

        value-kind : (k : Bool) → onness (state_from B (source_of_kind power gnd apart apart_too k)) ≡ value_of_kind power gnd apart apart_too (onness supply_of.power) (onness supply_of.gnd) k
        value-kind true = refl
        value-kind false = refl

        values-kinds : (ks : List Bool) → map (λ s. onness (state_from B s)) (map (source_of_kind power gnd apart apart_too) ks) ≡ map (value_of_kind power gnd apart apart_too (onness supply_of.power) (onness supply_of.gnd)) ks
        values-kinds [] = refl
        values-kinds (k ∷ ks) = λ i. value-kind k i ∷ values-kinds ks i

        one-on : (s : SupplyState) → is_one power gnd apart apart_too (onness s) ≡ is_on s
        one-on (On v) = refl
        one-on Off = refl
        one-on Unknown = refl

        zero_for-kinds : (sources : List (Option SupplySource)) (ons : List Tern) → (bits : List (List Bool)) → list_all (λ bs. not (truth e.steps (levels c e.variables bs))) bits ≡ list_all (λ bs. not (truth e.steps (levels_of (map kind e.variables) bs))) bits
        zero_for-kinds sources ons [] = refl
        zero_for-kinds sources ons (bs ∷ more) = λ i. not (truth e.steps (levels-kinds e.variables bs all_named i)) && zero_for-kinds sources ons more i

        -- an output is not powered down exactly where the supply is on
        pub up_where_on : is_up w B p x c (Some e) ≡ pair_on supply_of
        up_where_on =
            (λ i. is_zero_for c e (sources-kinds e.variables all_named i) (map (λ s. onness (state_from B s)) (sources-kinds e.variables all_named i)))
            ∙ ((λ i. is_zero_for c e (map (source_of_kind power gnd apart apart_too) (map kind e.variables)) (values-kinds (map kind e.variables) i))
            ∙ (zero_for-kinds [] [] (filter (λ bits. is_consistent (zip (map (source_of_kind power gnd apart apart_too) (map kind e.variables)) bits)) (completions (map (value_of_kind power gnd apart apart_too (onness supply_of.power) (onness supply_of.gnd)) (map kind e.variables))))
            ∙ (zero_where_on power gnd apart apart_too (onness supply_of.power) (onness supply_of.gnd) (truth e.steps) (map kind e.variables) by_kinds
            ∙ (λ i. one-on supply_of.power i && one-on supply_of.gnd i))))
