use Rattle.std.proofs.Common.{◌≡◌, ◌<◌, ◌+◌, ◌==◌, ℕ, true, false, not, cond, List, [], ◌∷◌, inl, inr, refl, sym, subst, ap, ◌∙◌, arith}
use Rattle.std.specs.Prelude.{Contains}
use Rattle.std.specs.List.{list_any, Any}
use Rattle.std.proofs.lemmas.Bool.{and_parts, and_from, cases_eq, eq-eqb, eqb-false, ne_eqb, not-true, ltb-true, lt-ltb}
use Rattle.std.proofs.lemmas.List.Folds.{Any-from_list_any, list_any-from_Any}
use Rattle.lp_model.specs.declared.supply.Supplies.{Supplies}
use Rattle.lp_model.specs.declared.intent.DeclaredState.{DeclaredState}
use Rattle.lp_model.specs.declared.intent.DeclaredState.TheVariants.{On, Off}
use Rattle.lp_model.specs.declared.intent.RowState.{RowState}
use Rattle.lp_model.specs.declared.intent.RowState.TheVariants as Listed
use Rattle.lp_rows.specs.Network.{root_of, has_part, is_some_state, port_states}
use Rattle.lp_rows.specs.Rows.{listed, allowed, allowed_of, is_lower, any_lower, lower_in, IsLowerByChoice}
use Rattle.lp_rows.proofs.laws.choices_say_lower.Goals as goal

head_or_off : List DeclaredState → DeclaredState
head_or_off [] = Off
head_or_off (x ∷ xs) = x

Contains-head : (states : List DeclaredState) (l : RowState) → is_some_state states ≡ true → Contains (allowed_of states l) (head_or_off (allowed_of states l))
unfolding head_or_off
Contains-head [] l e = cc
Contains-head (x ∷ xs) Listed.Free e = (0, omega arith, refl)
Contains-head (x ∷ xs) Listed.Off e = (0, omega arith, refl)
Contains-head (x ∷ xs) (Listed.On v) e = (0, omega arith, refl)

has_part-allowed : (states : List DeclaredState) (l : RowState) (x : DeclaredState) → Contains (allowed_of states l) x → is_some_state states ≡ true
has_part-allowed [] l x c = absurd (omega (arith, c.1))
has_part-allowed (y ∷ ys) l x c = refl

-- the voltages of two states of which the first is lower
abbrev Voltages : ℕ → DeclaredState → DeclaredState → Type 0
Voltages d x y = (v : ℕ) × (w : ℕ) × (x ≡ On v) × (y ≡ On w) × (v + d < w)

lower_voltages : (d : ℕ) (x y : DeclaredState) → is_lower d x y ≡ true → Voltages d x y
lower_voltages d (On v) (On w) e = (v, w, refl, refl, ltb-true (v + d) w e)
lower_voltages d (On v) Off e = cc
lower_voltages d Off y e = cc

module _ (s : Supplies) (row : List RowState) (a b d : ℕ) where
  abbrev from : ℕ
  from = root_of s a

  abbrev to : ℕ
  to = root_of s b

  -- the two states for the two roots, and the first allowed state for each other port
  choice : DeclaredState → DeclaredState → ℕ → DeclaredState
  choice x y o = cond (o == from) x (cond (o == to) y (head_or_off (allowed s row o)))

  choice-from : (x y : DeclaredState) → choice x y from ≡ x
  unfolding choice
  choice-from x y = ap (λ t. cond t x (cond (from == to) y (head_or_off (allowed s row from)))) (eq-eqb from from refl)

  choice-to : (x y : DeclaredState) → (to == from) ≡ false → choice x y to ≡ y
  unfolding choice
  choice-to x y apart = ap (λ t. cond t x (cond (to == to) y (head_or_off (allowed s row to)))) apart ∙ ap (λ t. cond t y (head_or_off (allowed s row to))) (eq-eqb to to refl)

  choice-other : (x y : DeclaredState) (o : ℕ) → (o == from) ≡ false → (o == to) ≡ false → choice x y o ≡ head_or_off (allowed s row o)
  unfolding choice
  choice-other x y o e f = ap (λ t. cond t x (cond (o == to) y (head_or_off (allowed s row o)))) e ∙ ap (λ t. cond t y (head_or_off (allowed s row o))) f

  allows : (x y : DeclaredState) → (to == from) ≡ false → Contains (allowed s row from) x → Contains (allowed s row to) y
      → (o : ℕ) → has_part s o ≡ true → Contains (allowed s row o) (choice x y o)
  allows x y apart here there o part =
      elim (cases_eq o from) [
        | inl e ↦ subst (λ (p : ℕ). Contains (allowed s row p) (choice x y p)) (sym e) (subst (λ (z : DeclaredState). Contains (allowed s row from) z) (sym (choice-from x y)) here)
        | inr e ↦ elim (cases_eq o to) [
          | inl f ↦ subst (λ (p : ℕ). Contains (allowed s row p) (choice x y p)) (sym f) (subst (λ (z : DeclaredState). Contains (allowed s row to) z) (sym (choice-to x y apart)) there)
          | inr f ↦ subst (λ (z : DeclaredState). Contains (allowed s row o) z) (sym (choice-other x y o (ne_eqb o from e) (ne_eqb o to f))) (Contains-head (port_states s o) (listed row o) part)
        ]
      ]

  by_choice : lower_in s row a b d ≡ true → IsLowerByChoice s row a b d
  by_choice passed =
      let both = and_parts (not (from == to)) (any_lower d (allowed s row from) (allowed s row to)) passed in
      let apart = not-true (from == to) both.0 in
      let first : Any (λ x. list_any (is_lower d x) (allowed s row to) ≡ true) (allowed s row from) = Any-from_list_any (λ x. list_any (is_lower d x) (allowed s row to)) (allowed s row from) both.1 in
      let second : Any (λ y. is_lower d first.1 y ≡ true) (allowed s row to) = Any-from_list_any (is_lower d first.1) (allowed s row to) first.4 in
      let x = first.1 in
      let y = second.1 in
      let here : Contains (allowed s row from) x = (first.0, first.2, first.3) in
      let there : Contains (allowed s row to) y = (second.0, second.2, second.3) in
      let back : (to == from) ≡ false = ne_eqb to from (λ e. eqb-false from to apart (sym e)) in
      let voltages : Voltages d x y = lower_voltages d x y second.4 in
      record {
        part_a = has_part-allowed (port_states s from) (listed row from) x here;
        part_b = has_part-allowed (port_states s to) (listed row to) y there;
        choice = choice x y;
        allows = allows x y back here there;
        low = voltages.0;
        high = voltages.1;
        on_a = choice-from x y ∙ voltages.2;
        on_b = choice-to x y back ∙ voltages.3;
        below = voltages.4;
      }

  from_choice : IsLowerByChoice s row a b d → lower_in s row a b d ≡ true
  from_choice c =
      let x = c.choice from in
      let y = c.choice to in
      let here : Contains (allowed s row from) x = c.allows from c.part_a in
      let there : Contains (allowed s row to) y = c.allows to c.part_b in
      let lower : is_lower d x y ≡ true = (λ i. is_lower d (c.on_a i) (c.on_b i)) ∙ lt-ltb (c.low + d) c.high c.below in
      let second : list_any (is_lower d x) (allowed s row to) ≡ true = list_any-from_Any (is_lower d x) (allowed s row to) (there.0, y, there.1, there.2, lower) in
      let first : any_lower d (allowed s row from) (allowed s row to) ≡ true = list_any-from_Any (λ z. list_any (is_lower d z) (allowed s row to)) (allowed s row from) (here.0, x, here.1, here.2, second) in
      let apart : (from == to) ≡ false = ne_eqb from to (λ e.
      let same : On c.low ≡ On c.high = sym c.on_a ∙ ap c.choice e ∙ c.on_b in
      let equal : c.low ≡ c.high = cc in
      omega (arith, c.below)) in
      and_from (not (from == to)) (any_lower d (allowed s row from) (allowed s row to)) (ap not apart) first

pub returns : goal.returns
returns c = λ s row a b d. (by_choice s row a b d, from_choice s row a b d)
