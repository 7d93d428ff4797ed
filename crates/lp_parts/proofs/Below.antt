-- Numbers of names in the parts of a cell are below a count.
use Rattle.std.proofs.Common.{◌≡◌, ℕ, zero, suc, ◌<◌, Bool, true, false, List, [], ◌∷◌, ◌++◌, take, refl}
use Rattle.std.specs.Prelude.{map, cond}
use Rattle.std.specs.List.{filter, flat_map}
use Rattle.lp_text.specs.declared.names.NameId.{NameId}
use Rattle.lp_model.specs.Agreement.{numbers_below, name_numbers, option_numbers}
use Rattle.lp_model.specs.declared.library.Pin.{Pin}
use Rattle.lp_model.specs.declared.library.PgPin.{PgPin}
use Rattle.lp_model.specs.declared.library.StateGroup.{StateGroup}
use Rattle.lp_model.specs.LibraryView.{expr_numbers, switched_numbers, pg_pin_numbers, pin_numbers, state_numbers}
use Rattle.lp_attributes.proofs.Below.{below_join, below_cons, below_left, below_right, below_head}
use Rattle.lp_parts.specs.Functions.{is_plain}

module _ (n : ℕ) where
  pub below_pg : (p : PgPin) → p.name.0 < n → numbers_below n (option_numbers switched_numbers p.switched) ≡ true → numbers_below n (pg_pin_numbers p) ≡ true
  below_pg p name switched = below_cons n p.name.0 (option_numbers switched_numbers p.switched) name switched

  pub below_pin : (p : Pin) → p.name.0 < n → numbers_below n (option_numbers expr_numbers p.function) ≡ true → numbers_below n (option_numbers expr_numbers p.power_down) ≡ true → numbers_below n (pin_numbers p) ≡ true
  below_pin p name function down = below_cons n p.name.0 _ name (below_join n (option_numbers expr_numbers p.function) (option_numbers expr_numbers p.power_down) function down)

  pub below_state : (s : StateGroup) → s.var.0 < n → s.inverse.0 < n → numbers_below n (expr_numbers s.next) ≡ true → numbers_below n (expr_numbers s.clock) ≡ true → numbers_below n (expr_numbers s.clear) ≡ true → numbers_below n (expr_numbers s.preset) ≡ true → numbers_below n (expr_numbers s.power_down) ≡ true → numbers_below n (state_numbers s) ≡ true
  below_state s var inverse next clock clear preset down =
      let two = below_join n (expr_numbers s.preset) (expr_numbers s.power_down) preset down in
      let three = below_join n (expr_numbers s.clear) (expr_numbers s.preset ++ expr_numbers s.power_down) clear two in
      let four = below_join n (expr_numbers s.clock) (expr_numbers s.clear ++ (expr_numbers s.preset ++ expr_numbers s.power_down)) clock three in
      let all = below_join n (expr_numbers s.next) (expr_numbers s.clock ++ (expr_numbers s.clear ++ (expr_numbers s.preset ++ expr_numbers s.power_down))) next four in
      let rest = expr_numbers s.next ++ (expr_numbers s.clock ++ (expr_numbers s.clear ++ (expr_numbers s.preset ++ expr_numbers s.power_down))) in
      below_cons n s.var.0 (s.inverse.0 ∷ rest) var (below_cons n s.inverse.0 rest inverse all)

  -- the first of some pins
  pub below_taken : (k : ℕ) (pgs : List PgPin) → numbers_below n (flat_map pg_pin_numbers pgs) ≡ true → numbers_below n (flat_map pg_pin_numbers (take k pgs)) ≡ true
  below_taken zero pgs h = refl
  below_taken (suc k) [] h = refl
  below_taken (suc k) (p ∷ pgs) h =
      below_join n (pg_pin_numbers p) _ (below_left n (pg_pin_numbers p) (flat_map pg_pin_numbers pgs) h) (below_taken k pgs (below_right n (pg_pin_numbers p) (flat_map pg_pin_numbers pgs) h))

  -- the names of the pins that are no bias pins
  pub below_plain : (pgs : List PgPin) → numbers_below n (flat_map pg_pin_numbers pgs) ≡ true → numbers_below n (name_numbers (map (λ (p : PgPin). p.name) (filter (λ (p : PgPin). is_plain p.kind) pgs))) ≡ true
  below_plain [] h = refl
  below_plain (p ∷ pgs) h = by (is_plain p.kind) (below_plain pgs (below_right n (pg_pin_numbers p) (flat_map pg_pin_numbers pgs) h))
    where
      plain : List PgPin
      plain = filter (λ (q : PgPin). is_plain q.kind) pgs

      here : p.name.0 < n
      here = below_head n p.name.0 (option_numbers switched_numbers p.switched) (below_left n (pg_pin_numbers p) (flat_map pg_pin_numbers pgs) h)

      by : (b : Bool) → numbers_below n (name_numbers (map (λ (q : PgPin). q.name) plain)) ≡ true → numbers_below n (name_numbers (map (λ (q : PgPin). q.name) (cond b (p ∷ plain) plain))) ≡ true
      by true others = below_cons n p.name.0 _ here others
      by false others = others
