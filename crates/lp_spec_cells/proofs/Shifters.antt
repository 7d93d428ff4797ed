-- What the output of a cell that fits a level shifter gives.
use Rattle.std.proofs.Common.{◌≡◌, ◌⊎◌, Bool, true, false, not, ◌||◌, ◌==◌, [], ◌∷◌, Option, Some, None, inl, refl, sym, ◌∙◌, subst}
use Rattle.std.specs.Prelude.{if◌then◌else◌, bytes_eq, is_some, length}
use Rattle.std.proofs.lemmas.Bool.{false≢true, and_parts, or_cases}
use Rattle.lp_text.specs.Texts.{same_text-true, true-same_text}
use Rattle.lp_tern.specs.declared.tern.Tern.{Tern}
use Rattle.lp_tern.specs.declared.tern.Tern.TheVariants.{Zero, One, X}
use Rattle.lp_tern.specs.Values.{replacements, agreed}
use Rattle.lp_expr.specs.Replaces.{Keeps}
use Rattle.lp_model.specs.LibraryView.{ExprView, PinView, CellView}
use Rattle.lp_spec_design.specs.Keys.{Name}
use Rattle.lp_spec_design.specs.Graph.{is_output_pin}
use Rattle.lp_spec_design.specs.Settled.{output_by}
use Rattle.lp_spec_pins.specs.Pins.{is_data, input_for}
use Rattle.lp_spec_fit.specs.Needs.{ShifterNeed}
use Rattle.lp_spec_fit.specs.Joins.{Joins, all_joined, relates_to, shifter_joins}
use Rattle.lp_spec_fit.specs.PowerDown.{power_down_equals}
use Rattle.lp_spec_fit.specs.Fits.{is_usable, only_shifts, takes_pairs, may_be_lower, one_output, has_function, shifts_with_pins, fits_shifter}
use Rattle.lp_spec_cells.specs.Sound.{is_function_of, IsSound}
use Rattle.lp_spec_cells.proofs.Outcomes.{in-kept, of-kept}
use Rattle.lp_spec_cells.proofs.Functions.{some_bit, keeps-some}
use Rattle.lp_spec_cells.proofs.OverPins.{May, value-over}
use Rattle.lp_spec_cells.proofs.Names.{only-passes}
use Rattle.lp_spec_cells.proofs.Clamps.{none-there, sound-function}

pub agreed-alone : (t : Tern) → agreed (replacements t) ≡ t
agreed-alone Zero = refl
agreed-alone One = refl
agreed-alone X = refl

-- one pin with a bit that it may have, every other one with some
pub one_bit : (Name → Tern) → Name → Bool → Name → Bool
one_bit pins v b n = if bytes_eq n v then b else some_bit (pins n)

pub one-may : (pins : Name → Tern) (v : Name) (b : Bool) → Keeps (pins v) b → May pins (one_bit pins v b)
unfolding one_bit
one-may pins v b k n = by (bytes_eq n v) refl
  where
    by : (p : Bool) → bytes_eq n v ≡ p → Keeps (pins n) (if p then b else some_bit (pins n))
    by true e = subst (λ m. Keeps (pins m) b) (sym (same_text-true n v e)) k
    by false e = keeps-some (pins n)

pub one-gives : (pins : Name → Tern) (v : Name) (b : Bool) → one_bit pins v b v ≡ b
unfolding one_bit
one-gives pins v b = λ i. if true-same_text v v refl i then b else some_bit (pins v)

-- what a cell that fits has
pub record FitsShifter (n : ShifterNeed) (c : CellView) (d y : PinView) : Type 0 where
  pub stateless : not (is_some c.state) ≡ true
  pub takes : takes_pairs n.pairs c.roles.shifter ≡ true
  pub function : has_function (d.name ∷ []) (λ v. v d.name) y.function ≡ true
  pub relates : relates_to c (shifter_joins n.input n.output d y) n.output y ≡ true
  pub apart : (not (d.power == y.power) || not (may_be_lower n)) ≡ true
  pub down : (power_down_equals c (shifter_joins n.input n.output d y) (n.input ∷ n.output ∷ []) y.power_down ≡ true) ⊎ (power_down_equals c (shifter_joins n.input n.output d y) (n.output ∷ []) y.power_down ≡ true)

pub fits-shifter : (n : ShifterNeed) (c : CellView) → fits_shifter n c ≡ true → (d y : PinView) → input_for is_data c ≡ Some d → one_output c ≡ Some y → FitsShifter n c d y
fits-shifter n c fits d y at_d at_y =
    let join : Joins = shifter_joins n.input n.output d y in
    let usable = and_parts (is_usable c) _ fits in
    let alone = and_parts (only_shifts c.roles) _ usable.1 in
    let stateless = and_parts (not (is_some c.state)) _ alone.1 in
    let two = and_parts (length c.pins == 2) _ stateless.1 in
    let takes = and_parts (takes_pairs n.pairs c.roles.shifter) _ two.1 in
    let pins : shifts_with_pins n c (Some d) (Some y) ≡ true = sym (λ i. shifts_with_pins n c (at_d i) (at_y i)) ∙ takes.1 in
    let function = and_parts (has_function (d.name ∷ []) (λ v. v d.name) y.function) _ pins in
    let relates = and_parts (relates_to c join n.output y) _ function.1 in
    let apart = and_parts (not (d.power == y.power) || not (may_be_lower n)) _ relates.1 in
    let down = and_parts (power_down_equals c join (n.input ∷ n.output ∷ []) y.power_down || power_down_equals c join (n.output ∷ []) y.power_down) (all_joined c join) apart.1 in
    record {
      stateless = stateless.0;
      takes = takes.0;
      function = function.0;
      relates = relates.0;
      apart = apart.0;
      down = or_cases (power_down_equals c join (n.input ∷ n.output ∷ []) y.power_down) (power_down_equals c join (n.output ∷ []) y.power_down) down.0;
    }

passed-value : (c : CellView) (d : PinView) (none : c.state ≡ None) (pins : Name → Tern) (state : Tern) (o : Option ExprView) → ((g : ExprView) → o ≡ Some g → is_function_of c g ≡ true)
    → has_function (d.name ∷ []) (λ v. v d.name) o ≡ true → output_by c pins state o ≡ pins d.name
passed-value c d none pins state None functions h = absurd (false≢true h)
passed-value c d none pins state (Some g) functions h =
    value-over c none pins state g (functions g refl) (d.name ∷ []) (λ v. v d.name) h (λ u v same. same d.name (inl refl)) (replacements (pins d.name))
    (λ u may. in-kept (pins d.name) (u d.name) (may d.name))
    (λ b m. record { by = one_bit pins d.name b; may = one-may pins d.name b (of-kept (pins d.name) b m); is = sym (one-gives pins d.name b) })
    ∙ agreed-alone (pins d.name)

pub shifter-passes : (n : ShifterNeed) (c : CellView) → fits_shifter n c ≡ true → IsSound c
    → (d y : PinView) → input_for is_data c ≡ Some d → one_output c ≡ Some y
    → (pins : Name → Tern) (state : Tern)
    → output_by c pins state y.function ≡ pins d.name
shifter-passes n c fits sound d y at_d at_y pins state =
    let parts = fits-shifter n c fits d y at_d at_y in
    let there = only-passes is_output_pin c.pins y at_y in
    passed-value c d (none-there c.state parts.stateless) pins state y.function (λ g at. sound-function c y g sound there.0 at) parts.function
