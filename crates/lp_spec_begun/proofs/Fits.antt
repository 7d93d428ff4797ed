-- The pins of a cell that fits: which are there, and that each power and ground pin has a supply.
use Rattle.std.proofs.Common.{◌≡◌, ℕ, Bool, true, false, not, ◌&&◌, ◌||◌, ◌==◌, cond, length, List, [], ◌∷◌, Option, Some, None, refl, ap, ◌∙◌}
use Rattle.std.specs.Prelude.{filter, slice_get, is_some}
use Rattle.std.specs.List.{list_all}
use Rattle.std.proofs.lemmas.Bool.{false≢true}
use Rattle.lp_model.specs.declared.supply.SetOrigins.{SetOrigins}
use Rattle.lp_model.specs.LibraryView.{SwitchedView, PinView, CellView}
use Rattle.lp_spec_design.specs.Keys.{Path}
use Rattle.lp_spec_design.specs.Graph.{numbered}
use Rattle.lp_spec_design.specs.Intents.{Strategy}
use Rattle.lp_spec_design.specs.Chains.{Operator, Clamp, Shift}
use Rattle.lp_spec_design.specs.Reads.{one, other}
use Rattle.lp_spec_network.specs.Pairs.{pairs_of}
use Rattle.lp_spec_pins.specs.Pins.{is_input_pin, is_data, only, input_for}
use Rattle.lp_spec_fit.specs.Joins.{Joins, all_joined, relates_to, clamp_joins, shifter_joins, switch_side}
use Rattle.lp_spec_fit.specs.Needs.{ClampNeed, ShifterNeed, SwitchCellNeed}
use Rattle.lp_spec_fit.specs.PowerDown.{power_down_equals}
use Rattle.lp_spec_fit.specs.Fits.{is_usable, has_function, clamps, only_isolates, only_shifts, takes_pairs, may_be_lower, is_complement, fits_with_pins, shifts_with_pins, switches_with, one_output, is_iso_data, is_iso_enable, is_switch_pin, switched_pins}
use Rattle.lp_spec_realises.specs.Projects.{Project, functions_of, on_expression}
use Rattle.lp_spec_realises.specs.Operators.{SwitchAt}
use Rattle.lp_spec_realises.specs.Realises.{primary_at, clamp_fits, shifter_fits, operator_fits, switch_fits, data_pin, clamp_joins_of, shifter_joins_of, joins_of_operator}

-- ---- operators

pub record FitsOperator (p : Project) (x : Path) (o : Operator) (c : CellView) : Type 0 where
  pub taken : PinView
  pub taken_is : data_pin o c ≡ Some taken
  pub join : Joins
  pub join_is : joins_of_operator p x o c ≡ Some join
  pub joined : all_joined c join ≡ true

record WithPins (c : CellView) (join : Joins) (d e : Option PinView) : Type 0 where
  one_pin : PinView
  one_is : d ≡ Some one_pin
  two_pin : PinView
  two_is : e ≡ Some two_pin
  joined : all_joined c join ≡ true

with-pins : (n : ClampNeed) (c : CellView) (join : Joins) (d e y : Option PinView) → fits_with_pins n c join d e y ≡ true → WithPins c join d e
with-pins n c join (Some d) (Some e) (Some y) h = record { one_pin = d; one_is = refl; two_pin = e; two_is = refl; joined = other (power_down_equals c join (n.supply ∷ []) y.power_down) _ (other (list_all (relates_to c join n.supply) c.pins) _ (other (has_function (d.name ∷ e.name ∷ []) (λ v. clamps n.clamp n.high (v d.name) (v e.name)) y.function) _ h)) }
with-pins n c join None e y h = absurd (false≢true h)
with-pins n c join (Some d) None y h = absurd (false≢true h)
with-pins n c join (Some d) (Some e) None h = absurd (false≢true h)

record FitsClamp (s q : Option SetOrigins) (c : CellView) : Type 0 where
  join : Joins
  join_is : clamp_joins_of s q c ≡ Some join
  pins : WithPins c join (input_for is_iso_data c) (input_for is_iso_enable c)

clamp-pins : (s q : Option SetOrigins) (r : Option Strategy) (c : CellView) → clamp_fits s q r c ≡ true → FitsClamp s q c
clamp-pins (Some s) (Some q) (Some r) c e =
    let n : ClampNeed = record { supply = s; place = q; clamp = r.clamp; high = r.high; mapped = None } in
    record {
      join = clamp_joins s q c;
      join_is = refl;
      pins = with-pins n c (clamp_joins s q c) (input_for is_iso_data c) (input_for is_iso_enable c) (one_output c)
          (other (length c.pins == 3) _ (other (not (is_some c.state)) _ (other (only_isolates c.roles) _ (other (is_usable c) _ e))));
    }
clamp-pins None q r c e = absurd (false≢true e)
clamp-pins (Some s) None r c e = absurd (false≢true e)
clamp-pins (Some s) (Some q) None c e = absurd (false≢true e)

record FitsShifter (a b : Option SetOrigins) (c : CellView) : Type 0 where
  taken : PinView
  taken_is : input_for is_data c ≡ Some taken
  join : Joins
  join_is : shifter_joins_of a b (input_for is_data c) (one_output c) ≡ Some join
  joined : all_joined c join ≡ true

shift-pins : (n : ShifterNeed) (c : CellView) (d y : Option PinView) → input_for is_data c ≡ d → one_output c ≡ y → shifts_with_pins n c d y ≡ true → FitsShifter (Some n.input) (Some n.output) c
shift-pins n c (Some d) (Some y) f g h = record {
  taken = d;
  taken_is = f;
  join = shifter_joins n.input n.output d y;
  join_is = ap (λ o. shifter_joins_of (Some n.input) (Some n.output) o (one_output c)) f ∙ ap (shifter_joins_of (Some n.input) (Some n.output) (Some d)) g;
  joined =
      other (power_down_equals c join (n.input ∷ n.output ∷ []) y.power_down || power_down_equals c join (n.output ∷ []) y.power_down) _
      (other (not (d.power == y.power) || not (may_be_lower n)) _
      (other (relates_to c join n.output y) _
      (other (has_function (d.name ∷ []) (λ v. v d.name) y.function) _ h)));
}
  where
    join : Joins
    join = shifter_joins n.input n.output d y
shift-pins n c None y f g h = absurd (false≢true h)
shift-pins n c (Some d) None f g h = absurd (false≢true h)

shifter-pins : (p : Project) (a b : Option SetOrigins) (c : CellView) → shifter_fits p a b c ≡ true → FitsShifter a b c
shifter-pins p (Some a) (Some b) c e =
    let n : ShifterNeed = record { input = a; output = b; pairs = pairs_of p.supplies a.power.0 b.power.0; margin = p.margin; mapped = None } in
    shift-pins n c (input_for is_data c) (one_output c) refl refl
    (other (takes_pairs n.pairs c.roles.shifter) _ (other (length c.pins == 2) _ (other (not (is_some c.state)) _ (other (only_shifts c.roles) _ (other (is_usable c) _ e)))))
shifter-pins p None b c e = absurd (false≢true e)
shifter-pins p (Some a) None c e = absurd (false≢true e)

pub fits-operator : (p : Project) (x : Path) (o : Operator) (c : CellView) → operator_fits p x o c ≡ true → FitsOperator p x o c
fits-operator p x (Clamp t i) c e =
    let fit = clamp-pins (functions_of p (Some i)) (primary_at p x) (slice_get p.intent.strategies t) c e in
    record { taken = fit.pins.one_pin; taken_is = fit.pins.one_is; join = fit.join; join_is = fit.join_is; joined = fit.pins.joined }
fits-operator p x (Shift t a b) c e =
    let fit = shifter-pins p (functions_of p (Some a)) (functions_of p (Some b)) c e in
    record { taken = fit.taken; taken_is = fit.taken_is; join = fit.join; join_is = fit.join_is; joined = fit.joined }

-- a clamp has an enable
pub enable-of-clamp : (p : Project) (x : Path) (t i : ℕ) (c : CellView) → operator_fits p x (Clamp t i) c ≡ true → (q : PinView) × (input_for is_iso_enable c ≡ Some q)
enable-of-clamp p x t i c e =
    let fit = clamp-pins (functions_of p (Some i)) (primary_at p x) (slice_get p.intent.strategies t) c e in
    (fit.pins.two_pin, fit.pins.two_is)

-- ---- switches

only-one : {A : Type 0} (xs : List A) (q : A) → only xs ≡ Some q → xs ≡ q ∷ []
only-one [] q e = absurd cc
only-one (x ∷ []) q e = let is : x ≡ q = cc in ap (λ z. z ∷ []) is
only-one (x ∷ y ∷ xs) q e = absurd cc

none-both : {A : Type 0} (t u : A → Bool) (xs : List A) → filter t xs ≡ [] → filter (λ z. t z && u z) xs ≡ []
none-both t u [] e = refl
none-both t u (x ∷ xs) e = by (t x) e (none-both t u xs)
  where
    by : (b : Bool) → cond b (x ∷ filter t xs) (filter t xs) ≡ [] → (filter t xs ≡ [] → filter (λ z. t z && u z) xs ≡ []) → cond (b && u x) (x ∷ filter (λ z. t z && u z) xs) (filter (λ z. t z && u z) xs) ≡ []
    by true g more = absurd cc
    by false g more = more g

one-both : {A : Type 0} (t u : A → Bool) (xs : List A) (q : A) → filter t xs ≡ q ∷ [] → u q ≡ true → filter (λ z. t z && u z) xs ≡ q ∷ []
one-both t u [] q e h = absurd cc
one-both t u (x ∷ xs) q e h = by (t x) e (λ g. one-both t u xs q g h)
  where
    by : (b : Bool) → cond b (x ∷ filter t xs) (filter t xs) ≡ q ∷ [] → (filter t xs ≡ q ∷ [] → filter (λ z. t z && u z) xs ≡ q ∷ []) → cond (b && u x) (x ∷ filter (λ z. t z && u z) xs) (filter (λ z. t z && u z) xs) ≡ q ∷ []
    by true g more =
        let is : x ≡ q = cc in
        let rest : filter t xs ≡ [] = cc in
        ap (λ (d : Bool). cond d (x ∷ filter (λ z. t z && u z) xs) (filter (λ z. t z && u z) xs)) (ap u is ∙ h)
        ∙ (ap (λ r. x ∷ r) (none-both t u xs rest) ∙ ap (λ z. z ∷ []) is)
    by false g more = more g

pub record FitsSwitch (x : SwitchAt) (c : CellView) : Type 0 where
  pub pin : PinView
  pub pin_is : input_for is_switch_pin c ≡ Some pin
  pub switched : SwitchedView
  pub switched_is : only (switched_pins c) ≡ Some switched
  pub joined : list_all (λ z. is_some (switch_side switched.passes z.0 z.1)) (numbered 0 c.pgs) ≡ true

switch-with : (x : SwitchAt) (n : SwitchCellNeed) (c : CellView) (q : Option PinView) (s : Option SwitchedView) → only (filter is_input_pin c.pins) ≡ q → only (switched_pins c) ≡ s → switches_with n c q s ≡ true → FitsSwitch x c
switch-with x n c (Some q) (Some s) f g h = record {
  pin = q;
  pin_is = ap only (one-both is_input_pin is_switch_pin c.pins q (only-one (filter is_input_pin c.pins) q f) (one (is_switch_pin q) _ h));
  switched = s;
  switched_is = g;
  joined = other (q.power == s.passes) _ (other (is_complement q.name n.on s.off) _ (other (is_switch_pin q) _ h));
}
switch-with x n c None s f g h = absurd (false≢true h)
switch-with x n c (Some q) None f g h = absurd (false≢true h)

pub fits-switch : (x : SwitchAt) (c : CellView) → switch_fits x c ≡ true → FitsSwitch x c
fits-switch x c e = switch-with x (record { on = on_expression x.high; mapped = None }) c (only (filter is_input_pin c.pins)) (only (switched_pins c)) refl refl (other (not (is_some c.state)) _ (other c.roles.switch _ (other (is_usable c) _ e)))
