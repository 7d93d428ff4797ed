-- Level shifters over numbers of names, and over their texts.
use Rattle.std.proofs.Common.{◌≡◌, ℕ, ◌+◌, suc, Bool, true, false, not, ◌&&◌, ◌||◌, List, [], ◌∷◌, map, Option, Some, None, Result, Ok, Err, refl, sym, ap, ◌∙◌}
use Rattle.std.specs.Prelude.{IfOk, if◌then◌else◌, filter, is_some, length, ◌==◌}
use Rattle.std.specs.Option.{option_map}
use Rattle.std.proofs.lemmas.List.{length-map}
use Rattle.lp_text.specs.Texts.{text_at}
use Rattle.lp_model.specs.LibraryView.{CellView, cell_view, expr_view, pin_view, state_view}
use Rattle.lp_model.specs.declared.library.Cell.{Cell}
use Rattle.lp_model.specs.declared.library.PgPin.{PgPin}
use Rattle.lp_model.specs.declared.library.Pin.{Pin}
use Rattle.lp_model.specs.declared.need.ShiftNeed.{ShiftNeed}
use Rattle.lp_spec_design.specs.Graph.{is_output_pin}
use Rattle.lp_spec_pins.specs.Pins.{is_data, is_input_pin, only}
use Rattle.lp_spec_fit.specs.Needs.{mapped_view, shifter_need}
use Rattle.lp_spec_fit.specs.Joins.{Joins, all_joined, relates_to, shifter_joins}
use Rattle.lp_spec_fit.specs.PowerDown.{power_down_equals}
use Rattle.lp_spec_fit.specs.Fits.{fits_shifter, has_function, shifts_with_pins, takes_pairs}
use Rattle.lp_spec_fit.specs.Choice.{is_mapped, shifter_choice}
use Rattle.lp_choice.specs.declared.parts.Part.TheVariants.{ShiftedData, Output}
use Rattle.lp_choice.specs.Parts.{has_part}
use Rattle.lp_choice.specs.Rails.{placed_origins}
use Rattle.lp_choice.specs.Shifts.{may_pass, only_shifts, pins_shift, shift_fits, shift_origin, shifts_out}
use Rattle.lp_choice.specs.Least.{area_if, least_place}
use Rattle.lp_choice.specs.Chosen.{shift_areas}
use Rattle.lp_choice.proofs.LeastChoice.{least-is-choice}
use Rattle.lp_choice.proofs.Joints.{relates-one, joined-all, down-is, down-both}
use Rattle.lp_choice.proofs.Clamping.{grouped, listed, part-seen, some-seen}

-- one answer for another, where they are equal
pub ok-is : {E : Type 0} (r : Result Bool E) (x y : Bool) → IfOk r (λ d. d ≡ x) → x ≡ y → IfOk r (λ d. d ≡ y)
ok-is (Ok d) x y h e = h ∙ e
ok-is (Err z) x y h e = tt

-- each pin has its place
pub placed-length : (f : ℕ → PgPin → Option ℕ) (k : ℕ) (pgs : List PgPin) → length (placed_origins f k pgs) ≡ length pgs
placed-length f k [] = refl
placed-length f k (g ∷ pgs) = ap suc (placed-length f (k + 1) pgs)

-- the same tests in another order
reordered : (l f r j d : Bool) → (l && (f && (r && (j && d)))) ≡ (f && (r && (l && (d && j))))
reordered false false r j d = refl
reordered false true false j d = refl
reordered false true true j d = refl
reordered true false r j d = refl
reordered true true false j d = refl
reordered true true true false false = refl
reordered true true true false true = refl
reordered true true true true false = refl
reordered true true true true true = refl

module _ (texts : List (List ℕ)) (n : ShiftNeed) (c : Cell) where
  module _ (d y : Pin) where
    abbrev join : Joins
    join = shifter_joins n.input n.output (pin_view texts d) (pin_view texts y)

    abbrev origin : ℕ → PgPin → Option ℕ
    origin = shift_origin n d.power y.power

    abbrev origins : List (Option ℕ)
    origins = placed_origins origin 0 c.pgs

    out-is : shifts_out texts n c.pgs origins y ≡ (relates_to (cell_view texts c) join n.output (pin_view texts y) && (all_joined (cell_view texts c) join && (power_down_equals (cell_view texts c) join (n.input ∷ n.output ∷ []) (option_map (expr_view texts) y.power_down) || power_down_equals (cell_view texts c) join (n.output ∷ []) (option_map (expr_view texts) y.power_down))))
    out-is = λ i.
        sym (relates-one texts c join origin (λ k g. refl) n.output y) i
        && (sym (joined-all texts c join origin (λ k g. refl)) i
        && (down-both texts c join origin (λ k g. refl) n.input n.output y.power_down i || down-is texts c join origin (λ k g. refl) n.output y.power_down i))

  pins-join : (d y : Option Pin) → pins_shift texts n c.pgs d y ≡ shifts_with_pins (shifter_need texts n) (cell_view texts c) (option_map (pin_view texts) d) (option_map (pin_view texts) y)
  pins-join None y = refl
  pins-join (Some d) None = refl
  pins-join (Some d) (Some y) =
      let seen : CellView = cell_view texts c in
      let downs : Option _ = option_map (expr_view texts) y.power_down in
      (λ i. may_pass n d.power y.power
      && (has_function (text_at texts d.name.0 ∷ []) (λ v. v (text_at texts d.name.0)) (option_map (expr_view texts) y.function)
      && out-is d y i))
      ∙ reordered (may_pass n d.power y.power)
      (has_function (text_at texts d.name.0 ∷ []) (λ v. v (text_at texts d.name.0)) (option_map (expr_view texts) y.function))
      (relates_to seen (join d y) n.output (pin_view texts y))
      (all_joined seen (join d y))
      (power_down_equals seen (join d y) (n.input ∷ n.output ∷ []) downs || power_down_equals seen (join d y) (n.output ∷ []) downs)

  pub fits-join : shift_fits texts n c ≡ fits_shifter (shifter_need texts n) (cell_view texts c)
  fits-join =
      grouped texts (not (is_some c.unusable)) (only_shifts c.roles) (not (is_some c.state)) (length c.pins == 2)
      (takes_pairs n.pairs c.roles.shifter && pins_shift texts n c.pgs (only (filter (has_part ShiftedData) c.pins)) (only (filter (has_part Output) c.pins)))
      ∙ (λ i.
      not (is_some c.unusable)
      && ((is_some c.roles.shifter && (not c.roles.iso && (not (some-seen texts (expr_view texts) c.roles.retention i) && not c.roles.switch)))
      && (not (some-seen texts (state_view texts) c.state i)
      && ((sym (length-map c.pins (pin_view texts)) i == 2)
      && (takes_pairs n.pairs c.roles.shifter
      && (pins-join (only (filter (has_part ShiftedData) c.pins)) (only (filter (has_part Output) c.pins))
      ∙ (λ j. shifts_with_pins (shifter_need texts n) (cell_view texts c)
      (part-seen texts ShiftedData (λ q. is_input_pin q && is_data q) (λ q. refl) c.pins j)
      (part-seen texts Output is_output_pin (λ q. refl) c.pins j))) i)))))

module _ (texts : List (List ℕ)) where
  -- the test of a cell by texts
  abbrev Fitting : ShiftNeed → CellView → Bool
  Fitting n c = is_mapped (mapped_view texts n.list) c && fits_shifter (shifter_need texts n) c

  areas-join : (n : ShiftNeed) (cells : List Cell) → shift_areas texts n cells ≡ map (area_if (Fitting n)) (map (cell_view texts) cells)
  areas-join n [] = refl
  areas-join n (c ∷ cells) = λ i. (if listed texts n.list c i && fits-join texts n c i then Some c.area else None) ∷ areas-join n cells i

  -- the first of the least areas is the choice
  pub shifter-areas-choice : (n : ShiftNeed) (cells : List Cell) → least_place (shift_areas texts n cells) ≡ shifter_choice (shifter_need texts n) (map (cell_view texts) cells)
  shifter-areas-choice n cells = ap least_place (areas-join n cells) ∙ least-is-choice (Fitting n) (map (cell_view texts) cells)
