use Rattle.std.proofs.Common.{◌≡◌, ◌∙◌, ◌&&◌, ap, sym, true, map, length, List, Option, ℕ, ◌∷◌, []}
use Rattle.std.specs.Option.{option_map}
use Rattle.lp_expr.specs.Formula.{truth}
use Rattle.lp_text.specs.Texts.{text_at}
use Rattle.lp_model.specs.LibraryView.{expr_view}
use Rattle.lp_spec_fit.specs.Fits.{has_function}
use Rattle.lp_choice.specs.Rails.{placed_origins}
use Rattle.lp_choice.specs.declared.shifts.Wanted.{Wanted}
use Rattle.lp_choice.specs.Shifts.{may_pass, shift_origin, shifts_out}
use Rattle.lp_choice.proofs.Shifting.{ok-is, placed-length}
use Rattle.lp_choice.proofs.shifts.pins_shift.Goals as goal

pub shifts_out-requires-clause-origins : goal.shifts_out-requires-clause-origins
shifts_out-requires-clause-origins c =
    let f = shift_origin c.args.need.now c.args.given.now.power c.args.output.now.power in
    ap (λ (os : List (Option ℕ)). length os) (c.as_slice.ensures.value ∙ c.in_ok-origins.ensures) ∙ placed-length f 0 c.args.pgs.now

pub returns : goal.returns
returns c =
    let texts = c.args.names.now in
    let need = c.args.need.now in
    let pgs = c.args.pgs.now in
    let d = c.args.given.now in
    let y = c.args.output.now in
    let names : List (List ℕ) = text_at texts d.name.0 ∷ [] in
    let function = option_map (expr_view texts) y.function in
    let may : may_pass need d.power y.power ≡ true = sym c.may_pass.ensures ∙ c.if-not-may_pass.false in
    let has : has_function names (λ v. v (text_at texts d.name.0)) function ≡ true =
    ap (λ (w : Wanted). has_function names (λ v. truth w.passes.steps (map v names)) function) (sym c.requires) ∙ (sym c.in_ok-has_function.ensures ∙ c.if-not-branch.false) in
    ok-is c.shifts_out.result _ _ c.shifts_out.ensures
    (ap (λ os. shifts_out texts need pgs os y) (c.as_slice.ensures.value ∙ c.in_ok-origins.ensures)
    ∙ sym (λ i. may i && (has i && shifts_out texts need pgs (placed_origins (shift_origin need d.power y.power) 0 pgs) y)))
