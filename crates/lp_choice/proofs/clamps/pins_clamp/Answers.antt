use Rattle.std.proofs.Common.{◌≡◌, ◌∙◌, ap, sym, true, map, List, ℕ, ◌∷◌, []}
use Rattle.std.specs.Prelude.{is_some}
use Rattle.std.specs.Option.{option_map}
use Rattle.std.specs.List.{list_all}
use Rattle.lp_expr.specs.Formula.{Formula, truth}
use Rattle.lp_text.specs.Texts.{text_at}
use Rattle.lp_model.specs.LibraryView.{expr_view}
use Rattle.lp_spec_fit.specs.Fits.{has_function}
use Rattle.lp_choice.specs.Rails.{down_agrees}
use Rattle.lp_choice.specs.Wanted.{clamp_steps}
use Rattle.lp_choice.specs.Clamps.{clamp_origins, relates}
use Rattle.lp_choice.proofs.Clamping.{ok-more}
use Rattle.lp_choice.proofs.clamps.pins_clamp.Goals as goal

pub returns : goal.returns
returns c =
    let texts = c.args.names.now in
    let need = c.args.need.now in
    let names : List (List ℕ) = text_at texts c.args.given.now.name.0 ∷ text_at texts c.args.enable.now.name.0 ∷ [] in
    let function = option_map (expr_view texts) c.args.output.now.function in
    let os : c.as_slice-origins.result.now ≡ clamp_origins need c.args.cell.now.pgs =
    c.as_slice-origins.ensures.value ∙ (c.in_ok-origins.ensures.origins ∙ ap (clamp_origins need) c.as_slice-pgs.ensures) in
    let has : has_function names (λ v. truth (clamp_steps need.clamp need.high) (map v names)) function ≡ true =
    ap (λ (f : Formula). has_function names (λ v. truth f.steps (map v names)) function) (sym c.requires.wanted) ∙ (sym c.in_ok-has_function.ensures ∙ c.if-not-branch.false) in
    let relate : list_all (relates (clamp_origins need c.args.cell.now.pgs) need.supply) c.args.cell.now.pins ≡ true =
    (λ i. list_all (relates (sym os i) need.supply) (sym c.as_slice.ensures i)) ∙ (sym c.all_relate.ensures ∙ c.if-not-all_relate.false) in
    let joined : list_all is_some (clamp_origins need c.args.cell.now.pgs) ≡ true =
    (λ i. list_all is_some (sym os i)) ∙ (sym c.are_joined.ensures ∙ c.if-not-are_joined.false) in
    ok-more c.down_agrees.result _ _ _ _ _ c.down_agrees.ensures
    (λ i. down_agrees texts (c.as_slice-pgs.ensures i) (os i) (need.supply.power.0 ∷ need.supply.gnd.0 ∷ []) (c.requires.off i) c.args.output.now.power_down) has relate joined
