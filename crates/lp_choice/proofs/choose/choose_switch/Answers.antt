use Rattle.std.proofs.Common.{◌≡◌, ◌≤◌, ◌<◌, ◌∙◌, ap, sym, subst, length, List, Option, ℕ, arith}
use Rattle.std.specs.Prelude.{IfSome}
use Rattle.lp_choice.specs.Least.{least_place}
use Rattle.lp_choice.specs.Chosen.{switch_areas}
use Rattle.lp_choice.proofs.LeastChoice.{least-within, within-most}
use Rattle.lp_choice.proofs.Switching.{switch-areas-choice}
use Rattle.lp_choice.proofs.choose.choose_switch.Goals as goal

pub numbered-requires : goal.numbered-requires
numbered-requires c =
    let areas = c.as_slice-2.result.now in
    let many : length areas ≡ length c.args.library.now.cells =
    ap (λ (xs : List (Option ℕ)). length xs) c.as_slice-2.ensures.value ∙ (c.in_ok-areas.ensures.many ∙ ap length c.as_slice.ensures) in
    let few : length areas ≤ 4294967295 = omega (arith, many, c.requires.few) in
    within-most c.least.result (length areas) 4294967295 few
    (subst (λ o. IfSome o (λ place. place < length areas)) (sym c.least.ensures) (least-within areas))

pub returns : goal.returns
returns c =
    let texts = c.args.names.now in
    c.numbered.ensures
    ∙ (c.least.ensures
    ∙ (ap least_place (c.as_slice-2.ensures.value ∙ (c.in_ok-areas.ensures.areas ∙ ap (switch_areas texts c.args.need.now) c.as_slice.ensures))
    ∙ switch-areas-choice texts c.args.need.now c.requires.control c.args.library.now.cells))
