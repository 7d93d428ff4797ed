use Rattle.std.proofs.Common.{◌≡◌, ◌∙◌, ap, not, ◌&&◌, map}
use mathlib.Core.Bool.{beq}
use Rattle.lp_expr.specs.Formula.{truth, value_of}
use Rattle.lp_expr.specs.Places.{is_one}
use Rattle.lp_model.specs.Agreement.{name_texts}
use Rattle.lp_model.specs.LibraryView.{cell_view}
use Rattle.lp_behaviour.specs.Signals.{known}
use Rattle.lp_spec_plain.specs.Cells.{levels_with}
use Rattle.lp_plain_cells.specs.Rails.{value_named}
use Rattle.lp_plain_cells.proofs.Levels.{value-known, down-known}
use Rattle.lp_plain_cells.proofs.down.is_down.Goals as goal

pub returns : goal.returns
returns c =
    let e = c.args.e.now in
    let texts = c.args.names.now in
    let cell = c.args.cell.now in
    let t = truth e.steps (levels_with (cell_view texts cell) c.args.power c.args.gnd (name_texts texts e.variables)) in
    let value : c.value.result ≡ known t =
    c.value.ensures
    ∙ (ap (value_of e) c.levels_of-levels.ensures
    ∙ (ap (λ vs. value_of e (map (value_named texts cell c.args.power c.args.gnd) vs)) c.variables-variables.ensures.is
    ∙ value-known texts cell c.args.power c.args.gnd e)) in
    ap (λ b. not (beq b c.is_whole.result)) (c.is_one.ensures ∙ ap is_one value)
    ∙ (ap (λ b. not (beq (is_one (known t)) b)) c.is_whole.ensures
    ∙ down-known t (c.args.power && c.args.gnd))
