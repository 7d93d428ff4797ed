use Rattle.std.proofs.Common.{sym, ap, ◌∙◌}
use Rattle.std.specs.Prelude.{slice_get}
use Rattle.std.specs.Option.{option_map, option_and_then}
use Rattle.lp_text.specs.Texts.{text_at}
use Rattle.lp_model.specs.LibraryView.{cell_view}
use Rattle.lp_plain_index.proofs.Numbers.{cell_at, copied_cell}
use Rattle.lp_plain_index.proofs.cells.CellIndex.find.Goals as goal

pub returns-in_err-place : goal.returns-in_err-place
returns-in_err-place c =
    let texts = c.args.names.now in
    let cells = c.args.self.now in
    ap (option_map (λ x. cell_view texts x.now)) c.from_residual.ensures
    ∙ ap (λ p. option_map (cell_view texts) (option_and_then (slice_get cells) p)) (sym c.in_err-place.was ∙ c.place.ensures)
    ∙ cell_at texts cells (text_at texts c.args.name.0)

pub returns : goal.returns
returns c =
    let texts = c.args.names.now in
    let cells = c.args.self.now in
    copied_cell texts c.at.result
    ∙ ap (option_map (cell_view texts)) (c.at.ensures ∙ ap (λ xs. slice_get xs c.in_ok-place.place) c.self.view_is)
    ∙ ap (λ p. option_map (cell_view texts) (option_and_then (slice_get cells) p)) (sym c.in_ok-place.was ∙ c.place.ensures)
    ∙ cell_at texts cells (text_at texts c.args.name.0)
