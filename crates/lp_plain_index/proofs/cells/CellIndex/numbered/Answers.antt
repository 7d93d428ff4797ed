use Rattle.std.proofs.Common.{sym, ap, ◌∙◌}
use Rattle.std.specs.Prelude.{slice_get}
use Rattle.std.specs.Option.{option_and_then, option_copied}
use Rattle.lp_places.specs.Places.{place_of_number}
use Rattle.lp_plain_index.specs.Cells.{cell_numbered}
use Rattle.lp_plain_index.proofs.Numbers.{cell_at_number}
use Rattle.lp_plain_index.proofs.cells.CellIndex.numbered.Goals as goal

pub returns-in_err-place : goal.returns-in_err-place
returns-in_err-place c =
    let cells = c.self.inside.cells.now in
    ap option_copied c.from_residual.ensures
    ∙ ap (option_and_then (slice_get cells)) (sym c.in_err-place.was ∙ c.find.ensures ∙ ap (place_of_number c.args.name.0) c.self.invariant)
    ∙ cell_at_number cells c.args.name.0 ∙ ap (λ xs. cell_numbered xs c.args.name.0) c.self.view_is

pub returns : goal.returns
returns c =
    let cells = c.self.inside.cells.now in
    c.at.ensures
    ∙ ap (option_and_then (slice_get cells)) (sym c.in_ok-place.was ∙ c.find.ensures ∙ ap (place_of_number c.args.name.0) c.self.invariant)
    ∙ cell_at_number cells c.args.name.0 ∙ ap (λ xs. cell_numbered xs c.args.name.0) c.self.view_is
