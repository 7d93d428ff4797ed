use Rattle.std.proofs.Common.{◌≡◌, None, sym, ap, ◌∙◌}
use Rattle.std.specs.Prelude.{slice_get}
use Rattle.std.specs.Option.{option_copied}
use Rattle.lp_templates.specs.Views.{shown_view}
use Rattle.lp_drivers.specs.Seen.{see_all}
use Rattle.lp_drivers.specs.Cells.{places_by}
use Rattle.lp_drivers.proofs.Joined.{no-cell}
use Rattle.lp_drivers.proofs.marks.Marks.see_statement.Goals as goal

pub returns-in_default : goal.returns-in_default
returns-in_default c =
    let cells = c.args.cells.now in
    let none : slice_get c.args.cells.now c.in-OfCell.of ≡ None = sym c.at.ensures ∙ ap option_copied c.in_default.is in
    no-cell c.args.self.now cells c.in-OfCell.of c.in-OfCell.field-1 c.in-OfCell.row.now none
    ∙ ap (λ z. see_all c.args.self.now (places_by c.args.cells.now (shown_view z))) (sym c.in-OfCell.is)
