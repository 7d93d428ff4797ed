use Rattle.std.proofs.Common.{ap, ◌∙◌}
use Rattle.lp_spec_layout.specs.Parts as parts
use Rattle.lp_templates.specs.Views.{cell_view, with_statement}
use Rattle.lp_templates.proofs.Held.{rows_held, row_held, row_pushed}
use Rattle.lp_templates.proofs.template.Template.push_cell.Goals as goal

pub invariant_of-self-in_err-push : goal.invariant_of-self-in_err-push
invariant_of-self-in_err-push c =
    rw (c.in_ok-extend_from_slice.ensures.items, c.in_err-push.ensures.items) (rows_held c.self.inside.children.items c.self.inside.pins.items c.args.row.now c.self.inside.statements.items c.self.invariant)

pub invariant_of-self-2 : goal.invariant_of-self-2
invariant_of-self-2 c =
    rw (c.in_ok-extend_from_slice.ensures.items, c.in_ok-push.ensures.items, c.as_slice-start.ensures.value)
    (row_held c.self.inside.children.items c.self.inside.pins.items c.args.row.now c.args.of c.args.before c.self.inside.statements.items c.self.invariant)

pub returns : goal.returns
returns c =
    rw (c.in_ok-extend_from_slice.ensures.items, c.in_ok-push.ensures.items, c.as_slice-start.ensures.value)
    (ap (λ xs. record { statements = xs; assigns = c.self.inside.assigns }) (row_pushed c.self.inside.children.items c.self.inside.pins.items c.args.row.now c.args.of c.args.before c.self.inside.statements.items c.self.invariant)
    ∙ ap (λ x. with_statement x (parts.OfCell (cell_view c.args.of c.args.before c.args.row.now))) c.self.view_is)
