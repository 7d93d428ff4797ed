use Rattle.std.proofs.Common.{ap, ◌∙◌}
use Rattle.lp_spec_layout.specs.Parts as parts
use Rattle.lp_templates.specs.Views.{child_view, with_statement}
use Rattle.lp_templates.proofs.Held.{children_held, child_held, child_pushed}
use Rattle.lp_templates.proofs.template.Template.push_child.Goals as goal

pub invariant_of-self-in_err-push-2 : goal.invariant_of-self-in_err-push-2
invariant_of-self-in_err-push-2 c = rw (c.in_ok-push.ensures.items, c.in_err-push-2.ensures.items) (children_held c.self.inside.children.items c.self.inside.pins.items c.args.child c.self.inside.statements.items c.self.invariant)

pub invariant_of-self-2 : goal.invariant_of-self-2
invariant_of-self-2 c =
    rw (c.in_ok-push.ensures.items, c.in_ok-push-2.ensures.items, c.as_slice-place.ensures.value) (child_held c.self.inside.children.items c.self.inside.pins.items c.args.child c.self.inside.statements.items c.self.invariant)

pub returns : goal.returns
returns c =
    rw (c.in_ok-push.ensures.items, c.in_ok-push-2.ensures.items, c.as_slice-place.ensures.value)
    (ap (λ xs. record { statements = xs; assigns = c.self.inside.assigns }) (child_pushed c.self.inside.children.items c.self.inside.pins.items c.args.child c.self.inside.statements.items c.self.invariant)
    ∙ ap (λ x. with_statement x (parts.OfModule (child_view c.args.child))) c.self.view_is)
