use Rattle.std.proofs.Common.{◌≡◌, Some, None, sym, ap, ◌∙◌, arith}
use Rattle.std.specs.Prelude.{slice_get}
use Rattle.lp_spec_layout.specs.Parts as parts
use Rattle.lp_templates.specs.declared.template.Statement.TheVariants.{OfModule, OfCell}
use Rattle.lp_templates.proofs.Held.{child_there, child_seen, row_there, row_seen}
use Rattle.lp_templates.proofs.template.Template.statement.Goals as goal

pub part-pins-requires : goal.part-pins-requires
part-pins-requires c =
    let got : slice_get c.self.inside.statements.items c.args.place ≡ Some (OfCell c.in-OfCell.row) = grind (arith, c.at.ensures, c.in_ok-child.was, c.in_ok-child.is, c.in-OfCell.is, c.as_slice.ensures.value) in
    rw c.as_slice-in-OfCell.ensures.value (row_there c.self.inside.children.items c.self.inside.pins.items c.self.inside.statements.items c.self.invariant c.args.place c.in-OfCell.row got)

pub returns-in-OfCell : goal.returns-in-OfCell
returns-in-OfCell c =
    let got : slice_get c.self.inside.statements.items c.args.place ≡ Some (OfCell c.in-OfCell.row) = grind (arith, c.at.ensures, c.in_ok-child.was, c.in_ok-child.is, c.in-OfCell.is, c.as_slice.ensures.value) in
    let seen = row_seen c.self.inside.children.items c.self.inside.pins.items c.self.inside.statements.items c.self.invariant c.args.place c.in-OfCell.row got in
    rw (c.part-pins.ensures, c.as_slice-in-OfCell.ensures.value) (sym seen ∙ ap (λ (x : parts.Template). slice_get x.statements c.args.place) c.self.view_is)

pub returns-in_err-child-in-OfModule : goal.returns-in_err-child-in-OfModule
returns-in_err-child-in-OfModule c =
    let got : slice_get c.self.inside.statements.items c.args.place ≡ Some (OfModule c.in-OfModule.child) = grind (arith, c.at.ensures, c.in_ok-child.was, c.in_ok-child.is, c.in-OfModule.is, c.as_slice.ensures.value) in
    let none : slice_get c.self.inside.children.items c.in-OfModule.child ≡ None = grind (arith, c.at-in-OfModule.ensures, c.in_err-child-in-OfModule.was, c.in_err-child-in-OfModule.is, c.as_slice-in-OfModule.ensures.value) in
    absurd (child_there c.self.inside.children.items c.self.inside.pins.items c.self.inside.statements.items c.self.invariant c.args.place c.in-OfModule.child got none)

pub returns-in_ok-child-in-OfModule : goal.returns-in_ok-child-in-OfModule
returns-in_ok-child-in-OfModule c =
    let got : slice_get c.self.inside.statements.items c.args.place ≡ Some (OfModule c.in-OfModule.child) = grind (arith, c.at.ensures, c.in_ok-child.was, c.in_ok-child.is, c.in-OfModule.is, c.as_slice.ensures.value) in
    let child : slice_get c.self.inside.children.items c.in-OfModule.child ≡ Some c.in_ok-child-in-OfModule.child.now =
    grind (arith, c.at-in-OfModule.ensures, c.in_ok-child-in-OfModule.was, c.in_ok-child-in-OfModule.is, c.as_slice-in-OfModule.ensures.value) in
    let seen = child_seen c.self.inside.children.items c.self.inside.pins.items c.self.inside.statements.items c.self.invariant c.args.place c.in-OfModule.child c.in_ok-child-in-OfModule.child.now got child in
    sym seen ∙ ap (λ (x : parts.Template). slice_get x.statements c.args.place) c.self.view_is
