use Rattle.std.proofs.Common.{◌∙◌, ap, sym, refl}
use Rattle.std.specs.Prelude.{is_some}
use Rattle.std.specs.List.{list_all}
use Rattle.lp_text.specs.declared.names.NameId.{NameId}
use Rattle.lp_plain_cells.specs.Rails.{pg_found}
use Rattle.lp_plain_cells.proofs.Seen.{all_named}
use Rattle.lp_plain_cells.proofs.down.follows.Goals as goal

pub returns-then-are_pgs : goal.returns-then-are_pgs
returns-then-are_pgs c =
    let named = c.are_pgs.ensures ∙ (ap (list_all (λ (v : NameId). is_some (pg_found c.args.names.now c.args.cell.now.pgs v))) c.variables.ensures.is ∙ sym (all_named c.args.names.now c.args.cell.now c.args.e.now.variables)) in
    rw (← named, c.if-are_pgs.true) c.is_down_at_each.ensures

pub returns-else-are_pgs : goal.returns-else-are_pgs
returns-else-are_pgs c =
    let named = c.are_pgs.ensures ∙ (ap (list_all (λ (v : NameId). is_some (pg_found c.args.names.now c.args.cell.now.pgs v))) c.variables.ensures.is ∙ sym (all_named c.args.names.now c.args.cell.now c.args.e.now.variables)) in
    rw (← named, c.if-are_pgs.false) refl
