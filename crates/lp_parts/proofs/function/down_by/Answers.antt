use Rattle.std.proofs.Common.{◌≡◌, List, length, true, sym, ap, ◌∙◌, subst}
use Rattle.lp_expr.specs.Formula.{Formula}
use Rattle.lp_text.specs.declared.names.NameId.{NameId}
use Rattle.lp_model.specs.Agreement.{name_numbers, numbers_below}
use Rattle.lp_parts.proofs.Below.{below_plain}
use Rattle.lp_parts.proofs.Viewed.{down_same}
use Rattle.lp_parts.proofs.function.down_by.Goals as goal

pub returns-clause-same : goal.returns-clause-same
returns-clause-same c = down_same c.args.names.now c.args.pgs.now c.in_ok-e.e (ap (λ (f : Formula). f.variables) c.in_ok-e.ensures ∙ c.in_ok-ids.ensures.same) (ap (λ (f : Formula). f.steps) c.in_ok-e.ensures ∙ c.in_ok-steps.ensures)

pub returns-clause-below : goal.returns-clause-below
returns-clause-below c = subst (λ (ids : List NameId). numbers_below (length c.args.names.now) (name_numbers ids) ≡ true) (sym (ap (λ (f : Formula). f.variables) c.in_ok-e.ensures ∙ c.in_ok-ids.ensures.same)) (below_plain (length c.args.names.now) c.args.pgs.now c.requires.below)
