use Rattle.std.proofs.Common.{Bool, true, false, not, sym, subst, length}
use Rattle.std.specs.Bool.{OnTrue, OnFalse}
use Rattle.lp_order.specs.Order as order
use Rattle.lp_plain_loops.proofs.Numbering.{rows_below}
use Rattle.lp_plain_loops.proofs.loops.is_looped.Goals as goal

OnFalse-not : {P Q : Type 0} (b : Bool) → (P → Q) → OnTrue b P → OnFalse (not b) Q
OnFalse-not true f p = f p
OnFalse-not false f p = tt

OnTrue-not : {P Q : Type 0} (b : Bool) → (P → Q) → OnFalse b P → OnTrue (not b) Q
OnTrue-not true f p = tt
OnTrue-not false f p = f p

pub is_ordered-requires : goal.is_ordered-requires
is_ordered-requires c = subst (λ g. order.ReadsBelow (length g) g) (sym c.in_ok-graph.ensures) (rows_below c.args.index.now c.args.source.now)

pub returns-clause-ordered : goal.returns-clause-ordered
returns-clause-ordered c = OnFalse-not c.in_ok-is_ordered.field-0 (subst order.HasOrder c.in_ok-graph.ensures) c.in_ok-is_ordered.ensures.ordered

pub returns-clause-looped : goal.returns-clause-looped
returns-clause-looped c = OnTrue-not c.in_ok-is_ordered.field-0 (subst order.HasLoop c.in_ok-graph.ensures) c.in_ok-is_ordered.ensures.looped
