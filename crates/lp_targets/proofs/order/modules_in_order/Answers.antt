use Rattle.std.proofs.Common.{length, sym, subst}
use Rattle.lp_order.specs.Order.{ReadsBelow}
use Rattle.lp_targets.specs.Children.{children_of, children}
use Rattle.lp_targets.proofs.Closed.{count_map}
use Rattle.lp_targets.proofs.order.modules_in_order.Goals as goal

pub order_of-requires : goal.order_of-requires
order_of-requires c =
    let rows = c.args.rows.now in
    subst (λ g. ReadsBelow (length g) g) (sym c.in_ok-graph.ensures)
    (subst (λ k. ReadsBelow k (children rows)) (sym (count_map children_of rows)) c.requires)
