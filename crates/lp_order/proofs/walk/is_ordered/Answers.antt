use Rattle.std.proofs.Common.{ℕ, List, Option, Some, None, reverse}
use Rattle.std.specs.Prelude.{MatchOption, is_some}
use Rattle.std.specs.Bool.{OnTrue}
use Rattle.lp_order.specs.Order.{HasLoop, IsOrder}
use Rattle.lp_order.proofs.OrderLaws.{order-no_loop}
use Rattle.lp_order.proofs.walk.is_ordered.Goals as goal

-- keys that were found are an order, so there is no loop
found_no_loop : {V : Type 0} (graph : List (List ℕ)) (keys : V → List ℕ) (o : Option V) → MatchOption o (HasLoop graph) (λ v. IsOrder graph (keys v)) → OnTrue (is_some o) (HasLoop graph → ⊥)
found_no_loop graph keys None h = tt
found_no_loop graph keys (Some v) h = order-no_loop graph (keys v) h

pub returns-clause-loop_free : goal.returns-clause-loop_free
returns-clause-loop_free c =
    rw c.is_some.ensures (found_no_loop c.args.graph.now (λ keys. reverse keys.items) c.in_ok-order_of.field-0 c.in_ok-order_of.ensures)
