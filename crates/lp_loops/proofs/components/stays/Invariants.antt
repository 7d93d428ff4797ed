use Rattle.std.proofs.Common.{◌≡◌, ◌==◌, drop}
use Rattle.std.specs.List.{list_any}
use Rattle.lp_order.specs.Order.{row_of}
use Rattle.lp_loops.specs.Loops.{component_of}
use Rattle.lp_loops.proofs.components.stays.Given as goal

abbrev pub invariant-loop-read : goal.invariant-loop-read
invariant-loop-read l = list_any (λ b. component_of l.components b == component_of l.components l.key) (drop l.read-index (row_of l.graph l.key)) ≡ list_any (λ b. component_of l.components b == component_of l.components l.key) (row_of l.graph l.key)
