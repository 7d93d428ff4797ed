use Rattle.std.proofs.Common.{◌<◌, ◌≤◌, ℕ}
use Rattle.lp_order.specs.Order.{Reads}
use Rattle.lp_loops.specs.Loops.{component_of}
use Rattle.lp_loops.proofs.components.never_rises.Given as goal

abbrev pub invariant-loop-key : goal.invariant-loop-key
invariant-loop-key l = (a b : ℕ) → a < l.key → Reads l.graph a b → component_of l.components b ≤ component_of l.components a
