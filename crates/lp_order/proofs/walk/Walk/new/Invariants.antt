use Rattle.std.proofs.Common.{◌≡◌, ℕ, List, length, take}
use Rattle.std.specs.Prelude.{map}
use Rattle.lp_order.proofs.walk.Walk.new.Given as goal

abbrev pub invariant-loop-key : goal.invariant-loop-key
invariant-loop-key l = l.unread.items ≡ map (λ (row : List ℕ). length row) (take l.key l.graph)
