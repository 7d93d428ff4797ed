use Rattle.std.proofs.Common.{◌<◌, ℕ, List, slice_index_or}
use Rattle.std.specs.List.{All}
use Rattle.lp_order.proofs.graph.Graph.is_closed.Given as goal

abbrev pub invariant-loop-key : goal.invariant-loop-key
invariant-loop-key l = (k : ℕ) (d : List ℕ) → k < l.key → All (λ read. read < l.count) (slice_index_or l.self k d)
