use Rattle.std.proofs.Common.{◌≡◌}
use Rattle.std.specs.Ordering.{nat_cmp}
use Rattle.std.specs.Cmp.Lexicographic.{slice_cmp}
use Rattle.std.specs.FinMap.{get, find}
use Rattle.std.specs.VecDeque.Iter.{deque_iter_rest}
use Rattle.lp_text.proofs.store.Store.get.Given as goal

abbrev pub invariant-loop-held : goal.invariant-loop-held
invariant-loop-held l = get l.self l.name ≡ find (slice_cmp nat_cmp) l.name (deque_iter_rest l.held-iterator)
