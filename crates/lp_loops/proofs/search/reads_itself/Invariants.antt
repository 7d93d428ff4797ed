use Rattle.lp_loops.specs.Search.{IsSearch, keys_left}
use Rattle.lp_loops.proofs.search.reads_itself.Given as goal

abbrev pub invariant-loop-key : goal.invariant-loop-key
invariant-loop-key l = IsSearch l.graph l.root l.search.met.items l.search.waiting.items

abbrev pub decreases-loop-key : goal.decreases-loop-key
decreases-loop-key l = keys_left l.search
