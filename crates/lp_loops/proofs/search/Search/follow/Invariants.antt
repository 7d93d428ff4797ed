use Rattle.lp_loops.proofs.SearchLaws.{IsFollowing}
use Rattle.lp_loops.proofs.search.Search.follow.Given as goal

abbrev pub invariant-loop-read : goal.invariant-loop-read
invariant-loop-read l = IsFollowing l.graph l.root l.key l.fn.self l.self l.read-index
