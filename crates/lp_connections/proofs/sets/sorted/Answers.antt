use Rattle.std.proofs.Common.{subst}
use Rattle.std.specs.List.Sorted.{IsPermutation}
use Rattle.std.proofs.lemmas.List.Sorted.{IsNonDecreasingBy-from_sort}
use Rattle.lp_connections.proofs.sets.sorted.Goals as goal

pub returns : goal.returns
returns c =
    let sorted = c.sort_unstable.new.self.items in
    record {
      moved = subst (λ xs. IsPermutation xs sorted) c.in_ok-sorted.ensures.items c.sort_unstable.ensures.permutation;
      rises = IsNonDecreasingBy-from_sort (λ x. x) sorted c.sort_unstable.ensures.sorted;
    }
