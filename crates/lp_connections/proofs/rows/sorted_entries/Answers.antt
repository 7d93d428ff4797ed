use Rattle.std.proofs.Common.{subst, rules}
use Rattle.std.specs.List.Sorted.{IsPermutation, IsNonDecreasingBy}
use Rattle.std.proofs.lemmas.List.Sorted.{IsNonDecreasingBy-from_sort, answers_always}
use Rattle.lp_connections.specs.Rows.{entries_from, entry_key}
use Rattle.lp_connections.proofs.Sorting.{names-rise}
use Rattle.lp_connections.proofs.rows.sorted_entries.Goals as goal

pub returns : goal.returns
returns c =
    let numbers = c.args.numbers.now in
    let sorted = c.sort_unstable_by_key.new.self.items in
    let moved : IsPermutation (entries_from 0 numbers) sorted = subst (λ xs. IsPermutation xs sorted) c.in_ok-entries.ensures c.sort_unstable_by_key.ensures.permutation in
    let rises : IsNonDecreasingBy entry_key sorted = IsNonDecreasingBy-from_sort entry_key sorted (c.sort_unstable_by_key.ensures.sorted entry_key (answers_always _ _ _ (λ f a r g h. search rules))) in
    record { few = c.requires; moved = moved; rises = rises; names_rise = names-rise sorted numbers c.requires moved rises }
