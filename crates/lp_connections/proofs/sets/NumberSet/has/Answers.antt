use Rattle.std.proofs.Common.{ap, ◌∙◌, subst, nat_cmp}
use Rattle.std.specs.List.Sorted.{IsBinarySearchResult}
use Rattle.lp_places.specs.Places.{has_number}
use Rattle.lp_connections.proofs.Sorting.{set-has}
use Rattle.lp_connections.proofs.sets.NumberSet.has.Goals as goal

pub returns : goal.returns
returns c =
    let n = c.args.number in
    c.is_ok.ensures.value
    ∙ set-has c.self.inside.sorted.items c.self.inside.numbers.items c.self.invariant n c.binary_search.result
    (subst (λ xs. IsBinarySearchResult (λ y. nat_cmp y n) xs c.binary_search.result) c.as_slice.ensures.value c.binary_search.ensures.position)
    ∙ ap (has_number n) c.self.view_is
