-- Keys of a graph read keys of it.
use Rattle.std.proofs.Common.{◌≡◌, ◌<◌, ℕ, List, [], length, get_or, sym, subst}
use Rattle.lp_order.specs.Order.{row_of, ReadsBelow}

-- what a key of a graph reads is a key of it
pub read_below : (graph : List (List ℕ)) (key n : ℕ) (items : List ℕ) → ReadsBelow (length graph) graph → key < length graph → items ≡ row_of graph key → n < length items → get_or items n 0 < length graph
read_below graph key n items below h e inside =
    subst (λ (row : List ℕ). get_or row n 0 < length graph) (sym e) (below key [] h n 0 (subst (λ (row : List ℕ). n < length row) e inside))
