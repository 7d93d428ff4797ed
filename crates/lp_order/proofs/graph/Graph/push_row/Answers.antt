use Rattle.std.proofs.Common.{◌≡◌, ◌++◌, ◌∷◌, [], length, ap, ◌∙◌, arith, length-append}
use Rattle.lp_order.proofs.RowsLemmas.{AreEnds-push, rows_between-push}
use Rattle.lp_order.proofs.graph.Graph.push_row.Goals as goal
use Rattle.lp_order.proofs.graph.Graph.push_row.Goals.{After-unwrap}

-- the new end is the length of the new flat list
new_ends : (c : After-unwrap) → c.push.new.self.items ≡ c.self.inside.ends.items ++ length (c.self.inside.flat.items ++ c.args.row.now) ∷ []
new_ends c =
    let flat : c.extend_from_slice.new.self.items ≡ c.self.inside.flat.items ++ c.args.row.now = c.in_ok-extend_from_slice.ensures.items in
    let end : c.len-end.result ≡ length (c.self.inside.flat.items ++ c.args.row.now) = omega (arith, c.extend_from_slice.new.self.ok.0, ap length flat) in
    let pushed = rw c.unwrap.ensures at c.push.ensures.items in
    pushed ∙ ap (λ ends. ends ++ c.len-end.result ∷ []) c.reserve.ensures.items ∙ ap (λ n. c.self.inside.ends.items ++ n ∷ []) end

pub invariant_of-self-2 : goal.invariant_of-self-2
invariant_of-self-2 c =
    let ends = c.self.inside.ends.items in
    let flat = c.self.inside.flat.items in
    let row = c.args.row.now in
    rw (new_ends c, c.in_ok-extend_from_slice.ensures.items) (AreEnds-push 0 ends (length flat) (length (flat ++ row)) c.self.invariant (omega (arith, length-append flat row)))

pub returns-clause-ok : goal.returns-clause-ok
returns-clause-ok c =
    rw (new_ends c, c.in_ok-extend_from_slice.ensures.items, ← c.self.view_is) (rows_between-push 0 c.self.inside.ends.items c.self.inside.flat.items c.args.row.now c.self.invariant)
