use Rattle.std.proofs.Common.{◌≡◌, ◌≤◌, ◌<◌, ◌∷◌, length, get_or, subst, sym, ap, ◌∙◌, arith, rules}
use Rattle.std.proofs.lemmas.List.{get_or_read}
use Rattle.lp_order.proofs.RowsLemmas.{rows_between-fits, get_or-rows_between}
use Rattle.lp_order.proofs.graph.Graph.row.Goals as goal
use Rattle.lp_order.proofs.graph.Graph.row.Goals.{After-self, After-index-end, After-deref}

fits : (c : After-self) → (c.args.key < length c.self.inside.ends.items) × (get_or (0 ∷ c.self.inside.ends.items) c.args.key 0 ≤ get_or c.self.inside.ends.items c.args.key 0) × (get_or c.self.inside.ends.items c.args.key 0 ≤ length c.self.inside.flat.items)
fits c = rows_between-fits c.self.inside.ends.items c.self.inside.flat.items c.args.key c.self.invariant (subst (λ rows. c.args.key < length rows) (sym c.self.view_is) c.requires)

start_is : (c : After-index-end) → c.start_of-start.result ≡ get_or (0 ∷ c.self.inside.ends.items) c.args.key 0
start_is c = c.start_of-start.ensures ∙ ap (λ ends. get_or (0 ∷ ends) c.args.key 0) c.as_slice.ensures.value

end_is : (c : After-index-end) → c.index-end.result.now ≡ get_or c.self.inside.ends.items c.args.key 0
end_is c = get_or_read c.self.inside.ends.items c.args.key c.index-end.result.now (fits (goal.at.After-index-end c).After-self).0 c.index-end.ensures 0

-- the row runs from its start to its end, within the flat list
runs : (c : After-deref) → (c.start_of-start.result ≤ c.index-end.result.now) × (c.index-end.result.now ≤ length c.deref.result.now)
runs c =
    let at = goal.at.After-deref c in
    let within = fits at.After-self in
    let start = start_is at.After-index-end in
    let end = end_is at.After-index-end in
    (omega arith, omega (arith, ap length c.deref.ensures.value))

pub start_of-start-requires : goal.start_of-start-requires
start_of-start-requires c = rw c.as_slice.ensures.value (fits (goal.at.start_of-start-requires c).After-self).0

pub index-end-requires : goal.index-end-requires
index-end-requires c = omega (arith, (fits (goal.at.index-end-requires c).After-self).0, c.self.inside.ends.ok.0)

pub offset_bounds-deref-start : goal.offset_bounds-deref-start
offset_bounds-deref-start c = let r = runs (goal.at.offset_bounds-deref-start c).After-deref in search rules

pub slice_bounds-result-count : goal.slice_bounds-result-count
slice_bounds-result-count c = (runs (goal.at.slice_bounds-result-count c).After-deref).0

pub slice_bounds-result-start : goal.slice_bounds-result-start
slice_bounds-result-start c = (runs (goal.at.slice_bounds-result-start c).After-deref).0

pub slice_bounds-result-end : goal.slice_bounds-result-end
slice_bounds-result-end c = (runs (goal.at.slice_bounds-result-end c).After-deref).1

pub returns : goal.returns
returns c =
    let at = (goal.at.returns c).After-deref in
    let g = c.self.inside in
    let within = fits (goal.at.After-deref at).After-self in
    rw (c.deref.ensures.value, start_is (goal.at.After-deref at).After-index-end, end_is (goal.at.After-deref at).After-index-end, ← c.self.view_is)
    (sym (get_or-rows_between 0 g.ends.items g.flat.items c.args.key within.0))
