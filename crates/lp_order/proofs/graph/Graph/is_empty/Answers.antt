use Rattle.std.proofs.Common.{◌≡◌, length, vec_len, ap, arith}
use Rattle.lp_order.proofs.RowsLemmas.{length-rows_between}
use Rattle.lp_order.proofs.graph.Graph.is_empty.Goals as goal

pub returns : goal.returns
returns c =
    let g = c.self.inside in
    let same : length c.args.self.now ≡ vec_len g.ends = omega (arith, length-rows_between 0 g.ends.items g.flat.items, ap length c.self.view_is, g.ends.ok.0) in
    rw same c.is_empty.ensures
