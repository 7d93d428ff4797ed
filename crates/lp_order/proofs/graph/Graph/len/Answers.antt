use Rattle.std.proofs.Common.{length, ap, arith}
use Rattle.lp_order.proofs.RowsLemmas.{length-rows_between}
use Rattle.lp_order.proofs.graph.Graph.len.Goals as goal

pub returns : goal.returns
returns c =
    let g = c.self.inside in
    omega (arith, length-rows_between 0 g.ends.items g.flat.items, ap length c.self.view_is, g.ends.ok.0)
