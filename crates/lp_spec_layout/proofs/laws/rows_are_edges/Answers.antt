use Rattle.lp_spec_layout.proofs.Fed.{are_edges}
use Rattle.lp_spec_layout.proofs.laws.rows_are_edges.Goals as goal

pub returns : goal.returns
returns c = λ s t l names single sited cells. are_edges s t names single cells l sited
