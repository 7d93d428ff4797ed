use Rattle.lp_spec_cells.proofs.Outputs.{related-is}
use Rattle.lp_spec_cells.proofs.laws.related_to_its_set.Goals as goal

pub returns : goal.returns
returns c = λ w B path x cell source join st joined stands. related-is w B path x cell source join st joined stands
