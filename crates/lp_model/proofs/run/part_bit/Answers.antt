use Rattle.lp_model.proofs.Runs.{part-at}
use Rattle.lp_model.proofs.run.part_bit.Goals as goal

pub returns : goal.returns
returns c = part-at c.args.name c.args.first c.args.last c.args.at c.index_at.result c.index_at.ensures
