use Rattle.lp_spec_legal.proofs.Whole.{shared-back}
use Rattle.lp_spec_legal.proofs.laws.shared_reads_back.Goals as goal

pub returns : goal.returns
returns c = shared-back
