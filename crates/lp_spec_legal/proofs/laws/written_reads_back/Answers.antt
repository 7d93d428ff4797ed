use Rattle.lp_spec_legal.proofs.Whole.{written-back}
use Rattle.lp_spec_legal.proofs.laws.written_reads_back.Goals as goal

pub returns : goal.returns
returns c = written-back
