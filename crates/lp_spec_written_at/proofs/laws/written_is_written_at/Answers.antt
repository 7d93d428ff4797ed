use Rattle.lp_spec_written_at.proofs.laws.written_is_written_at.Goals as goal
use Rattle.lp_spec_written_at.proofs.Modules.{written_at}

pub returns : goal.returns
returns c = written_at
