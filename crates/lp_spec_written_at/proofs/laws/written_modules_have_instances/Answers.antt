use Rattle.lp_spec_written_at.proofs.Modules.{written-reached}
use Rattle.lp_spec_written_at.proofs.laws.written_modules_have_instances.Goals as goal

pub returns : goal.returns
returns c = written-reached
