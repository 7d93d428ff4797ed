use Rattle.lp_spec_written_at.proofs.Targets.{targets-free}
use Rattle.lp_spec_written_at.proofs.laws.fit_targets_are_free.Goals as goal

pub returns : goal.returns
returns c = targets-free
