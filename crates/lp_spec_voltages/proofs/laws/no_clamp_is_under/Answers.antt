use Rattle.lp_spec_voltages.proofs.Readers.{clamp-not_under}
use Rattle.lp_spec_voltages.proofs.laws.no_clamp_is_under.Goals as goal

pub returns : goal.returns
returns c = clamp-not_under
