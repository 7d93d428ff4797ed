use Rattle.lp_spec_voltages.proofs.Shifters.{never-unfit}
use Rattle.lp_spec_voltages.proofs.laws.shifters_are_never_unfit.Goals as goal

pub returns : goal.returns
returns c = never-unfit
