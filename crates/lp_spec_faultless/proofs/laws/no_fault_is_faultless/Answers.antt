use Rattle.lp_spec_faultless.proofs.Whole.{no_fault_is_faultless}
use Rattle.lp_spec_faultless.proofs.laws.no_fault_is_faultless.Goals as goal

pub returns : goal.returns
returns c = no_fault_is_faultless
