use Rattle.lp_spec_upf.proofs.Once.{elements-denoted}
use Rattle.lp_spec_upf.proofs.laws.elements_are_denoted.Goals as goal

pub returns : goal.returns
returns c = elements-denoted
