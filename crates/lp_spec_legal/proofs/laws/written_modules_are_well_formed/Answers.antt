use Rattle.lp_spec_legal.proofs.Modules.{module-formed}
use Rattle.lp_spec_legal.proofs.laws.written_modules_are_well_formed.Goals as goal

pub returns : goal.returns
returns c = module-formed
