use Rattle.lp_spec_legal.proofs.Modules.{written-formed}
use Rattle.lp_spec_legal.proofs.laws.written_is_well_formed.Goals as goal

pub returns : goal.returns
returns c = written-formed
