use Rattle.lp_spec_elaborated.proofs.LaidOut.{held}
use Rattle.lp_spec_elaborated.proofs.laws.laid_out_is_held.Goals as goal

pub returns : goal.returns
returns c = held
