use Rattle.lp_spec_cells.proofs.Retained.{register-does}
use Rattle.lp_spec_cells.proofs.laws.register_does.Goals as goal

pub returns : goal.returns
returns c = register-does
