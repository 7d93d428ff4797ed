use Rattle.lp_spec_cells.proofs.RelatedPins.{register-relates}
use Rattle.lp_spec_cells.proofs.laws.register_relates.Goals as goal

pub returns : goal.returns
returns c = register-relates
