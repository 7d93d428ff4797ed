use Rattle.lp_spec_cells.proofs.RelatedPins.{clamp-relates}
use Rattle.lp_spec_cells.proofs.laws.clamp_relates.Goals as goal

pub returns : goal.returns
returns c = clamp-relates
