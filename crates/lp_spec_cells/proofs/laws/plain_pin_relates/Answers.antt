use Rattle.lp_spec_cells.proofs.RelatedPins.{plain-pin-relates}
use Rattle.lp_spec_cells.proofs.laws.plain_pin_relates.Goals as goal

pub returns : goal.returns
returns c = plain-pin-relates
