use Rattle.lp_spec_cells.proofs.RelatedPins.{switch-pin-relates}
use Rattle.lp_spec_cells.proofs.laws.switch_pin_relates.Goals as goal

pub returns : goal.returns
returns c = switch-pin-relates
