use Rattle.lp_spec_cells.proofs.RelatedPins.{shifter-data-relates}
use Rattle.lp_spec_cells.proofs.laws.shifter_data_relates.Goals as goal

pub returns : goal.returns
returns c = shifter-data-relates
