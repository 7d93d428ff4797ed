use Rattle.lp_spec_cells.proofs.RelatedPins.{shifter-output-relates}
use Rattle.lp_spec_cells.proofs.laws.shifter_output_relates.Goals as goal

pub returns : goal.returns
returns c = shifter-output-relates
