use Rattle.lp_spec_cells.proofs.RelatedPins.{source-relates}
use Rattle.lp_spec_cells.proofs.laws.source_relates.Goals as goal

pub returns : goal.returns
returns c = source-relates
