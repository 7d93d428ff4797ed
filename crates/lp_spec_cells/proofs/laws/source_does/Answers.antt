use Rattle.lp_spec_cells.proofs.OfSource.{source-does}
use Rattle.lp_spec_cells.proofs.laws.source_does.Goals as goal

pub returns : goal.returns
returns c = source-does
