use Rattle.lp_spec_driven.proofs.SourceCells.{source-cells-give}
use Rattle.lp_spec_driven.proofs.laws.source_cells_give.Goals as goal

pub returns : goal.returns
returns c = source-cells-give
