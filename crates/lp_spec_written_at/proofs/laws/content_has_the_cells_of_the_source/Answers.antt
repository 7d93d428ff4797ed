use Rattle.lp_spec_written_at.proofs.Cells.{source-cells}
use Rattle.lp_spec_written_at.proofs.laws.content_has_the_cells_of_the_source.Goals as goal

pub returns : goal.returns
returns c = source-cells
