use Rattle.lp_spec_written_at.proofs.CellsApart.{cells-whole}
use Rattle.lp_spec_written_at.proofs.laws.content_has_all_its_cells.Goals as goal

pub returns : goal.returns
returns c = cells-whole
