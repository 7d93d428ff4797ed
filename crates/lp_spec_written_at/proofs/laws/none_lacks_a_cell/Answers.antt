use Rattle.lp_spec_written_at.proofs.NoLack.{cells-are-there}
use Rattle.lp_spec_written_at.proofs.laws.none_lacks_a_cell.Goals as goal

pub returns : goal.returns
returns c = cells-are-there
