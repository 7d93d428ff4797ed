use Rattle.lp_spec_written_at.proofs.CellsApart.{expected-distinct}
use Rattle.lp_spec_written_at.proofs.laws.expected_cells_differ.Goals as goal

pub returns : goal.returns
returns c = expected-distinct
