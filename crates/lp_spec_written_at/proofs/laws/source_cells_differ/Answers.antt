use Rattle.lp_spec_written_at.proofs.Distinct.{source-distinct}
use Rattle.lp_spec_written_at.proofs.laws.source_cells_differ.Goals as goal

pub returns : goal.returns
returns c = source-distinct
