use Rattle.lp_spec_written_at.proofs.SourceCells.{sources-stand, registers-chosen}
use Rattle.lp_spec_written_at.proofs.laws.source_cells_stand.Goals as goal

pub returns : goal.returns
returns c = λ p l w f apart cells is. (sources-stand p l w f apart cells is, registers-chosen p l w f apart cells is)
