use Rattle.lp_spec_read.proofs.Cells.{names_differ}
use Rattle.lp_spec_read.proofs.laws.read_cell_names_differ.Goals as goal

pub returns : goal.returns
returns c = names_differ
