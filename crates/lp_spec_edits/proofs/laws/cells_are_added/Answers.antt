use Rattle.lp_spec_edits.proofs.Joined.{cell_added}
use Rattle.lp_spec_edits.proofs.laws.cells_are_added.Goals as goal

pub returns : goal.returns
returns c = λ n h i c kind can. cell_added n h i c kind can.instance
