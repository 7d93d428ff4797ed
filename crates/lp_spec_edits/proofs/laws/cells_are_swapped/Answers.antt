use Rattle.lp_spec_edits.proofs.Swapped.{swapped}
use Rattle.lp_spec_edits.proofs.laws.cells_are_swapped.Goals as goal

pub returns : goal.returns
returns c = λ n h l d can. swapped n h l d can.leaf can.old can.new can.twins can.open_
