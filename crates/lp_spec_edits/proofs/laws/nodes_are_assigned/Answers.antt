use Rattle.lp_spec_edits.proofs.Joined.{assigned}
use Rattle.lp_spec_edits.proofs.laws.nodes_are_assigned.Goals as goal

pub returns : goal.returns
returns c = assigned
