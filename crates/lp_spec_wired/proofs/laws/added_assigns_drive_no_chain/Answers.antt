use Rattle.lp_spec_wired.proofs.Assigns.{added-assigns}
use Rattle.lp_spec_wired.proofs.laws.added_assigns_drive_no_chain.Goals as goal

pub returns : goal.returns
returns c = added-assigns
