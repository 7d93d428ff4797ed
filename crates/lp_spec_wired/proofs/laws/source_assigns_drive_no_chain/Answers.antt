use Rattle.lp_spec_wired.proofs.Assigns.{source-assigns-other}
use Rattle.lp_spec_wired.proofs.laws.source_assigns_drive_no_chain.Goals as goal

pub returns : goal.returns
returns c = source-assigns-other
