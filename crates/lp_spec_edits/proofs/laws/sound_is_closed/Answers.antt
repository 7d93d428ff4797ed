use Rattle.lp_spec_edits.proofs.Closed.{closed}
use Rattle.lp_spec_edits.proofs.laws.sound_is_closed.Goals as goal

pub returns : goal.returns
returns c = closed
