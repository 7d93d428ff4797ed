use Rattle.lp_spec_written_at.proofs.PinsAt.{pins-written}
use Rattle.lp_spec_written_at.proofs.laws.pins_are_written.Goals as goal

pub returns : goal.returns
returns c = pins-written
