use Rattle.lp_spec_written_at.proofs.PinsAt.{operator-read}
use Rattle.lp_spec_written_at.proofs.laws.operator_pins_are_read.Goals as goal

pub returns : goal.returns
returns c = operator-read
