use Rattle.lp_spec_written_at.proofs.PinsAt.{switch-read}
use Rattle.lp_spec_written_at.proofs.laws.switch_pins_are_read.Goals as goal

pub returns : goal.returns
returns c = switch-read
