use Rattle.lp_spec_written_at.proofs.SourcePins.{retention-read}
use Rattle.lp_spec_written_at.proofs.laws.retention_pins_are_read.Goals as goal

pub returns : goal.returns
returns c = retention-read
