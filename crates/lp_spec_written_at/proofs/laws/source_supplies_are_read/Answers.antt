use Rattle.lp_spec_written_at.proofs.SourcePins.{supplies-read}
use Rattle.lp_spec_written_at.proofs.laws.source_supplies_are_read.Goals as goal

pub returns : goal.returns
returns c = supplies-read
