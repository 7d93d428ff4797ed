use Rattle.lp_spec_written_at.proofs.PinsAt.{connection-read}
use Rattle.lp_spec_written_at.proofs.laws.connections_are_read.Goals as goal

pub returns : goal.returns
returns c = connection-read
