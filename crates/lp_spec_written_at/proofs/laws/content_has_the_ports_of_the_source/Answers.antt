use Rattle.lp_spec_written_at.proofs.Netlists.{has-ports}
use Rattle.lp_spec_written_at.proofs.laws.content_has_the_ports_of_the_source.Goals as goal

pub returns : goal.returns
returns c = has-ports
