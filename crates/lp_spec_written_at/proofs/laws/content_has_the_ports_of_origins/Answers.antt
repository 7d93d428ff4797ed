use Rattle.lp_spec_written_at.proofs.Netlists.{has-origins}
use Rattle.lp_spec_written_at.proofs.laws.content_has_the_ports_of_origins.Goals as goal

pub returns : goal.returns
returns c = has-origins
