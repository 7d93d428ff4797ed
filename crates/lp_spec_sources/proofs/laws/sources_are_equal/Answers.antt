use Rattle.lp_spec_sources.proofs.Equal.{sources-equal}
use Rattle.lp_spec_sources.proofs.laws.sources_are_equal.Goals as goal

pub returns : goal.returns
returns c = sources-equal c.chain_nets_have_no_ports.ensures
