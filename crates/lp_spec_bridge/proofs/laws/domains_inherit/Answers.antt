use Rattle.lp_spec_bridge.proofs.Inherited.{domains_inherit}
use Rattle.lp_spec_bridge.proofs.laws.domains_inherit.Goals as goal

pub returns : goal.returns
returns c = domains_inherit
