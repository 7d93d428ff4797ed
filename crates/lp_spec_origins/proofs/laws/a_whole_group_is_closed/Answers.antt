use Rattle.lp_spec_origins.proofs.WholeGroups.{whole-closed}
use Rattle.lp_spec_origins.proofs.laws.a_whole_group_is_closed.Goals as goal

pub returns : goal.returns
returns c = whole-closed
