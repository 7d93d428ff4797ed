use Rattle.lp_spec_sources.proofs.Names.{own-names}
use Rattle.lp_spec_sources.proofs.laws.content_has_own_names.Goals as goal

pub returns : goal.returns
returns c = own-names
