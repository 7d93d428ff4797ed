use Rattle.lp_spec_one_domain.proofs.Whole.{implements}
use Rattle.lp_spec_one_domain.proofs.laws.one_domain_implements.Goals as goal

pub returns : goal.returns
returns c = implements c.read_sources.ensures c.one_domain_is_read.ensures c.one_domain_is_insertable.ensures c.one_domain_is_within_limits.ensures c.shared_implements.ensures
