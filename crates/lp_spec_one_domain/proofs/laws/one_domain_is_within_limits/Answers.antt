use Rattle.lp_spec_one_domain.proofs.Limits.{within}
use Rattle.lp_spec_one_domain.proofs.laws.one_domain_is_within_limits.Goals as goal

pub returns : goal.returns
returns c = within
