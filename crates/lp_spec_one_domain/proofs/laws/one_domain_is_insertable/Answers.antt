use Rattle.lp_spec_one_domain.proofs.Lines.{insertable}
use Rattle.lp_spec_one_domain.proofs.laws.one_domain_is_insertable.Goals as goal

pub returns : goal.returns
returns c = insertable
