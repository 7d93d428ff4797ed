use Rattle.lp_spec_one_domain.proofs.Reading.{is-read}
use Rattle.lp_spec_one_domain.proofs.laws.one_domain_is_read.Goals as goal

pub returns : goal.returns
returns c = is-read
