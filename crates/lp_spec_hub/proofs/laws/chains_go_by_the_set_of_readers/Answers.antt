use Rattle.lp_spec_hub.proofs.Hub.{by_readers}
use Rattle.lp_spec_hub.proofs.laws.chains_go_by_the_set_of_readers.Goals as goal

pub returns : goal.returns
returns c = by_readers
