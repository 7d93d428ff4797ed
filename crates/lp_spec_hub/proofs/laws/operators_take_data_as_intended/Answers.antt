use Rattle.lp_spec_hub.proofs.Hub.{takes}
use Rattle.lp_spec_hub.proofs.laws.operators_take_data_as_intended.Goals as goal

pub returns : goal.returns
returns c = takes
