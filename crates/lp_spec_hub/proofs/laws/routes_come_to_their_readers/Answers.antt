use Rattle.lp_spec_hub.proofs.Hub.{come}
use Rattle.lp_spec_hub.proofs.laws.routes_come_to_their_readers.Goals as goal

pub returns : goal.returns
returns c = come
