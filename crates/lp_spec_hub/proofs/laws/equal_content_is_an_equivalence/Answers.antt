use Rattle.lp_spec_hub.proofs.Hub.{equivalence}
use Rattle.lp_spec_hub.proofs.laws.equal_content_is_an_equivalence.Goals as goal

pub returns : goal.returns
returns c = equivalence
