use Rattle.lp_spec_intended.proofs.Whole.{networks-made}
use Rattle.lp_spec_intended.proofs.laws.texts_make_networks.Goals as goal

pub returns : goal.returns
returns c = networks-made
