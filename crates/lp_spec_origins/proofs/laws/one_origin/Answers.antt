use Rattle.lp_spec_origins.proofs.OneOrigin.{one-origin}
use Rattle.lp_spec_origins.proofs.laws.one_origin.Goals as goal

pub returns : goal.returns
returns c = one-origin
