use Rattle.lp_spec_written_at.proofs.SupplyNames.{ports-apart}
use Rattle.lp_spec_written_at.proofs.laws.origins_are_apart.Goals as goal

pub returns : goal.returns
returns c = ports-apart
