use Rattle.lp_spec_bridge.proofs.Named.{elaborates_kept}
use Rattle.lp_spec_bridge.proofs.laws.kept_tables_elaborate.Goals as goal

pub returns : goal.returns
returns c = elaborates_kept
