use Rattle.lp_spec_bridge.proofs.Kept.{represents_kept}
use Rattle.lp_spec_bridge.proofs.laws.kept_tables_represent.Goals as goal

pub returns : goal.returns
returns c = represents_kept
