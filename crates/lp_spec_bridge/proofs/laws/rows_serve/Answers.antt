use Rattle.lp_spec_bridge.proofs.Kept.{cells_kept, pins_kept}
use Rattle.lp_spec_bridge.proofs.laws.rows_serve.Goals as goal

pub returns-clause-cells : goal.returns-clause-cells
returns-clause-cells c = cells_kept

pub returns-clause-pins : goal.returns-clause-pins
returns-clause-pins c = pins_kept
