use Rattle.lp_spec_cells.proofs.LooksAtPins.{added-hold-no-state}
use Rattle.lp_spec_cells.proofs.laws.added_hold_no_state.Goals as goal

pub returns : goal.returns
returns c = added-hold-no-state
