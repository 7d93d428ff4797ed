use Rattle.lp_spec_cells.proofs.LooksAtPins.{registers-hold-state}
use Rattle.lp_spec_cells.proofs.laws.registers_hold_state.Goals as goal

pub returns : goal.returns
returns c = registers-hold-state
