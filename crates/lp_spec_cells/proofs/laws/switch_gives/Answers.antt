use Rattle.lp_spec_cells.proofs.Switches.{switch-gives}
use Rattle.lp_spec_cells.proofs.laws.switch_gives.Goals as goal

pub returns : goal.returns
returns c = switch-gives
