use Rattle.lp_spec_cells.proofs.Clamps.{clamp-gives}
use Rattle.lp_spec_cells.proofs.laws.clamp_gives.Goals as goal

pub returns : goal.returns
returns c = clamp-gives
