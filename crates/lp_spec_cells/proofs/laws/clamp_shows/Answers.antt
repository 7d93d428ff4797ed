use Rattle.lp_spec_cells.proofs.Operators.{clamp-shows}
use Rattle.lp_spec_cells.proofs.laws.clamp_shows.Goals as goal

pub returns : goal.returns
returns c = clamp-shows
