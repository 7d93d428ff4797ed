use Rattle.lp_spec_cells.proofs.Operators.{shifter-shows}
use Rattle.lp_spec_cells.proofs.laws.shifter_shows.Goals as goal

pub returns : goal.returns
returns c = shifter-shows
