use Rattle.lp_spec_cells.proofs.Retained.{register-shows}
use Rattle.lp_spec_cells.proofs.laws.register_shows.Goals as goal

pub returns : goal.returns
returns c = register-shows
