use Rattle.lp_spec_cells.proofs.OfSource.{source-shows}
use Rattle.lp_spec_cells.proofs.laws.source_shows.Goals as goal

pub returns : goal.returns
returns c = source-shows
