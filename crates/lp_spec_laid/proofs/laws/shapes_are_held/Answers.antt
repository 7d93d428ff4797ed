use Rattle.lp_spec_laid.proofs.Laid.{held_tables}
use Rattle.lp_spec_laid.proofs.laws.shapes_are_held.Goals as goal

pub returns : goal.returns
returns c = held_tables
