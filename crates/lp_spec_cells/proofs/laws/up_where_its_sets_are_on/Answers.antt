use Rattle.lp_spec_cells.proofs.PoweredUp.{up_where_on}
use Rattle.lp_spec_cells.proofs.laws.up_where_its_sets_are_on.Goals as goal

pub returns : goal.returns
returns c = up_where_on
