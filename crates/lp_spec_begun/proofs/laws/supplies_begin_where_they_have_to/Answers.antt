use Rattle.lp_spec_begun.proofs.Supplies.{supplies-begin}
use Rattle.lp_spec_begun.proofs.laws.supplies_begin_where_they_have_to.Goals as goal

pub returns : goal.returns
returns c = supplies-begin c.wires_have_their_ends.ensures c.the_whole_plan_begins_as_intended.ensures c.operators_have_their_cells.ensures
