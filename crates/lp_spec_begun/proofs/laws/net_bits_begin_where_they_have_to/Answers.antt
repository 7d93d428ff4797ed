use Rattle.lp_spec_begun.proofs.Bits.{bits_begin_there}
use Rattle.lp_spec_begun.proofs.laws.net_bits_begin_where_they_have_to.Goals as goal

pub returns : goal.returns
returns c = bits_begin_there c.wires_have_their_ends.ensures c.the_whole_plan_begins_as_intended.ensures
