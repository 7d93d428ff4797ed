use Rattle.lp_spec_begun.proofs.Whole.{begins-as-intended}
use Rattle.lp_spec_begun.proofs.laws.everything_begins_as_intended.Goals as goal

pub returns : goal.returns
returns c =
    begins-as-intended c.pins_and_outputs_begin_where_they_have_to.ensures c.controls_begin_where_they_have_to.ensures c.supplies_begin_where_they_have_to.ensures
    c.net_bits_begin_where_they_have_to.ensures
