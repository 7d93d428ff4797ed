use Rattle.lp_spec_begun.proofs.ControlPins.{controls-begin}
use Rattle.lp_spec_begun.proofs.laws.controls_begin_where_they_have_to.Goals as goal

pub returns : goal.returns
returns c =
    controls-begin c.routes_are_sound.ensures c.routes_come_to_their_readers.ensures c.wires_have_their_ends.ensures c.the_whole_plan_begins_as_intended.ensures
    c.operators_have_their_cells.ensures
