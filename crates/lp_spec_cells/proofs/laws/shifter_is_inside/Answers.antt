use Rattle.lp_spec_cells.proofs.LooksAtPins.{shifter-is-inside}
use Rattle.lp_spec_cells.proofs.laws.shifter_is_inside.Goals as goal

pub returns : goal.returns
returns c = shifter-is-inside
