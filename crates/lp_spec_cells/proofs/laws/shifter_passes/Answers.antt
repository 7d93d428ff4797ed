use Rattle.lp_spec_cells.proofs.Shifters.{shifter-passes}
use Rattle.lp_spec_cells.proofs.laws.shifter_passes.Goals as goal

pub returns : goal.returns
returns c = shifter-passes
