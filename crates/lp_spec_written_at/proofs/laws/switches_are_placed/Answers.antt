use Rattle.lp_spec_written_at.proofs.Switches.{switch-placed}
use Rattle.lp_spec_written_at.proofs.laws.switches_are_placed.Goals as goal

pub returns : goal.returns
returns c = switch-placed
