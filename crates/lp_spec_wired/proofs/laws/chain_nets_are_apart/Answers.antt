use Rattle.lp_spec_wired.proofs.Intervals.{nets-apart}
use Rattle.lp_spec_wired.proofs.laws.chain_nets_are_apart.Goals as goal

pub returns : goal.returns
returns c = nets-apart
