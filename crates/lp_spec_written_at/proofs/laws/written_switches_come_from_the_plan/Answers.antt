use Rattle.lp_spec_written_at.proofs.BackSwitches.{switches-from-plan}
use Rattle.lp_spec_written_at.proofs.laws.written_switches_come_from_the_plan.Goals as goal

pub returns : goal.returns
returns c = switches-from-plan
