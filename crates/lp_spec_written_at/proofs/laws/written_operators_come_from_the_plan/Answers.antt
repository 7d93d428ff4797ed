use Rattle.lp_spec_written_at.proofs.Back.{operators-from-plan}
use Rattle.lp_spec_written_at.proofs.laws.written_operators_come_from_the_plan.Goals as goal

pub returns : goal.returns
returns c = operators-from-plan
