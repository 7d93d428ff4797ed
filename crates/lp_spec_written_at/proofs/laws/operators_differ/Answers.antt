use Rattle.lp_spec_written_at.proofs.OperatorsApart.{operators-distinct}
use Rattle.lp_spec_written_at.proofs.laws.operators_differ.Goals as goal

pub returns : goal.returns
returns c = operators-distinct
