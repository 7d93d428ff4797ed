use Rattle.lp_spec_drivers.proofs.Entered.{top-apart, child-apart}
use Rattle.lp_spec_drivers.proofs.laws.inputs_are_apart.Goals as goal

pub returns-clause-top : goal.returns-clause-top
returns-clause-top c = top-apart

pub returns-clause-child : goal.returns-clause-child
returns-clause-child c = λ s m y c names is. child-apart s m y c names is
