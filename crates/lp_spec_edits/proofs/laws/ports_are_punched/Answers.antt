use Rattle.lp_spec_edits.proofs.Joined.{punched_in, punched_out}
use Rattle.lp_spec_edits.proofs.laws.ports_are_punched.Goals as goal

pub returns-clause-inputs : goal.returns-clause-inputs
returns-clause-inputs c = λ n h i outer kind can. punched_in n h i kind outer can

pub returns-clause-outputs : goal.returns-clause-outputs
returns-clause-outputs c = λ n h i outer kind can none. punched_out n h i kind outer can none
