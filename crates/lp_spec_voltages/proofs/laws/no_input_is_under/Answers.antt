use Rattle.lp_spec_voltages.proofs.Readers.{input-not_under}
use Rattle.lp_spec_voltages.proofs.laws.no_input_is_under.Goals as goal

pub returns : goal.returns
returns c = input-not_under
