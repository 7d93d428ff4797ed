use Rattle.lp_spec_voltages.proofs.Readers.{output-not_under}
use Rattle.lp_spec_voltages.proofs.laws.no_output_is_under.Goals as goal

pub returns : goal.returns
returns c = output-not_under
