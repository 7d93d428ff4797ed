use Rattle.lp_spec_driven.proofs.Come.{output-bits-stand}
use Rattle.lp_spec_driven.proofs.laws.output_bits_stand.Goals as goal

pub returns : goal.returns
returns c = output-bits-stand
