use Rattle.lp_spec_ready.proofs.Few.{few_bits}
use Rattle.lp_spec_ready.proofs.laws.modules_have_few_bits.Goals as goal

pub returns : goal.returns
returns c = few_bits
