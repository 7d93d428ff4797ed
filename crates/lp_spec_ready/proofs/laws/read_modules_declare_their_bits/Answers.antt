use Rattle.lp_spec_ready.proofs.Declared.{declare_bits}
use Rattle.lp_spec_ready.proofs.laws.read_modules_declare_their_bits.Goals as goal

pub returns : goal.returns
returns c = declare_bits
