use Rattle.lp_spec_written_at.proofs.JoinedBits.{declares-by-test}
use Rattle.lp_spec_written_at.proofs.laws.declared_bits_pass_the_test.Goals as goal

pub returns : goal.returns
returns c = declares-by-test
