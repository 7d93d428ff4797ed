use Rattle.lp_spec_read.proofs.Netlists.{netlists_declare}
use Rattle.lp_spec_read.proofs.laws.read_netlists_declare_their_bits.Goals as goal

pub returns : goal.returns
returns c = netlists_declare
