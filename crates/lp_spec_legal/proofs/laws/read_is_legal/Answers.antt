use Rattle.lp_spec_legal.proofs.Read.{read-legal}
use Rattle.lp_spec_legal.proofs.laws.read_is_legal.Goals as goal

pub returns : goal.returns
returns c = read-legal
