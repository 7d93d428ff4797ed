use Rattle.lp_spec_exact.proofs.Exact.{exact}
use Rattle.lp_spec_exact.proofs.laws.numbers_are_held.Goals as goal

pub returns : goal.returns
returns c = λ texts n l rows order top templates d r. exact texts n l rows order top templates d r
