use Rattle.lp_behaviour.proofs.Replacing.{by_bit}
use Rattle.lp_behaviour.proofs.laws.value_by_bit.Goals as goal

pub returns : goal.returns
returns c cell pins state e = by_bit cell pins state e
