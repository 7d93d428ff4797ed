use Rattle.lp_behaviour.proofs.RegisterLaws.{cleared}
use Rattle.lp_behaviour.proofs.laws.cleared_is_zero.Goals as goal

pub returns : goal.returns
returns c cell g last now q has clear preset = cleared cell g last now q has clear preset
