use Rattle.lp_behaviour.proofs.RegisterLaws.{never_both}
use Rattle.lp_behaviour.proofs.laws.inverse_is_complement.Goals as goal

pub returns : goal.returns
returns c cell g pins state has apart no_pin no_inverse_pin = never_both cell g pins state has apart no_pin no_inverse_pin
