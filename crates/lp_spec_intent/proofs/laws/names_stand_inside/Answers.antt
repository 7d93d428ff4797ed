use Rattle.lp_spec_intent.proofs.Sound.{names-stand-inside}
use Rattle.lp_spec_intent.proofs.laws.names_stand_inside.Goals as goal

pub returns : goal.returns
returns c = names-stand-inside
