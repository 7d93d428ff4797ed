use Rattle.lp_behaviour.proofs.RegisterLaws.{disabled_latch}
use Rattle.lp_behaviour.proofs.laws.disabled_latch_keeps.Goals as goal

pub returns : goal.returns
returns c cell g last now q has latch disabled clear preset = disabled_latch cell g last now q has latch disabled clear preset
