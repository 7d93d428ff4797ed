use Rattle.lp_behaviour.proofs.RegisterLaws.{still_flop}
use Rattle.lp_behaviour.proofs.laws.still_flop_keeps.Goals as goal

pub returns : goal.returns
returns c cell g last now q bit has flop before after clear preset = still_flop cell g last now q bit has flop before after clear preset
