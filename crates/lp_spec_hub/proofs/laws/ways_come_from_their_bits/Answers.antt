use Rattle.lp_spec_hub.proofs.Hub.{ways}
use Rattle.lp_spec_hub.proofs.laws.ways_come_from_their_bits.Goals as goal

pub returns : goal.returns
returns c = ways
