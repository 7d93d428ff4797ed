use Rattle.lp_spec_realises.proofs.Places.{across-and-back}
use Rattle.lp_spec_realises.proofs.laws.bits_go_by_place.Goals as goal

pub returns : goal.returns
returns c s w n a b ports i is = across-and-back s w n a b ports.first_port ports.second_port ports.width i is
