use Rattle.lp_spec_bridge.proofs.Tops.{all_read}
use Rattle.lp_spec_bridge.proofs.laws.readers_by_number.Goals as goal

pub returns : goal.returns
returns c = all_read
