use Rattle.lp_spec_elaborated.proofs.LaidOut.{drives-by-pins}
use Rattle.lp_spec_elaborated.proofs.laws.laid_out_drives_by_pins.Goals as goal

pub returns : goal.returns
returns c = drives-by-pins
