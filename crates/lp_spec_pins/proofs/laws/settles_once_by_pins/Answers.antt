use Rattle.lp_spec_pins.proofs.Runs.{settles_in_order}
use Rattle.lp_spec_pins.proofs.laws.settles_once_by_pins.Goals as goal

pub returns : goal.returns
returns c w ev regs ordered = settles_in_order w ordered ev regs
