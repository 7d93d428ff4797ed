use Rattle.lp_spec_written_at.proofs.ControlNames.{switch-bits}
use Rattle.lp_spec_written_at.proofs.laws.switch_controls_are_net_bits.Goals as goal

pub returns : goal.returns
returns c = switch-bits
