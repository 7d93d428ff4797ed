use Rattle.lp_spec_written_at.proofs.ControlNames.{named-bits}
use Rattle.lp_spec_written_at.proofs.laws.control_names_are_net_bits.Goals as goal

pub returns : goal.returns
returns c = named-bits
