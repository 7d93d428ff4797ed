use Rattle.lp_spec_realises.proofs.Ports.{state_at_port}
use Rattle.lp_spec_realises.proofs.laws.origins_come_in_at_their_ports.Goals as goal

pub returns : goal.returns
returns c p w event apart o is = state_at_port p apart o is w event
