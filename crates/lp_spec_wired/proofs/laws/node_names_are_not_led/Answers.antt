use Rattle.lp_spec_wired.proofs.Bits.{node-names-not-led}
use Rattle.lp_spec_wired.proofs.laws.node_names_are_not_led.Goals as goal

pub returns : goal.returns
returns c = node-names-not-led
