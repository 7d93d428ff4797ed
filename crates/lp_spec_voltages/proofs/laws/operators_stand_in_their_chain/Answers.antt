use Rattle.lp_spec_voltages.proofs.Chains.{parts-chain}
use Rattle.lp_spec_voltages.proofs.laws.operators_stand_in_their_chain.Goals as goal

pub returns : goal.returns
returns c = parts-chain
