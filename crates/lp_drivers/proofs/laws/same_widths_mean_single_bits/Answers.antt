use Rattle.lp_drivers.proofs.Single.{single-bits}
use Rattle.lp_drivers.proofs.laws.same_widths_mean_single_bits.Goals as goal

pub returns : goal.returns
returns c = λ s even. single-bits s even
