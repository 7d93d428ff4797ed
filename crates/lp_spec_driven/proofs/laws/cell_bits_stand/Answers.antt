use Rattle.lp_spec_driven.proofs.Have.{cell-bits-stand}
use Rattle.lp_spec_driven.proofs.laws.cell_bits_stand.Goals as goal

pub returns : goal.returns
returns c = cell-bits-stand
