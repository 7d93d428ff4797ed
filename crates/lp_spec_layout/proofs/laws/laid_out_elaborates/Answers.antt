use Rattle.lp_spec_layout.proofs.Laid.{laid_elaborates}
use Rattle.lp_spec_layout.proofs.laws.laid_out_elaborates.Goals as goal

pub returns : goal.returns
returns c = λ texts s t names single d. laid_elaborates texts s t names single d
