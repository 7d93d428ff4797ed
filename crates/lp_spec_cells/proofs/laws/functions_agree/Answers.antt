use Rattle.lp_spec_cells.proofs.Functions.{agree}
use Rattle.lp_spec_cells.proofs.laws.functions_agree.Goals as goal

pub returns : goal.returns
returns c = agree
