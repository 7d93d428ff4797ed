use Rattle.lp_spec_fit.proofs.Chosen.{none_fits}
use Rattle.lp_spec_fit.proofs.laws.no_choice_no_cell.Goals as goal

pub returns : goal.returns
returns c = none_fits
