use Rattle.lp_spec_intended.proofs.Whole.{given}
use Rattle.lp_spec_intended.proofs.laws.texts_give_projects.Goals as goal

pub returns : goal.returns
returns c = given
