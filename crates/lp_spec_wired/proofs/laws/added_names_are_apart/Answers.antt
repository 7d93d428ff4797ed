use Rattle.lp_spec_wired.proofs.Apart.{apart}
use Rattle.lp_spec_wired.proofs.laws.added_names_are_apart.Goals as goal

pub returns : goal.returns
returns c = apart
