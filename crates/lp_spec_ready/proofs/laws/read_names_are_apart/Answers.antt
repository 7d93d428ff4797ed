use Rattle.lp_spec_ready.proofs.Declared.{names_apart}
use Rattle.lp_spec_ready.proofs.laws.read_names_are_apart.Goals as goal

pub returns : goal.returns
returns c = names_apart
