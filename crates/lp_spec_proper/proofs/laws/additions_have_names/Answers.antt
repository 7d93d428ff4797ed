use Rattle.lp_spec_proper.proofs.Named.{names-law}
use Rattle.lp_spec_proper.proofs.laws.additions_have_names.Goals as goal

pub returns : goal.returns
returns c = names-law c.ways_stand_apart.ensures
