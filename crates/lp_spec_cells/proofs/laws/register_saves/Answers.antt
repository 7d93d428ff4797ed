use Rattle.lp_spec_cells.proofs.Retained.{register-saves}
use Rattle.lp_spec_cells.proofs.laws.register_saves.Goals as goal

pub returns : goal.returns
returns c = register-saves
