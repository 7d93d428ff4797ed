use Rattle.lp_spec_written_at.proofs.Chosen.{is-as-chosen}
use Rattle.lp_spec_written_at.proofs.laws.cells_are_as_chosen.Goals as goal

pub returns : goal.returns
returns c = is-as-chosen
