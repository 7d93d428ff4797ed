use Rattle.lp_spec_written_at.proofs.CellsApart.{switches-distinct}
use Rattle.lp_spec_written_at.proofs.laws.switches_differ.Goals as goal

pub returns : goal.returns
returns c = switches-distinct
