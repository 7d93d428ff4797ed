use Rattle.lp_spec_written_at.proofs.NoOthers.{no-others}
use Rattle.lp_spec_written_at.proofs.laws.content_has_no_other_cells.Goals as goal

pub returns : goal.returns
returns c = no-others
