use Rattle.lp_spec_written_at.proofs.PartNames.{written-names}
use Rattle.lp_spec_written_at.proofs.laws.written_names_differ.Goals as goal

pub returns : goal.returns
returns c = written-names
