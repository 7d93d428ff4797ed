use Rattle.lp_spec_written_at.proofs.PartNames.{part-names}
use Rattle.lp_spec_written_at.proofs.laws.written_part_names_differ.Goals as goal

pub returns : goal.returns
returns c = part-names
