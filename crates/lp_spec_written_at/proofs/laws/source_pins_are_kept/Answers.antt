use Rattle.lp_spec_written_at.proofs.PinsAt.{source-kept}
use Rattle.lp_spec_written_at.proofs.laws.source_pins_are_kept.Goals as goal

pub returns : goal.returns
returns c = source-kept
