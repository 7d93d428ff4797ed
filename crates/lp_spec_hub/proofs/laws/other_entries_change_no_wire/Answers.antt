use Rattle.lp_spec_hub.proofs.Hub.{others}
use Rattle.lp_spec_hub.proofs.laws.other_entries_change_no_wire.Goals as goal

pub returns : goal.returns
returns c = others
