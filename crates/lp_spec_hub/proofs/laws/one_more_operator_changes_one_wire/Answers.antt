use Rattle.lp_spec_hub.proofs.Hub.{more}
use Rattle.lp_spec_hub.proofs.laws.one_more_operator_changes_one_wire.Goals as goal

pub returns : goal.returns
returns c = more
