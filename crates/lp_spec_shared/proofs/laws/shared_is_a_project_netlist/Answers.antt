use Rattle.lp_spec_shared.proofs.Written.{shared-is}
use Rattle.lp_spec_shared.proofs.laws.shared_is_a_project_netlist.Goals as goal

pub returns : goal.returns
returns c = shared-is
