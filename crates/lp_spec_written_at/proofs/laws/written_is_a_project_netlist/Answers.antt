use Rattle.lp_spec_written_at.proofs.Projects.{written-is}
use Rattle.lp_spec_written_at.proofs.laws.written_is_a_project_netlist.Goals as goal

pub returns : goal.returns
returns c = written-is
