use Rattle.lp_spec_written_at.proofs.Projects.{content-is}
use Rattle.lp_spec_written_at.proofs.laws.content_is_a_project_netlist.Goals as goal

pub returns : goal.returns
returns c = content-is
