use Rattle.lp_fault_text.proofs.Leading.{path_leads}
use Rattle.lp_fault_text.proofs.laws.paths_lead_from_the_top.Goals as goal

pub returns : goal.returns
returns c = path_leads
