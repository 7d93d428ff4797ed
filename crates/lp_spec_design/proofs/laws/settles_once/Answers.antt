use Rattle.lp_spec_design.proofs.Runs.{settles_in_order}
use Rattle.lp_spec_design.proofs.laws.settles_once.Goals as goal

pub returns : goal.returns
returns c d ev regs ordered = settles_in_order d ordered ev regs
