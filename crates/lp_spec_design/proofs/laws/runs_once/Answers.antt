use Rattle.lp_spec_settling.proofs.Runs.{runs_once}
use Rattle.lp_spec_design.specs.Registers.{states_after}
use Rattle.lp_spec_design.specs.Runs.{equation_in}
use Rattle.lp_spec_design.proofs.Runs.{settles_in_order}
use Rattle.lp_spec_design.proofs.laws.runs_once.Goals as goal

pub returns : goal.returns
returns c d last states events ordered = runs_once (equation_in d) (states_after d) (λ ev s. settles_in_order d ordered ev s.main) last states events
