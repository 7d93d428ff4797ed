use Rattle.lp_spec_driven.proofs.Begun.{controls-lead-out}
use Rattle.lp_spec_driven.proofs.laws.controls_lead_out.Goals as goal

pub returns : goal.returns
returns c = controls-lead-out
