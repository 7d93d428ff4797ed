use Rattle.lp_spec_wired.proofs.Tops.{top-inputs-come-in}
use Rattle.lp_spec_wired.proofs.laws.top_inputs_come_in.Goals as goal

pub returns : goal.returns
returns c = top-inputs-come-in
