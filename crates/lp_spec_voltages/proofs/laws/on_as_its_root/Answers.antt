use Rattle.lp_spec_voltages.proofs.Roots.{on-root}
use Rattle.lp_spec_voltages.proofs.laws.on_as_its_root.Goals as goal

pub returns : goal.returns
returns c = on-root
