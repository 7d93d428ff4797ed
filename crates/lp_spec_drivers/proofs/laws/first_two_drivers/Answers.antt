use Rattle.lp_spec_drivers.proofs.Sited.{first-two}
use Rattle.lp_spec_drivers.proofs.laws.first_two_drivers.Goals as goal

pub returns : goal.returns
returns c = λ s t l names single sited cells made. first-two s names l sited single t cells made
