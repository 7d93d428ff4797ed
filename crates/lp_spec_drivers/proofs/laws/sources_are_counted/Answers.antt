use Rattle.lp_spec_drivers.proofs.Sited.{sources-counted}
use Rattle.lp_spec_drivers.proofs.laws.sources_are_counted.Goals as goal

pub returns : goal.returns
returns c = λ s t l names single sited cells made k low. sources-counted s names single t cells l sited made k low
