use Rattle.lp_spec_written_at.proofs.SupplyNames.{supply-names}
use Rattle.lp_spec_written_at.proofs.laws.supply_names_differ.Goals as goal

pub returns : goal.returns
returns c = supply-names
