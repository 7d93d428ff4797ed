use Rattle.lp_spec_hub.proofs.Hub.{module_names}
use Rattle.lp_spec_hub.proofs.laws.written_modules_have_names_of_their_own.Goals as goal

pub returns : goal.returns
returns c = module_names
