use Rattle.lp_spec_written_at.proofs.ModuleNames.{module-names}
use Rattle.lp_spec_written_at.proofs.laws.written_module_names_differ.Goals as goal

pub returns : goal.returns
returns c = module-names
