use Rattle.lp_spec_drivers.proofs.ByModule.{two_by_module, twice_within}
use Rattle.lp_spec_drivers.proofs.laws.two_drivers_by_module.Goals as goal

pub returns-clause-first : goal.returns-clause-first
returns-clause-first c = λ s templates top m below names single is has are z low known. two_by_module s names templates are z below known top m has single is low

pub returns-clause-within : goal.returns-clause-within
returns-clause-within c = λ s templates top m below names is has are z low known k e. twice_within s names templates are z below known top m has is low k e
