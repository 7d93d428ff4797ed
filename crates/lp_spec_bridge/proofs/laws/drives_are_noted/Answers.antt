use Rattle.lp_spec_bridge.proofs.Noted.{all_noted, first_noted}
use Rattle.lp_spec_bridge.proofs.laws.drives_are_noted.Goals as goal

pub returns-clause-all : goal.returns-clause-all
returns-clause-all c = all_noted

pub returns-clause-first : goal.returns-clause-first
returns-clause-first c = first_noted
