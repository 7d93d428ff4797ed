use Rattle.lp_attributes.proofs.Reading.{some_kept, kept_some, none_kept}
use Rattle.lp_attributes.proofs.laws.expressions_are_read.Goals as goal

pub returns-clause-some : goal.returns-clause-some
returns-clause-some c = some_kept

pub returns-clause-found : goal.returns-clause-found
returns-clause-found c = kept_some

pub returns-clause-none : goal.returns-clause-none
returns-clause-none c = none_kept
