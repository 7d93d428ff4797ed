use Rattle.lp_spec_numbered.proofs.Statements.{those}
use Rattle.lp_spec_numbered.proofs.laws.templates_are_those.Goals as goal

pub returns : goal.returns
returns c = λ texts n l rows sizes ok. those texts n l rows ok sizes
