use Rattle.lp_spec_layout.proofs.Heights.{heights_bound, heights_reached}
use Rattle.lp_spec_layout.proofs.laws.heights_bound.Goals as goal

pub returns-clause-bound : goal.returns-clause-bound
returns-clause-bound c = λ s templates top m is has are z p w e. heights_bound s templates are z top m is has p w e

pub returns-clause-reached : goal.returns-clause-reached
returns-clause-reached c = λ s templates top m names is has are height exact. heights_reached s templates names are height exact top m is has
