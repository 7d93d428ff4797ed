use Rattle.std.proofs.Common.{refl}
use Rattle.lp_upf.proofs.fault.Faults.joined.Goals as goal

pub returns-then-self-clause-value : goal.returns-then-self-clause-value
returns-then-self-clause-value c = λ names. rw (c.earlier.ensures.value names, c.if-self.true) refl

pub returns-else-self-clause-value : goal.returns-else-self-clause-value
returns-else-self-clause-value c = λ names. rw (c.earlier.ensures.value names, c.if-self.false) refl
