use Rattle.std.proofs.Common.{◌≡◌, length}
use Rattle.lp_expr.specs.Machine.{closed_in}
use Rattle.lp_expr.proofs.reader.Reader.close.Given as goal

abbrev pub invariant-loop-part : goal.invariant-loop-part
invariant-loop-part l = closed_in l.dialect l.loosest l.self ≡ closed_in l.dialect l.loosest l.fn.self

abbrev pub decreases-loop-part : goal.decreases-loop-part
decreases-loop-part l = length l.self.waiting
