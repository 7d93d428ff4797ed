use Rattle.std.proofs.Common.{drop}
use Rattle.lp_connections.specs.Rows.{AreWithin}
use Rattle.lp_connections.proofs.connected.unmark_all.Given as goal

abbrev pub invariant-loop-number : goal.invariant-loop-number
invariant-loop-number l = AreWithin l.marks.items (drop l.number-index l.numbers)
