use Rattle.std.proofs.Common.{◌≡◌, drop}
use Rattle.lp_liberty.specs.Lexing.{gap_start, skip}
use Rattle.lp_liberty.proofs.gap.skip.Given as goal

abbrev pub invariant-loop-at : goal.invariant-loop-at
invariant-loop-at l = skip l.lines l.gap l.at (drop l.at l.text) ≡ skip l.lines gap_start 0 l.text
