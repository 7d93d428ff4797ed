use Rattle.std.proofs.Common.{◌≡◌, drop, false}
use Rattle.lp_liberty.specs.Lexing.{word_end}
use Rattle.lp_liberty.proofs.runs.word_end.Given as goal

abbrev pub invariant-loop-at : goal.invariant-loop-at
invariant-loop-at l = word_end l.in_args l.joining l.at (drop l.at l.text) ≡ word_end l.in_args false 0 l.text
