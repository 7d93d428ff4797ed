use Rattle.std.proofs.Common.{◌≡◌, drop, false}
use Rattle.lp_liberty.specs.Lexing.{string_end}
use Rattle.lp_liberty.proofs.runs.string_end.Given as goal

abbrev pub invariant-loop-at : goal.invariant-loop-at
invariant-loop-at l = string_end l.escaped l.at (drop l.at l.text) ≡ string_end false 0 l.text
