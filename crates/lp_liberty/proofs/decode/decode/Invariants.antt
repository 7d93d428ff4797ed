use Rattle.std.proofs.Common.{◌≡◌, ◌++◌, drop}
use Rattle.std.specs.String.{string_bytes}
use Rattle.lp_liberty.specs.Lexing.{characters, said, name_of}
use Rattle.lp_liberty.proofs.decode.decode.Given as goal

abbrev pub invariant-loop-at : goal.invariant-loop-at
invariant-loop-at l = string_bytes l.name ++ characters (said l.joining (drop l.at l.text)) ≡ name_of l.text
