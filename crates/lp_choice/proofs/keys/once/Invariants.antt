use Rattle.std.proofs.Common.{◌≡◌, ◌++◌, drop}
use Rattle.lp_spec_fit.specs.Equality.{once}
use Rattle.lp_choice.specs.Keys.{same_key}
use Rattle.lp_choice.proofs.keys.once.Given as goal

abbrev pub invariant-loop-i : goal.invariant-loop-i
invariant-loop-i l = l.kept.items ++ once same_key (drop l.i l.keys) ≡ once same_key l.keys
