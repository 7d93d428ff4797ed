use Rattle.std.proofs.Common.{◌≡◌, min, take}
use Rattle.lp_text.specs.Micros.{decimal}
use Rattle.lp_text.proofs.decimal.whole_units.Given as goal

abbrev pub invariant-loop-digit : goal.invariant-loop-digit
invariant-loop-digit l = l.units ≡ min (decimal (take l.digit-index l.digits)) 1000001
