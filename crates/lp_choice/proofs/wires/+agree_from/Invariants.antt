use Rattle.std.proofs.Common.{◌-◌}
use Rattle.lp_choice.proofs.wires.+agree_from.Given as goal

abbrev pub decreases-agree_from : goal.decreases-agree_from
decreases-agree_from l = l.n - l.set
