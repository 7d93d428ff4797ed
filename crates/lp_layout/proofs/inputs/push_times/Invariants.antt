use Rattle.std.proofs.Common.{◌≡◌, ◌++◌, ◌-◌}
use Rattle.lp_layout.specs.Inputs.{times}
use Rattle.lp_layout.proofs.inputs.push_times.Given as goal

abbrev pub invariant-loop-k : goal.invariant-loop-k
invariant-loop-k l = l.inputs.items ++ times l.is_input (l.count - l.k) ≡ l.fn.inputs.items ++ times l.is_input l.count
