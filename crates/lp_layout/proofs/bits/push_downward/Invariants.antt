use Rattle.std.proofs.Common.{◌≡◌, ◌++◌, ◌-◌}
use Rattle.lp_spec_design.specs.Netlists.{downward}
use Rattle.lp_layout.specs.Nodes.{bits_named}
use Rattle.lp_layout.proofs.bits.push_downward.Given as goal

abbrev pub invariant-loop-k : goal.invariant-loop-k
invariant-loop-k l = l.nodes ++ bits_named l.inst l.name (downward (l.count - l.k) (l.range.left - l.k)) ≡ l.fn.nodes ++ bits_named l.inst l.name (downward l.count l.range.left)
