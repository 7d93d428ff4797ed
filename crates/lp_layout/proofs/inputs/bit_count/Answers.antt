use Rattle.lp_layout.proofs.Lists.{count_up, count_down}
use Rattle.lp_layout.proofs.inputs.bit_count.Goals as goal

pub returns-then-range : goal.returns-then-range
returns-then-range c = count_up c.in-Some.range c.args.range c.in-Some.is c.if-range.true

pub returns-else-range : goal.returns-else-range
returns-else-range c = count_down c.in-Some.range c.args.range c.in-Some.is c.if-range.false
