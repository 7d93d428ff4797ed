use Rattle.lp_templates.proofs.Parts.{down_part}
use Rattle.lp_templates.proofs.value.downward_part.Goals as goal

pub returns : goal.returns
returns c = down_part c.args.start c.args.range c.args.first c.args.last c.requires.order c.requires.left c.requires.parts c.requires.right
