use Rattle.lp_templates.proofs.Parts.{up_part}
use Rattle.lp_templates.proofs.value.upward_part.Goals as goal

pub returns : goal.returns
returns c = up_part c.args.start c.args.range c.args.first c.args.last c.requires.order c.requires.left c.requires.parts c.requires.right
