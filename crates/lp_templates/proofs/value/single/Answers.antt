use Rattle.lp_templates.proofs.Parts.{one_place}
use Rattle.lp_templates.proofs.value.single.Goals as goal

pub returns : goal.returns
returns c = one_place c.args.from
