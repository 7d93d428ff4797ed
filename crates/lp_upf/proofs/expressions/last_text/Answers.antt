use Rattle.std.proofs.Common.{sym, ◌∙◌}
use Rattle.lp_upf.proofs.Determined.{last_at}
use Rattle.lp_upf.proofs.expressions.last_text.Goals as goal

pub returns : goal.returns
returns c = c.text.ensures ∙ last_at c.args.names.now c.args.values.now _ (sym c.is_empty.ensures ∙ c.if-is_empty.false)
