use Rattle.lp_expr.proofs.Replacements as replacements
use Rattle.lp_expr.proofs.laws.always_zero.Goals as goal

pub returns : goal.returns
returns c e v = replacements.always_zero e v
