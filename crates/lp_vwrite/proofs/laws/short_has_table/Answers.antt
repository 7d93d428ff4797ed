use Rattle.lp_vwrite.proofs.ReadBack.{short_table}
use Rattle.lp_vwrite.proofs.laws.short_has_table.Goals as goal

pub returns : goal.returns
returns c = λ v short. short_table v short
