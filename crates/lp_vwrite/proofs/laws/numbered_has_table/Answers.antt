use Rattle.lp_vwrite.proofs.Numbered.{numbered_table}
use Rattle.lp_vwrite.proofs.laws.numbered_has_table.Goals as goal

pub returns : goal.returns
returns c = λ names n apart few below. numbered_table names n apart few below
