use Rattle.lp_liberty.proofs.Answered.{one_list}
use Rattle.lp_liberty.proofs.laws.one_list_of_groups.Goals as goal

pub returns : goal.returns
returns c = one_list
