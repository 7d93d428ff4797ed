use Rattle.lp_upf_words.proofs.Once.{once}
use Rattle.lp_upf_words.proofs.laws.one_list_of_words.Goals as goal

pub returns : goal.returns
returns c = once
