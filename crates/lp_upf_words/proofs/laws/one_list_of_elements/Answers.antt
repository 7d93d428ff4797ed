use Rattle.lp_upf_words.proofs.Content.{come_back}
use Rattle.lp_upf_words.proofs.Modest.{elements_short}
use Rattle.lp_upf_words.proofs.Once.{each_list, once_list}
use Rattle.lp_upf_words.proofs.laws.one_list_of_elements.Goals as goal

pub returns-clause-found : goal.returns-clause-found
returns-clause-found c = each_list

pub returns-clause-once : goal.returns-clause-once
returns-clause-once c = once_list

pub returns-clause-bytes : goal.returns-clause-bytes
returns-clause-bytes c = come_back

pub returns-clause-short : goal.returns-clause-short
returns-clause-short c = elements_short
