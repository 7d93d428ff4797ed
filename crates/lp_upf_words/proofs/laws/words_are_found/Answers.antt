use Rattle.lp_upf_words.proofs.Once.{each}
use Rattle.lp_upf_words.proofs.laws.words_are_found.Goals as goal

pub returns : goal.returns
returns c = each
