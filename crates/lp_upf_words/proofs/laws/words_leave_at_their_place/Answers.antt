use Rattle.lp_upf_words.proofs.Leaving.{leaves_at}
use Rattle.lp_upf_words.proofs.laws.words_leave_at_their_place.Goals as goal

pub returns : goal.returns
returns c = leaves_at
