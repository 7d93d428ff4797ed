use Rattle.lp_spec_held.proofs.Begun.{begun}
use Rattle.lp_spec_held.proofs.laws.nothing_is_done_at_first.Goals as goal

pub returns : goal.returns
returns c = begun
