use Rattle.std.proofs.Common.{refl}
use Rattle.lp_behaviour.proofs.laws.idle_restore_leaves.Goals as goal

pub returns : goal.returns
returns c action last now v without idle = rw idle refl
