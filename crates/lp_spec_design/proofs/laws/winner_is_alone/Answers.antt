use Rattle.lp_spec_design.specs.Winners.{applying, rank}
use Rattle.lp_spec_design.proofs.DesignLaws.{winner_alone}
use Rattle.lp_spec_design.proofs.laws.winner_is_alone.Goals as goal

pub returns : goal.returns
returns c n i kind side crossing x y e among same = winner_alone (rank crossing.bit) (applying n i kind side crossing) x y e among same
