use Rattle.lp_spec_written_at.proofs.Stands.{switches-stand, switches-chosen}
use Rattle.lp_spec_written_at.proofs.laws.switches_stand.Goals as goal

pub returns : goal.returns
returns c = λ p l w f apart cells is few. (switches-stand p l cells w f apart is few, switches-chosen p l cells w f apart is few)
