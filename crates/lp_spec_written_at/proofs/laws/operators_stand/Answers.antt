use Rattle.lp_spec_written_at.proofs.Stands.{operators-stand, operators-chosen}
use Rattle.lp_spec_written_at.proofs.laws.operators_stand.Goals as goal

pub returns : goal.returns
returns c = λ p l w f apart ways cells is few. (operators-stand p l w f apart ways cells is few, operators-chosen p l w f apart ways cells is few)
