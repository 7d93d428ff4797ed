use Rattle.std.proofs.Common.{refl}
use Rattle.lp_spec_design.proofs.laws.same_registers_as_themselves.Goals as goal

pub returns : goal.returns
returns c d states = record { main = λ p x is. refl; saved = λ p x is. refl }
