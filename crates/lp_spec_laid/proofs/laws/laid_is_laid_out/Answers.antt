use Rattle.lp_spec_laid.proofs.Laid.{laid_out}
use Rattle.lp_spec_laid.proofs.laws.laid_is_laid_out.Goals as goal

pub returns : goal.returns
returns c = λ texts n l templates top ready exact. laid_out texts n l templates top ready exact
