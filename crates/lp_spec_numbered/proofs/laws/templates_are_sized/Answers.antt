use Rattle.lp_spec_numbered.proofs.Sized.{measured}
use Rattle.lp_spec_numbered.proofs.laws.templates_are_sized.Goals as goal

pub returns : goal.returns
returns c = λ texts n l rows order top resolved within. measured texts n l rows order top resolved within
