use Rattle.lp_spec_layout.proofs.Walked.{leaf_rows_are}
use Rattle.lp_spec_layout.proofs.laws.leaf_rows_stand.Goals as goal

pub returns : goal.returns
returns c = λ s t templates top m name names is has are z low leaves pins. leaf_rows_are s names templates are z top m is has t name low leaves pins
