use Rattle.lp_spec_faults.proofs.Combinations.{combines-from, combination-of}
use Rattle.lp_spec_faults.proofs.laws.a_row_has_a_combination.Goals as goal

pub returns : goal.returns
returns c = λ s row network. (λ passed. combination-of s network row passed, λ found. combines-from s network row found.0 found.1)
