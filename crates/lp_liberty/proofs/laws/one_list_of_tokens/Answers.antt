use Rattle.std.proofs.Common.{length, arith}
use Rattle.lp_liberty.specs.declared.mark.Context.TheVariants as contexts
use Rattle.lp_liberty.proofs.Standing.{found_tokens, one_listing}
use Rattle.lp_liberty.proofs.laws.one_list_of_tokens.Goals as goal

pub returns-clause-found : goal.returns-clause-found
returns-clause-found c = λ text. found_tokens (length text) contexts.Statement 0 text (omega arith)

pub returns-clause-once : goal.returns-clause-once
returns-clause-once c = λ text a b x y. one_listing contexts.Statement 0 text a b x y
