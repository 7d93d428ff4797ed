use Rattle.lp_expr.proofs.TableLemmas.{IsMade}
use Rattle.lp_expr.proofs.table.table_of.Given as goal

abbrev pub invariant-loop-number : goal.invariant-loop-number
invariant-loop-number l = IsMade l.table.items l.count l.steps l.number
