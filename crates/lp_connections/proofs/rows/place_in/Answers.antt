use Rattle.std.proofs.Common.{sym, ap, ◌∙◌, option_copied}
use Rattle.lp_connections.proofs.Sorting.{found, other, past}
use Rattle.lp_connections.proofs.rows.place_in.Goals as goal

pub returns-then-entry-number : goal.returns-then-entry-number
returns-then-entry-number c = λ numbers row.
    sym (found c.args.entries.now numbers row c.args.number c.start_of-start.result c.start_of-start.ensures c.in-Some.entry.now (sym c.at.ensures ∙ ap option_copied c.in-Some.is) c.if-entry-number.true)

pub returns-else-entry-number : goal.returns-else-entry-number
returns-else-entry-number c = λ numbers row.
    sym (other c.args.entries.now numbers row c.args.number c.start_of-start.result c.start_of-start.ensures c.in-Some.entry.now (sym c.at.ensures ∙ ap option_copied c.in-Some.is) c.if-entry-number.false)

pub returns-in-None : goal.returns-in-None
returns-in-None c = λ numbers row.
    sym (past c.args.entries.now numbers row c.args.number c.start_of-start.result c.start_of-start.ensures (sym c.at.ensures ∙ ap option_copied c.in-None.is))
