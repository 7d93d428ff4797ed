use Rattle.std.proofs.Common.{sym, subst}
use Rattle.lp_liberty.specs.Denotes as denotes
use Rattle.lp_liberty.specs.Denotes.{RefusedAs}
use Rattle.lp_liberty.proofs.Answered.{refused_as}
use Rattle.lp_liberty.proofs.read.read_groups.Goals as goal

pub returns-then-bytes-gt-LIMIT-clause-err : goal.returns-then-bytes-gt-LIMIT-clause-err
returns-then-bytes-gt-LIMIT-clause-err c = subst (RefusedAs c.args.file c.args.bytes.now) (sym c.from.ensures) (denotes.Large c.if-bytes-gt-LIMIT.true)

pub returns-in-Err-clause-err : goal.returns-in-Err-clause-err
returns-in-Err-clause-err c = subst (RefusedAs c.args.file c.args.bytes.now) (sym c.refusal_of.ensures) (refused_as c.args.file c.args.bytes.now c.in-Err.stop c.if-bytes-gt-LIMIT.false c.in-Err.ensures.err)
