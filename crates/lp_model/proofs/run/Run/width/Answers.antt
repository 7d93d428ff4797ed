use Rattle.std.proofs.Common.{arith}
use Rattle.lp_model.proofs.Runs.{length-constant}
use Rattle.lp_model.proofs.run.Run.width.Goals as goal

pub returns-in-Digits-clause-width : goal.returns-in-Digits-clause-width
returns-in-Digits-clause-width c =
    let len = length-constant c.in-Digits.count c.in-Digits.field-0 in
    rw (c.in-Digits.is) (omega (arith, len))
