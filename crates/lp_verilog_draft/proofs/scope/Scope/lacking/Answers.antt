use Rattle.std.proofs.Common.{arith}
use Rattle.std.proofs.lemmas.Grind.{common_steps}
use Rattle.lp_verilog_draft.proofs.Steps.{lacking_step}
use Rattle.lp_verilog_draft.proofs.scope.Scope.lacking.Goals as goal

pub returns-then-lacks_direction : goal.returns-then-lacks_direction
returns-then-lacks_direction c =
    let step = lacking_step c.args.self.now c.loop-i.i c.entry_at.result c.entry_at.ensures in
    grind (arith, common_steps, step)

pub loop-i-preserved : goal.loop-i-preserved
loop-i-preserved c =
    let step = lacking_step c.args.self.now c.loop-i.i c.entry_at.result c.entry_at.ensures in
    grind (arith, common_steps, step)
