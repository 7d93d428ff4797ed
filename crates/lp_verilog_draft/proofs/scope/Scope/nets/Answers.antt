use Rattle.lp_verilog_draft.proofs.Steps.{nets_kept}
use Rattle.lp_verilog_draft.proofs.scope.Scope.nets.Goals as goal

pub loop-i-preserved : goal.loop-i-preserved
loop-i-preserved c = nets_kept c.args.self.now c.loop-i.i c.entry_at-name.result c.loop-i.nets c.push_some.new.items _ c.net_of.result c.entry_at-name.ensures c.net_of.ensures c.in_ok-push_some.ensures c.loop-i.invariant
