use Rattle.lp_verilog_draft.proofs.Steps.{ports_kept}
use Rattle.lp_verilog_draft.proofs.scope.Scope.ports.Goals as goal

pub loop-i-preserved : goal.loop-i-preserved
loop-i-preserved c = ports_kept c.args.self.now c.loop-i.i c.entry_at-name.result c.loop-i.ports c.push_some.new.items _ c.port_of.result c.entry_at-name.ensures c.port_of.ensures c.in_ok-push_some.ensures c.loop-i.invariant
