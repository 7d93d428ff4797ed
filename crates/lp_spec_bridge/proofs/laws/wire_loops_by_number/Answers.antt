use Rattle.lp_spec_bridge.proofs.Loops.{looped_key, wire_loop_key}
use Rattle.lp_spec_bridge.proofs.laws.wire_loops_by_number.Goals as goal

pub returns-clause-own : goal.returns-clause-own
returns-clause-own c = looped_key

pub returns-clause-some : goal.returns-clause-some
returns-clause-some c = wire_loop_key
