use Rattle.lp_layout.proofs.InputBits.{ports_more}
use Rattle.lp_layout.proofs.inputs.port_inputs.Goals as goal

pub loop-port-preserved : goal.loop-port-preserved
loop-port-preserved c =
    ports_more c.loop-port.inputs.items c.push_times.new.inputs.items c.args.ports.now c.loop-port.port-index _ c.is_input.result c.bit_count.result c.loop-port-test.true c.is_input.ensures c.bit_count.ensures c.in_ok-push_times.ensures c.loop-port.invariant
