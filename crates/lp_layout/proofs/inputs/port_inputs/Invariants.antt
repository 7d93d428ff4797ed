use Rattle.std.proofs.Common.{◌≡◌, ◌++◌, drop}
use Rattle.lp_layout.specs.Inputs.{port_inputs}
use Rattle.lp_layout.proofs.inputs.port_inputs.Given as goal

abbrev pub invariant-loop-port : goal.invariant-loop-port
invariant-loop-port l = l.inputs.items ++ port_inputs (drop l.port-index l.ports) ≡ port_inputs l.ports
