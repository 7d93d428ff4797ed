use Rattle.std.proofs.Common.{◌≡◌, ◌+◌, ◌++◌, drop}
use Rattle.std.specs.Prelude.{sum_by}
use Rattle.lp_templates.specs.Connected.{inputs_from, outputs_from}
use Rattle.lp_templates.specs.Numbered.{port_width}
use Rattle.lp_templates.proofs.ports.join_ports.Given as goal

abbrev pub invariant-loop-position : goal.invariant-loop-position
invariant-loop-position l = record {
  sum : l.start + sum_by port_width (drop l.position l.ports) ≡ sum_by port_width l.ports;
  inputs : l.inputs ++ inputs_from l.scope l.connections l.start l.position (drop l.position l.ports) ≡ l.fn.inputs ++ inputs_from l.scope l.connections 0 0 l.ports;
  outputs : l.outputs ++ outputs_from l.scope l.connections l.start l.position (drop l.position l.ports) ≡ l.fn.outputs ++ outputs_from l.scope l.connections 0 0 l.ports;
}
