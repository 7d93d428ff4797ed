use Rattle.std.proofs.Common.{◌≡◌, ◌+◌, drop}
use Rattle.std.specs.Prelude.{sum_by}
use Rattle.lp_templates.specs.Numbered.{with_ports, port_width}
use Rattle.lp_templates.proofs.scope.Scope.declare_ports.Given as goal

abbrev pub invariant-loop-port : goal.invariant-loop-port
invariant-loop-port l = record {
  sum : l.start + sum_by port_width (drop l.port-index l.ports) ≡ sum_by port_width l.ports;
  same : with_ports l.self l.start (drop l.port-index l.ports) ≡ with_ports l.fn.self 0 l.ports;
}
