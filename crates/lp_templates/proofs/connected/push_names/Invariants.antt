use Rattle.std.proofs.Common.{◌≡◌, ◌++◌, drop}
use Rattle.lp_templates.specs.Connected.{port_numbers}
use Rattle.lp_templates.proofs.connected.push_names.Given as goal

abbrev pub invariant-loop-connection : goal.invariant-loop-connection
invariant-loop-connection l = l.index ++ port_numbers (drop l.connection-index l.connections) ≡ l.fn.index ++ port_numbers l.connections
