use Rattle.std.proofs.Common.{◌≡◌, drop}
use Rattle.lp_spec_design.specs.Netlists.{first}
use Rattle.lp_connections.specs.Numbered.{port_name, uneven_named}
use Rattle.lp_connections.proofs.widths.first_uneven.Given as goal

abbrev pub invariant-loop-connection : goal.invariant-loop-connection
invariant-loop-connection l = port_name (first (uneven_named l.design l.target) (drop l.connection-index l.connections)) ≡ port_name (first (uneven_named l.design l.target) l.connections)
