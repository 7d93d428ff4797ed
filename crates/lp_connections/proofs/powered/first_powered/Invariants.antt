use Rattle.std.proofs.Common.{◌≡◌, drop}
use Rattle.lp_spec_design.specs.Netlists.{first}
use Rattle.lp_connections.specs.Parts.{has_pg}
use Rattle.lp_connections.specs.Numbered.{port_name}
use Rattle.lp_connections.proofs.powered.first_powered.Given as goal

abbrev pub invariant-loop-connection : goal.invariant-loop-connection
invariant-loop-connection l = port_name (first (λ c. has_pg l.design l.place c.port.0) (drop l.connection-index l.connections)) ≡ port_name (first (λ c. has_pg l.design l.place c.port.0) l.connections)
