use Rattle.std.proofs.Common.{◌≡◌, [], drop}
use Rattle.lp_connections.specs.Numbered.{first_named}
use Rattle.lp_connections.proofs.pins.first_named.Given as goal

abbrev pub invariant-loop-connection : goal.invariant-loop-connection
invariant-loop-connection l = first_named l.design l.target l.connected (drop l.connection-index l.connections) ≡ first_named l.design l.target [] l.connections
