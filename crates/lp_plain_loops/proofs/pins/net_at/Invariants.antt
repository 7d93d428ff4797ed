use Rattle.std.proofs.Common.{◌≡◌, drop}
use Rattle.lp_plain_loops.specs.Numbered.{bits_at}
use Rattle.lp_plain_loops.proofs.pins.net_at.Given as goal

abbrev pub invariant-loop-connection : goal.invariant-loop-connection
invariant-loop-connection l = bits_at (drop l.connection-index l.connections) l.pin.0 ≡ bits_at l.connections l.pin.0
