use Rattle.std.proofs.Common.{◌≡◌, ◌++◌, take}
use Rattle.std.specs.List.{flat_map}
use Rattle.lp_plain_fits.specs.Numbered.{driven_at}
use Rattle.lp_plain_fits.proofs.nets.add_outputs.Given as goal

abbrev pub invariant-loop-connection : goal.invariant-loop-connection
invariant-loop-connection l = l.nets.items ≡ l.fn.nets.items ++ flat_map (driven_at l.pins) (take l.connection-index l.connections)
