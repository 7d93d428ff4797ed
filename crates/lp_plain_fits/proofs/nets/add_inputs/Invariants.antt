use Rattle.std.proofs.Common.{◌≡◌, ◌++◌, take}
use Rattle.lp_plain_fits.specs.Numbered.{inputs}
use Rattle.lp_plain_fits.proofs.nets.add_inputs.Given as goal

abbrev pub invariant-loop-port : goal.invariant-loop-port
invariant-loop-port l = l.nets.items ≡ l.fn.nets.items ++ inputs (take l.port-index l.ports)
