use Rattle.std.proofs.Common.{◌≡◌, ◌++◌, take}
use Rattle.lp_plain_fits.specs.Numbered.{driven}
use Rattle.lp_plain_fits.proofs.nets.add_driven.Given as goal

abbrev pub invariant-loop-instance : goal.invariant-loop-instance
invariant-loop-instance l = l.nets.items ≡ l.fn.nets.items ++ driven l.index (take l.instance-index l.instances)
