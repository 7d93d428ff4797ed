use Rattle.std.proofs.Common.{◌≡◌, drop}
use Rattle.lp_targets.specs.Numbered.{first_reserved}
use Rattle.lp_targets.proofs.reserved.first_reserved.Given as goal

abbrev pub invariant-loop-module : goal.invariant-loop-module
invariant-loop-module l = first_reserved l.names l.index.cells (drop l.module-index l.modules) ≡ first_reserved l.names l.index.cells l.modules
