use Rattle.std.proofs.Common.{◌≡◌, drop}
use Rattle.lp_targets.specs.Numbered.{first_unknown}
use Rattle.lp_targets.proofs.unknown.first_unknown.Given as goal

abbrev pub invariant-loop-module : goal.invariant-loop-module
invariant-loop-module l =
    first_unknown l.index.modules l.index.cells (drop l.module-index l.modules) ≡ first_unknown l.index.modules l.index.cells l.modules
