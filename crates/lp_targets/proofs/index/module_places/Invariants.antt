use Rattle.std.proofs.Common.{◌≡◌, take}
use Rattle.lp_targets.specs.Numbered.{module_numbers}
use Rattle.lp_targets.proofs.index.module_places.Given as goal

abbrev pub invariant-loop-module : goal.invariant-loop-module
invariant-loop-module l = l.places ≡ module_numbers (take l.module-index l.modules)
