use Rattle.std.proofs.Common.{◌≡◌, min, map, take}
use Rattle.lp_targets.specs.Sizes.{module_bits}
use Rattle.lp_targets.proofs.own.own_bits.Given as goal

abbrev pub invariant-loop-module : goal.invariant-loop-module
invariant-loop-module l = l.own.items ≡ map (λ m. min l.fn.limit (module_bits m)) (take l.module-index l.modules)
