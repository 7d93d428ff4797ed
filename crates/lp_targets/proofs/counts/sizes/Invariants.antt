use Rattle.std.proofs.Common.{◌≡◌, length, map, take}
use Rattle.lp_spec_design.specs.Netlists.{Structure}
use Rattle.lp_targets.specs.Sizes.{size_of, AreSizes}
use Rattle.lp_targets.proofs.counts.sizes.Given as goal

abbrev pub invariant-loop-place : goal.invariant-loop-place
invariant-loop-place l = (s : Structure) → l.fn.count ≡ length s.modules → AreSizes s l.counts → l.sizes.items ≡ map (size_of s) (take l.place s.modules)
