use Rattle.std.proofs.Common.{◌≡◌, drop}
use Rattle.std.specs.Prelude.{is_none}
use Rattle.lp_spec_design.specs.Netlists.{first}
use Rattle.lp_targets.specs.Numbered.{target_of}
use Rattle.lp_targets.proofs.unknown.unknown.Given as goal

abbrev pub invariant-loop-instance : goal.invariant-loop-instance
invariant-loop-instance l =
    first (λ i. is_none (target_of l.index.modules l.index.cells i)) (drop l.instance-index l.instances)
    ≡ first (λ i. is_none (target_of l.index.modules l.index.cells i)) l.instances
