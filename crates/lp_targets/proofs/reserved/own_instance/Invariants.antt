use Rattle.std.proofs.Common.{◌≡◌, drop, map}
use Rattle.lp_spec_design.specs.Netlists.{first}
use Rattle.lp_targets.specs.Numbered.{is_own_name}
use Rattle.lp_targets.proofs.reserved.own_instance.Given as goal

abbrev pub invariant-loop-instance : goal.invariant-loop-instance
invariant-loop-instance l = first (is_own_name l.names) (map (λ x. x.name) (drop l.instance-index l.instances)) ≡ first (is_own_name l.names) (map (λ x. x.name) l.instances)
