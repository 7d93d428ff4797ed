use Rattle.std.proofs.Common.{◌≡◌, drop, map}
use Rattle.lp_spec_design.specs.Netlists.{first}
use Rattle.lp_targets.specs.Numbered.{is_own_name}
use Rattle.lp_targets.proofs.reserved.own_net.Given as goal

abbrev pub invariant-loop-net : goal.invariant-loop-net
invariant-loop-net l = first (is_own_name l.names) (map (λ x. x.name) (drop l.net-index l.nets)) ≡ first (is_own_name l.names) (map (λ x. x.name) l.nets)
