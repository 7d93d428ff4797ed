use Rattle.std.proofs.Common.{◌≡◌, drop, map}
use Rattle.lp_spec_design.specs.Netlists.{first}
use Rattle.lp_targets.specs.Numbered.{is_own_name}
use Rattle.lp_targets.proofs.reserved.own_port.Given as goal

abbrev pub invariant-loop-port : goal.invariant-loop-port
invariant-loop-port l = first (is_own_name l.names) (map (λ x. x.name) (drop l.port-index l.ports)) ≡ first (is_own_name l.names) (map (λ x. x.name) l.ports)
