use Rattle.std.proofs.Common.{cond, ap}
use Rattle.lp_spec_plain.proofs.Runs.{runs_alike}
use Rattle.lp_spec_plain_module.specs.Designs.{one_set, design_of}
use Rattle.lp_spec_plain_module.specs.Netlists.{power_port, ground_port, netlist_of, is_own, origin_of}
use Rattle.lp_spec_plain_module.proofs.Lists.{name-self}
use Rattle.lp_spec_plain_module.proofs.Graphs.{ports_apart}
use Rattle.lp_spec_plain_module.proofs.Carried.{plain, carries}
use Rattle.lp_spec_plain_module.proofs.laws.flat_runs_alike.Goals as goal

pub returns : goal.returns
returns c f flat ordered =
    runs_alike (design_of f) one_set (plain f flat) (netlist_of f) (is_own f) (power_port f) (ground_port f) (carries f flat)
    (origin_of f) (ap (λ b. cond b 0 1) (name-self (power_port f))) (ap (λ b. cond b 0 1) (ports_apart f flat))
    ordered
