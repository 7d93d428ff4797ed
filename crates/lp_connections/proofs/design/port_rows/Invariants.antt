use Rattle.std.proofs.Common.{◌≡◌, map, take}
use Rattle.lp_model.specs.declared.netlist.Module.{Module}
use Rattle.lp_connections.specs.Parts.{port_names}
use Rattle.lp_connections.proofs.design.port_rows.Given as goal

abbrev pub invariant-loop-source : goal.invariant-loop-source
invariant-loop-source l = l.rows.items ≡ map (λ (m : Module). port_names m.ports) (take l.source-index l.modules)
