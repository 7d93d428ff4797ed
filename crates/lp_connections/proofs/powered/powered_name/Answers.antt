use Rattle.std.proofs.Common.{sym, ap, ◌∙◌}
use Rattle.lp_model.specs.declared.netlist.Connection.{Connection}
use Rattle.lp_targets.specs.declared.target.Target.TheVariants as targets
use Rattle.lp_spec_design.specs.Netlists.{first}
use Rattle.lp_connections.specs.Parts.{has_pg}
use Rattle.lp_connections.specs.Numbered.{port_name, powered_pin_of}
use Rattle.lp_connections.proofs.powered.powered_name.Goals as goal

pub returns-in-Named : goal.returns-in-Named
returns-in-Named c =
    let design = c.args.design.now in
    let place = c.args.place in
    c.first_powered.ensures
    ∙ ap (λ xs. port_name (first (λ (x : Connection). has_pg design place x.port.0) xs)) c.as_slice.ensures
    ∙ sym (ap (powered_pin_of design (targets.OfCell place)) c.in-Named.is)
