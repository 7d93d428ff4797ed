use Rattle.std.proofs.Common.{Some, None, ap, ◌∙◌}
use Rattle.lp_scopes.specs.Spots.{find}
use Rattle.lp_scopes.proofs.Named.{found_called}
use Rattle.lp_scopes.proofs.scopes.Scopes.instance_at.Goals as goal

pub returns-in-Some : goal.returns-in-Some
returns-in-Some c =
    found_called c.args.names.now c.args.graph.now c.args.self.now c.args.spot (Some (record { 0 = c.in-Some.inst }))
    (c.in-Some.ensures ∙ ap (λ xs. find c.args.names.now c.args.self.now xs c.args.spot.inst.0 c.args.spot.name.now) c.as_slice-instances.ensures)

pub returns-in-None : goal.returns-in-None
returns-in-None c =
    found_called c.args.names.now c.args.graph.now c.args.self.now c.args.spot None
    (c.in-None.ensures ∙ ap (λ xs. find c.args.names.now c.args.self.now xs c.args.spot.inst.0 c.args.spot.name.now) c.as_slice-instances.ensures)
