use Rattle.std.proofs.Common.{ap, ◌∙◌}
use Rattle.lp_scopes.specs.Spots.{instance}
use Rattle.lp_scopes.proofs.Named.{instance_called, instance_in_range}
use Rattle.lp_scopes.proofs.scopes.Scopes.instance.Goals as goal

pub returns : goal.returns
returns c =
    let is = c.instance.ensures ∙ ap (λ xs. instance c.args.names.now c.args.self.now xs c.args.scope.0 c.args.text.now) c.as_slice.ensures in
    record {
      path = instance_called c.args.names.now c.args.graph.now c.args.self.now c.args.scope c.args.text.now c.instance.result is;
      within = instance_in_range c.args.names.now c.args.graph.now c.args.self.now c.args.scope c.args.text.now c.instance.result is;
    }
