use Rattle.std.proofs.Common.{ap, ◌∙◌}
use Rattle.lp_scopes.specs.declared.walk.Ends.TheVariants as kinds
use Rattle.lp_scopes.specs.Spots.{last_part}
use Rattle.lp_scopes.proofs.Named.{part_called, part_in_range}
use Rattle.lp_scopes.proofs.scopes.Scopes.part.Goals as goal

pub returns : goal.returns
returns c =
    let is = c.last_part.ensures ∙ ap (λ xs. last_part c.args.names.now c.args.self.now xs kinds.Part c.args.scope.0 c.args.text.now) c.as_slice.ensures in
    record {
      place = part_called c.args.names.now c.args.graph.now c.args.self.now c.args.scope c.args.text.now c.last_part.result is;
      within = part_in_range c.args.names.now c.args.graph.now c.args.self.now c.args.scope c.args.text.now c.last_part.result is;
    }
