use Rattle.std.proofs.Common.{ap, ◌∙◌}
use Rattle.std.specs.Prelude.{is_some}
use Rattle.lp_places.proofs.Numbers.{is_some-place}
use Rattle.lp_targets.proofs.index.Index.has_cell.Goals as goal

pub returns : goal.returns
returns c = c.is_some.ensures ∙ ap is_some c.find.ensures ∙ is_some-place c.args.name.0 c.args.self.now.cells
