use Rattle.std.proofs.Common.{ap, ◌∙◌}
use Rattle.std.specs.Prelude.{is_some}
use Rattle.lp_places.specs.Places.{has_number}
use Rattle.lp_plain_index.proofs.Numbers.{is_some-place}
use Rattle.lp_plain_index.proofs.nets.NetIndex.has.Goals as goal

pub returns : goal.returns
returns c = c.is_some.ensures ∙ ap is_some c.find.ensures ∙ is_some-place c.args.name.0 _ ∙ ap (has_number c.args.name.0) c.self.view_is
