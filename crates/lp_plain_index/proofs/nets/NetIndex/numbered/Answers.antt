use Rattle.std.proofs.Common.{ap, ◌∙◌}
use Rattle.lp_places.specs.Places.{place_of_number}
use Rattle.lp_plain_index.proofs.nets.NetIndex.numbered.Goals as goal

pub returns : goal.returns
returns c = c.find.ensures ∙ ap (place_of_number c.args.name.0) c.self.view_is
