use Rattle.std.proofs.Common.{sym, ap, ◌∙◌}
use Rattle.lp_places.specs.Places.{place_of_number}
use Rattle.lp_plain_index.proofs.Numbers.{place_of_text}
use Rattle.lp_plain_index.proofs.nets.NetIndex.find.Goals as goal

pub returns : goal.returns
returns c =
    c.find.ensures ∙ ap (place_of_number c.args.name.0) c.self.view_is
    ∙ sym (place_of_text c.args.names.now c.count-count.ensures.distinct c.args.name.0 c.args.self.now c.requires.name c.requires.numbers)
