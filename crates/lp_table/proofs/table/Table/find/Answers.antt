use Rattle.std.proofs.Common.{◌∙◌, ap}
use Rattle.lp_text.specs.Texts.{place_of}
use Rattle.lp_text.proofs.TextsLemmas.{position-map}
use Rattle.lp_table.proofs.table.Table.find.Goals as goal

pub returns : goal.returns
returns c =
    c.get_index_of.ensures.index ∙ position-map (λ key. key.items) c.args.text.now c.self.inside.texts.keys ∙ ap (place_of c.args.text.now) c.self.view_is
