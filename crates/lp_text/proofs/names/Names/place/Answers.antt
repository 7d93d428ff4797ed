use Rattle.std.proofs.Common.{◌≡◌, sym, ◌∙◌, ap}
use Rattle.std.specs.String.{string_bytes}
use Rattle.lp_text.specs.Texts.{place_of}
use Rattle.lp_text.proofs.TextsLemmas.{position-map}
use Rattle.lp_text.proofs.names.Names.place.Goals as goal
use Rattle.lp_text.proofs.names.Names.place.Goals.{After-get_index_of}

found : (c : After-get_index_of) → c.get_index_of.result ≡ place_of c.args.text.now c.args.self.now
found c = c.get_index_of.ensures.index ∙ position-map string_bytes c.args.text.now c.self.inside.texts.keys ∙ ap (place_of c.args.text.now) c.self.view_is

pub returns-in-None : goal.returns-in-None
returns-in-None c = sym c.in-None.is ∙ found (goal.at.returns-in-None c).After-get_index_of

pub returns-in-Some : goal.returns-in-Some
returns-in-Some c = sym c.in-Some.is ∙ found (goal.at.returns-in-Some c).After-get_index_of
