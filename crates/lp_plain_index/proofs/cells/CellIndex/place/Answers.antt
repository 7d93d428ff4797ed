use Rattle.std.proofs.Common.{sym, ap, ◌∙◌, map}
use Rattle.lp_text.specs.Texts.{text_at, place_of}
use Rattle.lp_places.specs.Places.{place_of_number}
use Rattle.lp_plain_index.proofs.Numbers.{place_of_text, map_map}
use Rattle.lp_plain_index.proofs.cells.CellIndex.place.Goals as goal

pub returns : goal.returns
returns c =
    let texts = c.args.names.now in
    let n = c.args.name.0 in
    let cells = c.args.self.now in
    c.find.ensures ∙ ap (place_of_number n) (c.self.invariant ∙ ap (map (λ x. x.name.0)) c.self.view_is)
    ∙ sym (place_of_text texts c.count-count.ensures.distinct n (map (λ x. x.name.0) cells) c.requires.name c.requires.cells)
    ∙ ap (place_of (text_at texts n)) (map_map (text_at texts) (λ x. x.name.0) cells)
