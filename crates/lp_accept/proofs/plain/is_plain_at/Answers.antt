use Rattle.std.proofs.Common.{◌<◌, false, map, length, sym, ap, ◌∙◌, subst}
use Rattle.std.proofs.lemmas.List.{length-map}
use Rattle.std.specs.Prelude.{slice_index_or}
use Rattle.lp_text.specs.Texts.{text_at}
use Rattle.lp_model.specs.LibraryView.{cell_view}
use Rattle.lp_spec_plain.specs.Cells.{loses_with_supply}
use Rattle.lp_accept.proofs.Plains.{plain-at, flag_at, place-in}
use Rattle.lp_accept.proofs.plain.is_plain_at.Goals as goal

pub bounds-plain-place : goal.bounds-plain-place
bounds-plain-place c =
    let names = c.args.names.now in
    let below = place-in (text_at names c.args.target.0) (map (λ x. text_at names x.name.0) c.args.index.now) c.in-Some.place (sym c.place.ensures ∙ c.in-Some.is) in
    let cells = length-map c.args.index.now (λ x. text_at names x.name.0) in
    let flags = ap length c.requires.plain ∙ length-map c.args.index.now (λ x. loses_with_supply (cell_view names x)) in
    subst (λ n. c.in-Some.place < n) (cells ∙ sym flags) below

pub returns-in-Some : goal.returns-in-Some
returns-in-Some c =
    let names = c.args.names.now in
    let flags = map (λ x. loses_with_supply (cell_view names x)) c.args.index.now in
    ap (λ fs. slice_index_or fs c.in-Some.place false) c.requires.plain
    ∙ sym (plain-at names (text_at names c.args.target.0) c.args.index.now ∙ ap (flag_at flags) (sym c.place.ensures ∙ c.in-Some.is))

pub returns-in-None : goal.returns-in-None
returns-in-None c =
    let names = c.args.names.now in
    let flags = map (λ x. loses_with_supply (cell_view names x)) c.args.index.now in
    sym (plain-at names (text_at names c.args.target.0) c.args.index.now ∙ ap (flag_at flags) (sym c.place.ensures ∙ c.in-None.is))
