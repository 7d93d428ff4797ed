use Rattle.std.proofs.Common.{◌≡◌, ◌≤◌, List, [], length, drop, ap, sym, ◌∙◌, arith}
use Rattle.std.proofs.Math.ListN.{drop_of_length-le}
use Rattle.lp_model.specs.declared.upf.UpfWord.{UpfWord}
use Rattle.lp_model.specs.Agreement.{numbers_below}
use Rattle.lp_model.specs.CommandsView.{line_view}
use Rattle.lp_upf.specs.Faults.{faults_view, first_numbers}
use Rattle.lp_upf.specs.Lists.{list_judged, listing, listing_view}
use Rattle.lp_upf.specs.Tables.{form_of}
use Rattle.lp_upf.specs.declared.fault.Faults.{Faults}
use Rattle.lp_upf.proofs.Listed.{all}
use Rattle.lp_upf.proofs.lists.list_faults.Goals as goal

pub loop-word-init : goal.loop-word-init
loop-word-init c =
    let names = c.args.names.now in
    let elements = c.args.elements.now in
    let words = line_view names elements.words in
    let form = form_of c.args.form in
    record {
      reads = ap (λ (f : Faults). list_judged (listing form (faults_view names f)) words elements.stop elements.end) c.none.ensures ∙ all form words elements.stop elements.end;
      below = c.requires;
      found = ap (λ (f : Faults). numbers_below (length names) (first_numbers f.first)) c.none.ensures;
    }

pub returns-clause-value : goal.returns-clause-value
returns-clause-value c =
    let names = c.args.names.now in
    let elements = c.args.elements.now in
    let s = listing_view names c.loop-word.listing in
    let done : drop c.loop-word.word-index elements.words ≡ [] = let below : length elements.words ≤ c.loop-word.word-index = omega (arith, ap (λ (ws : List UpfWord). length ws) c.as_slice-word-items.ensures) in drop_of_length-le elements.words below in
    c.end.ensures.value names
    ∙ ap (λ (ws : List UpfWord). list_judged s (line_view names ws) elements.stop elements.end) (sym done)
    ∙ c.loop-word.invariant.reads
