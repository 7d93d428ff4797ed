use Rattle.std.proofs.Common.{◌≡◌, drop, length, true}
use Rattle.lp_model.specs.Agreement.{numbers_below}
use Rattle.lp_model.specs.CommandsView.{line_numbers, line_view}
use Rattle.lp_spec_upf.specs.Commands.{list_faults}
use Rattle.lp_upf.specs.Faults.{first_numbers, judged}
use Rattle.lp_upf.specs.Lists.{list_judged, listing_view}
use Rattle.lp_upf.specs.Tables.{form_of}
use Rattle.lp_upf.proofs.lists.list_faults.Given as goal

abbrev pub invariant-loop-word : goal.invariant-loop-word
invariant-loop-word l = record {
  reads :
      list_judged (listing_view l.names l.listing) (line_view l.names (drop l.word-index l.elements.words)) l.elements.stop l.elements.end
      ≡ judged (list_faults (form_of l.fn.form) (line_view l.names l.elements.words) l.elements.stop l.elements.end);
  below : numbers_below (length l.names) (line_numbers (drop l.word-index l.elements.words)) ≡ true;
  found : numbers_below (length l.names) (first_numbers l.listing.faults.first) ≡ true;
}
