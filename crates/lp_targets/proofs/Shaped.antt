-- What the calls find is what the measuring asks for.
use Rattle.std.proofs.Common.{◌≡◌, ℕ, true, List, length, None, sym, subst}
use Rattle.std.specs.Prelude.{map, reverse, slice_get}
use Rattle.lp_text.specs.Texts.{distinct}
use Rattle.lp_model.specs.declared.library.Library.{Library}
use Rattle.lp_model.specs.declared.netlist.Netlist.{Netlist}
use Rattle.lp_model.specs.LibraryView.{cell_view}
use Rattle.lp_model.specs.NetlistView.{ModuleView}
use Rattle.lp_order.specs.Order.{ReadsBelow, IsOrder}
use Rattle.lp_spec_design.specs.Netlists.{Structure, top_of}
use Rattle.lp_spec_faults.specs.Modules.{tops}
use Rattle.lp_targets.specs.declared.target.Target.{Target}
use Rattle.lp_targets.specs.Structures.{structure_of}
use Rattle.lp_targets.specs.Reports.{top_report}
use Rattle.lp_targets.specs.Targets.{AreTargets}
use Rattle.lp_targets.specs.Children.{children, cell_rows}
use Rattle.lp_targets.specs.Sizes.{AreRows, IsResolved}
use Rattle.lp_targets.proofs.Closed.{count_map}
use Rattle.lp_targets.proofs.Marks.{one_of_told}

pub resolved : (s : Structure) (rows : List (List Target)) (order : List ℕ) (top : ℕ) → AreRows s rows → IsOrder (children rows) (reverse order) → distinct (map (λ (m : ModuleView). m.name) s.modules) ≡ true → slice_get s.modules top ≡ top_of s → top_report s ≡ None → IsResolved s rows order top
resolved s rows order top are ordered apart placed none = record {
  known = are;
  ordered = ordered;
  apart = apart;
  placed = placed;
  one = one_of_told (length (tops s)) none;
}

pub are_rows : (texts : List (List ℕ)) (n : Netlist) (l : Library) (found rows : List (List Target)) → rows ≡ found → AreTargets (structure_of texts n l) found → ReadsBelow (length found) (children found) → ReadsBelow (length l.cells) (cell_rows found) → AreRows (structure_of texts n l) rows
are_rows texts n l found rows is targets closed cells =
    let all : AreRows (structure_of texts n l) found = record {
      targets = targets;
      closed = closed;
      cells = subst (λ k. ReadsBelow k (cell_rows found)) (sym (count_map (cell_view texts) l.cells)) cells;
    } in
    subst (λ (rs : List (List Target)). AreRows (structure_of texts n l) rs) (sym is) all
