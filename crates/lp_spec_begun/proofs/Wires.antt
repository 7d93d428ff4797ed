-- Input pins of the source, outputs of the top and data pins of operators begin in the written netlist where they have to.
use Rattle.std.proofs.Common.{◌≡◌, true, Some, ap, ◌∙◌}
use Rattle.std.specs.Prelude.{option_and_then}
use Rattle.std.specs.List.{list_all}
use Rattle.lp_model.specs.LibraryView.{PinView}
use Rattle.lp_spec_design.specs.Keys.{Way}
use Rattle.lp_spec_design.specs.Netlists.{Structure}
use Rattle.lp_spec_design.specs.Instances.{Placed, cell_instances}
use Rattle.lp_spec_design.specs.Nodes.{fuel_of}
use Rattle.lp_spec_design.specs.Graph.{top_outputs}
use Rattle.lp_spec_design.specs.Domains.{way_of}
use Rattle.lp_spec_design.specs.Reads.{both}
use Rattle.lp_spec_design.specs.Winners.{IsIn}
use Rattle.lp_spec_realises.specs.Projects.{Project}
use Rattle.lp_spec_realises.specs.Operators.{OperatorAt, all_operators, placed_operator}
use Rattle.lp_spec_realises.specs.Implements.{Lists}
use Rattle.lp_spec_realises.specs.Ends.{some_end}
use Rattle.lp_spec_realises.specs.Realises.{cell_of, data_pin, source_cell_stands, inputs_begin, output_begins, chain_follows, end_of_pin, data_intended}
use Rattle.lp_spec_written.specs.Places.{Standing}
use Rattle.lp_spec_written.specs.Written.{Additions, additions}
use Rattle.lp_spec_hub.specs.Drives.{comes_from, read_by}
use Rattle.lp_spec_hub.specs.Entries.{HasItsCells}
use Rattle.lp_spec_hub.specs.Laws.{EndsAsWired, WholePlan, CellsAreThere}
use Rattle.lp_spec_wired.specs.Names.{placement_of, name_by}
use Rattle.lp_spec_written_at.proofs.Lists.{all-of}
use Rattle.lp_spec_written_at.proofs.NoLack.{cells-are-there}
use Rattle.lp_spec_written_at.proofs.SourceCells.{sources-stand}
use Rattle.lp_spec_begun.specs.Begun.{HasWires, HasPins}
use Rattle.lp_spec_begun.specs.Laws.{WiresBegin}
use Rattle.lp_spec_begun.proofs.Ends.{end-is, begin, at-wire}
use Rattle.lp_spec_begun.proofs.CellInstances.{is-cell-instance}
use Rattle.lp_spec_begun.proofs.Fits.{fits-operator}
use Rattle.lp_spec_begun.proofs.Inputs.{inputs-begin}
use Rattle.lp_spec_begun.proofs.Outputs.{outputs-begin}
use Rattle.lp_spec_begun.proofs.OperatorCells.{IsOperator, is-operator, data-pin}
use Rattle.lp_spec_begun.proofs.Read as read

-- each cell instance of the source stands
pub all-stand : (p : Project) (l : Lists) (w : Structure) → HasWires p l w → list_all (source_cell_stands p w) (cell_instances p.structure) ≡ true
all-stand p l w h = sources-stand p l w h.proper.fit.free h.proper.fit.names (cells-are-there p l h.order.cells).0 h.content

module _ (ends : EndsAsWired) (whole : WholePlan) (p : Project) (l : Lists) (w : Structure) (h : HasWires p l w) (pins : HasPins p l) (cells : HasItsCells p l) where
  abbrev a : Additions
  a = additions p l

  follows : (q : OperatorAt) → IsIn q (all_operators p) → chain_follows p w (placement_of p l) (fuel_of w) q ≡ true
  follows q g = end-is _ (data_intended p w (placement_of p l) q) (pin-end ∙ (wire ∙ ap (data_intended p w (placement_of p l)) i.asked))
    where
      i : IsOperator p l w q
      i = is-operator p l w h cells q g

      way : Way
      way = way_of q.bit

      taken : (d : PinView) × (data_pin q.operator i.o.cell ≡ Some d)
      taken = let fit = fits-operator p i.o.path q.operator i.o.cell i.fits in (fit.taken, fit.taken_is)

      reads : read.Reads p a w (comes_from p) h.proper h.stand i.o.path i.m i.module_is i.y way q.number i.link (read_by way (comes_from p way) q.number i.y.1.0)
      reads = read.reads p a w (comes_from p) h.proper h.stand i.o.path i.m i.module_is i.y way q.number i.link

      wire : some_end w (fuel_of w) (Some (name_by p a (read_by way (comes_from p way) q.number i.y.1.0))) ≡ data_intended p w (placement_of p l) i.o.asked
      wire =
          at-wire ends whole p l w h (read_by way (comes_from p way) q.number i.y.1.0) (data_intended p w (placement_of p l) i.y.1.0.asked) reads.there
          ((begin ends whole p l w h).readings way i.bit q.number i.y.1.0 i.bit_is i.link.at)
          ∙ ap (λ (r : Standing). data_intended p w (placement_of p l) r.asked) i.standing

      pin-end : end_of_pin w (fuel_of w) (placed_operator (placement_of p l) q) (option_and_then (data_pin q.operator) (cell_of w (placed_operator (placement_of p l) q))) ≡ some_end w (fuel_of w) (Some (name_by p a (read_by way (comes_from p way) q.number i.y.1.0)))
      pin-end =
          ap (λ (z : Placed). end_of_pin w (fuel_of w) z (option_and_then (data_pin q.operator) (cell_of w z))) i.placed
          ∙ (ap (λ c. end_of_pin w (fuel_of w) (record { path = i.o.path; instance = i.y.0 }) (option_and_then (data_pin q.operator) c)) i.cell
          ∙ (ap (end_of_pin w (fuel_of w) (record { path = i.o.path; instance = i.y.0 })) taken.1
          ∙ (ap (some_end w (fuel_of w)) (data-pin p l w h pins q i taken.0 taken.1)
          ∙ ap (some_end w (fuel_of w)) reads.name)))

pub wires-begin : EndsAsWired → WholePlan → CellsAreThere → WiresBegin
wires-begin ends whole cells p l w h pins =
    both (list_all (inputs_begin p w (placement_of p l) (fuel_of w)) (cell_instances p.structure)) _
    (all-of (inputs_begin p w (placement_of p l) (fuel_of w)) (cell_instances p.structure)
    (λ place g. inputs-begin p l w h pins (all-stand p l w h) place g (is-cell-instance p h.proper.fit.free place g) ends whole))
    (both (list_all (output_begins p w (placement_of p l) (fuel_of w)) (top_outputs p.structure)) _
    (all-of (output_begins p w (placement_of p l) (fuel_of w)) (top_outputs p.structure) (outputs-begin ends whole p l w h))
    (all-of (chain_follows p w (placement_of p l) (fuel_of w)) (all_operators p) (follows ends whole p l w h pins (cells p l h.order.cells))))
