-- The power and ground pins of a cell begin in the written netlist at the origins to which they are joined.
use Rattle.std.proofs.Common.{◌≡◌, ℕ, zero, suc, true, Option, Some, None, refl, sym, ap, ◌∙◌}
use Rattle.std.specs.Prelude.{is_some, option_and_then, slice_get}
use Rattle.std.specs.List.{list_all}
use Rattle.std.proofs.lemmas.Bool.{false≢true}
use Rattle.lp_model.specs.LibraryView.{PgPinView, CellView}
use Rattle.lp_spec_design.specs.Keys.{Name, Path}
use Rattle.lp_spec_design.specs.Netlists.{Structure}
use Rattle.lp_spec_design.specs.Instances.{Placed}
use Rattle.lp_spec_design.specs.Nodes.{fuel_of}
use Rattle.lp_spec_design.specs.Graph.{numbered}
use Rattle.lp_spec_design.specs.Settled.{node_at_pin}
use Rattle.lp_spec_design.specs.Reads.{both}
use Rattle.lp_spec_design.specs.Winners.{IsIn}
use Rattle.lp_spec_fit.specs.Joins.{Joins, all_joined}
use Rattle.lp_spec_realises.specs.Projects.{Project, network_of}
use Rattle.lp_spec_realises.specs.Implements.{Lists}
use Rattle.lp_spec_realises.specs.Ends.{some_end}
use Rattle.lp_spec_realises.specs.Realises.{origin_end, joined_end, pg_begins, cell_joined}
use Rattle.lp_spec_written.specs.Places.{plan}
use Rattle.lp_spec_written.specs.Supplies.{Use, uses, joined_pins, origin_bits}
use Rattle.lp_spec_written.specs.Written.{Additions, additions}
use Rattle.lp_spec_hub.specs.Spots.{Spot, Carried, Drive, AsSource, ByOperator, BySwitch, ByPort, FromSpot, all_done}
use Rattle.lp_spec_hub.specs.Drives.{comes_from, drive}
use Rattle.lp_spec_hub.specs.Begins.{Begin, begins_by, EndsIn, EndsAt}
use Rattle.lp_spec_hub.specs.Laws.{EndsAsWired, WholePlan}
use Rattle.lp_spec_wired.specs.Names.{placement_of}
use Rattle.lp_spec_written_at.specs.Sources.{node_of_bits}
use Rattle.lp_spec_written_at.proofs.Lists.{of-all, all-of, in-some}
use Rattle.lp_spec_written_at.proofs.Paths.{some-is}
use Rattle.lp_spec_wires.specs.Standing.{is_wire}
use Rattle.lp_spec_begun.specs.Begun.{HasWires}
use Rattle.lp_spec_begun.proofs.Ends.{end-is, begin, at-wire}
use Rattle.lp_spec_begun.proofs.Read.{is_added, bits-name}

-- a wire of a supply that begins somewhere is driven
driven-where : (driven : Spot → Option Drive) (o : ℕ) (y : Path) (e : Begin) → EndsAt driven (Carried o y) e → (d : Drive) × (driven (Carried o y) ≡ Some d) × (is_added d ≡ true)
driven-where driven o y e t = by t.0 t.1
  where
    here : (r : Option Drive) → driven (Carried o y) ≡ r → begins_by r (Carried o y) ≡ Some e → (d : Drive) × (driven (Carried o y) ≡ Some d) × (is_added d ≡ true)
    here None f g = absurd cc
    here (Some (AsSource z)) f g = absurd cc
    here (Some (ByOperator v k)) f g = (ByOperator v k, f, refl)
    here (Some (BySwitch q)) f g = (BySwitch q, f, refl)
    here (Some (ByPort q)) f g = (ByPort q, f, refl)
    here (Some (FromSpot z)) f g = (FromSpot z, f, refl)

    by : (n : ℕ) → EndsIn driven n (Carried o y) e → (d : Drive) × (driven (Carried o y) ≡ Some d) × (is_added d ≡ true)
    by zero g = here (driven (Carried o y)) refl g
    by (suc n) g = (FromSpot g.0, g.1, refl)

module _ (ends : EndsAsWired) (whole : WholePlan) (p : Project) (l : Lists) (w : Structure) (h : HasWires p l w) where
  abbrev a : Additions
  a = additions p l

  -- where a cell uses an origin
  pub supply-end : (u : Use) → IsIn u (uses p (plan p l)) → is_some (slice_get (network_of p).origins u.1) ≡ true → some_end w (fuel_of w) (node_of_bits u.0 (origin_bits p (plan p l) u.1)) ≡ origin_end p w (placement_of p l) u.1
  supply-end u g some =
      let origin = some-is (slice_get (network_of p).origins u.1) some in
      let its = (begin ends whole p l w h).supplies u origin.0 g origin.1 in
      let d = driven-where (drive p (all_done p l) (comes_from p)) u.1 u.0 its.begin its.ends in
      let there : is_wire p a (comes_from p) (Carried u.1 u.0) ≡ true = ap (λ r. is_some r) d.1 in
      ap (some_end w (fuel_of w)) (bits-name p a w (comes_from p) h.stand u.0 (origin_bits p (plan p l) u.1) (Carried u.1 u.0) d.0 d.2 d.1 there refl)
      ∙ at-wire ends whole p l w h (Carried u.1 u.0) (origin_end p w (placement_of p l) u.1) there its

-- each pin of a cell, where those that are joined begin at their origins
pub pins-begin : (p : Project) (l : Lists) (w : Structure) (x : Path) (n : Name) (c : CellView) (join : Joins) → all_joined c join ≡ true
    → ((z : Name × ℕ) → IsIn z (joined_pins c (Some join)) → some_end w (fuel_of w) (node_at_pin w x n z.0) ≡ origin_end p w (placement_of p l) z.1)
    → list_all (pg_begins p w (placement_of p l) (fuel_of w) (record { path = x; instance = n }) join) (numbered 0 c.pgs) ≡ true
pins-begin p l w x n c join all pins = all-of (pg_begins p w (placement_of p l) (fuel_of w) (record { path = x; instance = n }) join) (numbered 0 c.pgs) (λ g t. by g t (join g.0 g.1) refl (of-all (λ (v : ℕ × PgPinView). is_some (join v.0 v.1)) g (numbered 0 c.pgs) all t))
  where
    by : (g : ℕ × PgPinView) → IsIn g (numbered 0 c.pgs) → (o : Option ℕ) → join g.0 g.1 ≡ o → is_some (join g.0 g.1) ≡ true → pg_begins p w (placement_of p l) (fuel_of w) (record { path = x; instance = n }) join g ≡ true
    by g t None e s = absurd (false≢true (sym (ap (λ r. is_some r) e) ∙ s))
    by g t (Some o) e s =
        let listed = in-some (λ (v : ℕ × PgPinView). option_and_then (λ k. Some (v.1.name, k)) (join v.0 v.1)) g (g.1.name, o) (numbered 0 c.pgs) t (ap (λ r. option_and_then (λ k. Some (g.1.name, k)) r) e) in
        both (is_some (join g.0 g.1)) _ s (end-is _ (joined_end p w (placement_of p l) (join g.0 g.1)) (pins (g.1.name, o) listed ∙ sym (ap (joined_end p w (placement_of p l)) e)))

pub cell-joined : (p : Project) (l : Lists) (w : Structure) (a : Placed) (joins : CellView → Option Joins) (c : CellView) (join : Joins) → joins c ≡ Some join
    → list_all (pg_begins p w (placement_of p l) (fuel_of w) a join) (numbered 0 c.pgs) ≡ true → cell_joined p w (placement_of p l) (fuel_of w) a joins (Some c) ≡ true
cell-joined p l w a joins c join e h = rw (e) h
