-- Power and ground pins begin in the written netlist at the origins to which they are joined, and the top has the ports of the supplies outside.
use Rattle.std.proofs.Common.{◌≡◌, ℕ, Bool, true, List, [], ◌++◌, Option, Some, None, refl, sym, ap, ◌∙◌, subst}
use Rattle.std.specs.Prelude.{codes, is_some, option_and_then, slice_get, flat_map}
use Rattle.std.specs.List.{list_all}
use Rattle.std.proofs.lemmas.Bool.{false≢true}
use Rattle.lp_model.specs.declared.supply.SetOrigins.{SetOrigins}
use Rattle.lp_model.specs.NetlistView.{PortView, ModuleView}
use Rattle.lp_model.specs.LibraryView.{SwitchedView, PgPinView, CellView}
use Rattle.lp_spec_design.specs.Keys.{Name, Path, Node}
use Rattle.lp_spec_design.specs.Netlists.{Structure, module_at}
use Rattle.lp_spec_design.specs.Instances.{Placed, cell_instances}
use Rattle.lp_spec_design.specs.Nodes.{fuel_of}
use Rattle.lp_spec_design.specs.Graph.{numbered}
use Rattle.lp_spec_design.specs.Intents.{SupplySet, Origin, FromPort, FromSwitch}
use Rattle.lp_spec_design.specs.Settled.{node_at_pin}
use Rattle.lp_spec_design.specs.Reads.{both}
use Rattle.lp_spec_design.specs.Winners.{IsIn}
use Rattle.lp_spec_design.proofs.Members.{in-left, in-right, in-map, in-flat}
use Rattle.lp_spec_pins.specs.Pins.{only}
use Rattle.lp_spec_fit.specs.Joins.{Joins, SwitchSide, all_joined, switch_side, switch_origin, switch_joins}
use Rattle.lp_spec_fit.specs.Fits.{switched_pins}
use Rattle.lp_spec_realises.specs.Projects.{Project, network_of}
use Rattle.lp_spec_realises.specs.ProjectNetlists.{if_port, port_origins, has_origin}
use Rattle.lp_spec_realises.specs.Tops.{ports_of, top_ports}
use Rattle.lp_spec_realises.specs.Operators.{OperatorAt, all_operators, SwitchAt, all_switches}
use Rattle.lp_spec_realises.specs.Implements.{Lists}
use Rattle.lp_spec_realises.specs.Ends.{some_end}
use Rattle.lp_spec_realises.specs.Realises.{cell_of, primary_at, origin_end, cell_joined, joins_of_source, joins_of_operator, joins_of_switch, source_joined, operator_joined, switch_joined, outer_supply, has_origin_port, has_outer_ports, supplies_begin}
use Rattle.lp_spec_written.specs.Places.{Standing, Kept, Switching, plan, with_number}
use Rattle.lp_spec_written.specs.Supplies.{Use, uses, uses_at, or_cell, kept_at, joined_pins, pins_of_cell, source_pins, operator_pins, switch_pins, origin_bits}
use Rattle.lp_spec_written.specs.Written.{Additions, additions}
use Rattle.lp_spec_hub.specs.Entries.{HasItsCells}
use Rattle.lp_spec_hub.specs.Laws.{EndsAsWired, WholePlan, CellsAreThere}
use Rattle.lp_spec_wired.specs.Names.{placement_of}
use Rattle.lp_spec_written_at.specs.Sources.{node_of_bits, HasSwitchCells}
use Rattle.lp_spec_written_at.proofs.Lists.{of-all, all-of, in-some}
use Rattle.lp_spec_written_at.proofs.Cells.{source-cells}
use Rattle.lp_spec_written_at.proofs.NoLack.{cells-are-there}
use Rattle.lp_spec_written_at.proofs.Netlists.{has-origins}
use Rattle.lp_spec_written_at.proofs.SourcePins.{supplies-read}
use Rattle.lp_spec_written_at.proofs.Wiring.{numbered-at}
use Rattle.lp_spec_driven.specs.Sound.{SwitchesOut}
use Rattle.lp_spec_begun.specs.Begun.{HasWires, HasPins, HasOrigins, HasSupplies}
use Rattle.lp_spec_begun.specs.Laws.{SuppliesBegin}
use Rattle.lp_spec_begun.proofs.CellInstances.{IsCellInstance, is-cell-instance}
use Rattle.lp_spec_begun.proofs.Registers.{is-register, register-fits, not-retained}
use Rattle.lp_spec_begun.proofs.Fits.{FitsOperator, fits-operator, fits-switch}
use Rattle.lp_spec_begun.proofs.Inputs.{Stands, its-cell, its-stand}
use Rattle.lp_spec_begun.proofs.OperatorCells as operators
use Rattle.lp_spec_begun.proofs.SwitchCells as switches
use Rattle.lp_spec_begun.proofs.Joined.{supply-end, pins-begin, cell-joined}
use Rattle.lp_spec_begun.proofs.SourceJoins.{HasJoins, own-joins, kept-joins-of}
use Rattle.lp_spec_begun.proofs.Wires.{all-stand}

-- ---- users

abbrev by_sources : Project → Lists → List Use
by_sources p l = flat_map (λ (c : Placed). uses_at c.path (source_pins p (plan p l) c)) (cell_instances p.structure)

abbrev by_operators : Project → Lists → List Use
by_operators p l = flat_map (λ (o : Standing). uses_at o.path (operator_pins p o)) (plan p l).operators

abbrev by_switches : Project → Lists → List Use
by_switches p l = flat_map (λ (s : Switching). uses_at s.path (switch_pins p s)) (plan p l).switches

at-use : (x : Path) (zs : List (Name × ℕ)) (z : Name × ℕ) → IsIn z zs → IsIn (x, z.1) (uses_at x zs)
at-use x zs z h = in-map (λ (q : Name × ℕ). (x, q.1)) z zs h

source-use : (p : Project) (l : Lists) (a : Placed) (z : Name × ℕ) → IsIn a (cell_instances p.structure) → IsIn z (source_pins p (plan p l) a) → IsIn (a.path, z.1) (uses p (plan p l))
source-use p l a z h g =
    in-left (a.path, z.1) (by_sources p l) (by_operators p l ++ by_switches p l)
    (in-flat (λ (c : Placed). uses_at c.path (source_pins p (plan p l) c)) a (a.path, z.1) (cell_instances p.structure) h (at-use a.path (source_pins p (plan p l) a) z g))

operator-use : (p : Project) (l : Lists) (o : Standing) (z : Name × ℕ) → IsIn o (plan p l).operators → IsIn z (operator_pins p o) → IsIn (o.path, z.1) (uses p (plan p l))
operator-use p l o z h g =
    in-right (o.path, z.1) (by_sources p l) (by_operators p l ++ by_switches p l)
    (in-left (o.path, z.1) (by_operators p l) (by_switches p l)
    (in-flat (λ (r : Standing). uses_at r.path (operator_pins p r)) o (o.path, z.1) (plan p l).operators h (at-use o.path (operator_pins p o) z g)))

switch-use : (p : Project) (l : Lists) (s : Switching) (z : Name × ℕ) → IsIn s (plan p l).switches → IsIn z (switch_pins p s) → IsIn (s.path, z.1) (uses p (plan p l))
switch-use p l s z h g =
    in-right (s.path, z.1) (by_sources p l) (by_operators p l ++ by_switches p l)
    (in-right (s.path, z.1) (by_operators p l) (by_switches p l)
    (in-flat (λ (r : Switching). uses_at r.path (switch_pins p r)) s (s.path, z.1) (plan p l).switches h (at-use s.path (switch_pins p s) z g)))

-- ---- joins of a switch

switch-joins-by : (p : Project) (x : SwitchAt) (c : CellView) (s : SetOrigins) (g : SwitchedView) → primary_at p [] ≡ Some s → only (switched_pins c) ≡ Some g → joins_of_switch p x c ≡ Some (switch_joins x.input x.origin s.gnd.0 g.passes)
switch-joins-by p x c s g e f = rw (e) (rw (f) refl)

no-switch-joins : (p : Project) (x : SwitchAt) (c : CellView) → primary_at p [] ≡ None → joins_of_switch p x c ≡ None
no-switch-joins p x c e = rw (e) refl

side-joined : (input output gnd passes k : ℕ) (g : PgPinView) → is_some (switch_side passes k g) ≡ true → is_some (switch_joins input output gnd passes k g) ≡ true
side-joined input output gnd passes k g h = by (switch_side passes k g) h
  where
    by : (o : Option SwitchSide) → is_some o ≡ true → is_some (option_and_then (λ s. Some (switch_origin input output gnd s)) o) ≡ true
    by None e = absurd (false≢true e)
    by (Some s) e = refl

-- ---- origins of the environment's sides

port-there : (p : Project) (w : Structure) (o : ℕ) → slice_get (network_of p).origins o ≡ Some FromPort → has_origin_port p w o ≡ has_origin p w o
port-there p w o e = rw (e) refl

switch-there : (p : Project) (w : Structure) (o input : ℕ) (control : Node) (high : Bool) → slice_get (network_of p).origins o ≡ Some (FromSwitch input control high) → has_origin_port p w o ≡ true
switch-there p w o input control high e = rw (e) refl

module _ (ends : EndsAsWired) (whole : WholePlan) (p : Project) (l : Lists) (w : Structure) (h : HasWires p l w) (pins : HasPins p l) (supplies : HasSupplies p l) where
  abbrev a : Additions
  a = additions p l

  used-end : (x : Path) (o : ℕ) → IsIn (x, o) (uses p (plan p l)) → some_end w (fuel_of w) (node_of_bits x (origin_bits p (plan p l) o)) ≡ origin_end p w (placement_of p l) o
  used-end x o g = supply-end ends whole p l w h (x, o) g (supplies.joined (x, o) g)

  -- ---- cells of the source

  module _ (place : Placed) (there : IsIn place (cell_instances p.structure)) (i : IsCellInstance p place) where
    abbrev at_path : Placed
    at_path = record { path = i.path; instance = i.y.name }

    stands : Stands p l w h pins (all-stand p l w h) place there i
    stands = its-cell p l w h pins (all-stand p l w h) place there i

    at-there : IsIn at_path (cell_instances p.structure)
    at-there = subst (λ z. IsIn z (cell_instances p.structure)) i.is there

    cell-there : cell_of w at_path ≡ Some stands.cell
    cell-there = source-cells p l w h.proper.fit.free h.proper.fit.names h.content at_path i.c i.cell ∙ stands.is

    joins : HasJoins p at_path stands.cell
    joins = by (kept_at (plan p l) at_path) refl
      where
        inside : {u v : CellView} → Some u ≡ Some v → u ≡ v
        inside e = cc

        by : (o : Option Kept) → kept_at (plan p l) at_path ≡ o → HasJoins p at_path stands.cell
        by None e =
            let same : i.c ≡ stands.cell = inside (sym (ap (or_cell (cell_of p.structure at_path)) e ∙ i.cell) ∙ stands.is) in
            subst (HasJoins p at_path) same (own-joins p l supplies place there i (not-retained p l (cells-are-there p l h.order.cells).0 at_path at-there e))
        by (Some k) e =
            let fit = register-fits p l w at_path i.c stands.cell k i.cell cell-there e (its-stand p l w h pins (all-stand p l w h) place there i) in
            kept-joins-of p l supplies place there i k stands.cell (is-register p l at_path k e).strategy fit

    its-pins : (z : Name × ℕ) → IsIn z (joined_pins stands.cell (Some joins.join)) → some_end w (fuel_of w) (node_at_pin w i.path i.y.name z.0) ≡ origin_end p w (placement_of p l) z.1
    its-pins z g =
        let own : IsIn z (source_pins p (plan p l) at_path) = subst (λ c. IsIn z (pins_of_cell p at_path c)) (sym stands.is) (subst (λ o. IsIn z (joined_pins stands.cell o)) (sym joins.join_is) g) in
        ap (some_end w (fuel_of w)) (supplies-read p l w h.proper.fit.free pins.few h.content i.path i.m i.at i.y i.listed i.none stands.cell stands.free z own)
        ∙ used-end i.path z.1 (source-use p l at_path z at-there own)

    its-supplies : source_joined p w (placement_of p l) (fuel_of w) place ≡ true
    its-supplies =
        ap (source_joined p w (placement_of p l) (fuel_of w)) i.is
        ∙ (ap (cell_joined p w (placement_of p l) (fuel_of w) at_path (joins_of_source p at_path)) cell-there
        ∙ cell-joined p l w at_path (joins_of_source p at_path) stands.cell joins.join joins.join_is (pins-begin p l w i.path i.y.name stands.cell joins.join joins.joined its-pins))

  -- ---- operators

  operator-supplies : (q : OperatorAt) → operators.IsOperator p l w q → operator_joined p w (placement_of p l) (fuel_of w) q ≡ true
  operator-supplies q i =
      ap (λ (z : Placed). cell_joined p w (placement_of p l) (fuel_of w) z (joins_of_operator p z.path q.operator) (cell_of w z)) i.placed
      ∙ (ap (cell_joined p w (placement_of p l) (fuel_of w) at (joins_of_operator p i.o.path q.operator)) i.cell
      ∙ cell-joined p l w at (joins_of_operator p i.o.path q.operator) i.o.cell fit.join fit.join_is (pins-begin p l w i.o.path i.y.0 i.o.cell fit.join fit.joined its))
    where
      at : Placed
      at = record { path = i.o.path; instance = i.y.0 }

      fit : FitsOperator p i.o.path q.operator i.o.cell
      fit = fits-operator p i.o.path q.operator i.o.cell i.fits

      its : (z : Name × ℕ) → IsIn z (joined_pins i.o.cell (Some fit.join)) → some_end w (fuel_of w) (node_at_pin w i.o.path i.y.0 z.0) ≡ origin_end p w (placement_of p l) z.1
      its z g =
          let own : IsIn z (operator_pins p i.o) =
          subst (λ (r : OperatorAt). IsIn z (joined_pins i.o.cell (joins_of_operator p i.o.path r.operator i.o.cell))) (sym i.asked) (subst (λ o. IsIn z (joined_pins i.o.cell o)) (sym fit.join_is) g) in
          ap (some_end w (fuel_of w)) (operators.supply-pin p l w h pins q i z own) ∙ used-end i.o.path z.1 (operator-use p l i.o z i.planned own)

  -- ---- switches

  record SwitchJoins (x : SwitchAt) (c : CellView) : Type 0 where
    join : Joins
    join_is : joins_of_switch p x c ≡ Some join
    joined : all_joined c join ≡ true

  switch-has : (x : SwitchAt) (i : switches.IsSwitch p l w x) → SwitchJoins x i.s.cell
  switch-has x i = by (primary_at p []) refl
    where
      out : SwitchesOut p a i.s
      out = h.proper.switches.out i.s i.planned

      by : (o : Option SetOrigins) → primary_at p [] ≡ o → SwitchJoins x i.s.cell
      by None e = absurd (subst (λ o. IsIn out.has.0 (joined_pins i.s.cell o)) (no-switch-joins p i.s.asked i.s.cell e) out.has.1)
      by (Some s) e =
          let fit = fits-switch x i.s.cell i.fits in
          record {
            join = switch_joins x.input x.origin s.gnd.0 fit.switched.passes;
            join_is = switch-joins-by p x i.s.cell s fit.switched e fit.switched_is;
            joined = all-of (λ (v : ℕ × PgPinView). is_some (switch_joins x.input x.origin s.gnd.0 fit.switched.passes v.0 v.1)) (numbered 0 i.s.cell.pgs)
                (λ g t. side-joined x.input x.origin s.gnd.0 fit.switched.passes g.0 g.1 (of-all (λ (v : ℕ × PgPinView). is_some (switch_side fit.switched.passes v.0 v.1)) g (numbered 0 i.s.cell.pgs) fit.joined t));
          }

  switch-supplies : (x : SwitchAt) → switches.IsSwitch p l w x → switch_joined p w (placement_of p l) (fuel_of w) x ≡ true
  switch-supplies x i =
      ap (λ (z : Placed). cell_joined p w (placement_of p l) (fuel_of w) z (joins_of_switch p x) (cell_of w z)) i.placed
      ∙ (ap (cell_joined p w (placement_of p l) (fuel_of w) at (joins_of_switch p x)) i.cell
      ∙ cell-joined p l w at (joins_of_switch p x) i.s.cell has.join has.join_is (pins-begin p l w i.s.path (with_number (codes "lp_s_") i.y.0) i.s.cell has.join has.joined its))
    where
      at : Placed
      at = record { path = i.s.path; instance = with_number (codes "lp_s_") i.y.0 }

      has : SwitchJoins x i.s.cell
      has = switch-has x i

      its : (z : Name × ℕ) → IsIn z (joined_pins i.s.cell (Some has.join)) → some_end w (fuel_of w) (node_at_pin w i.s.path (with_number (codes "lp_s_") i.y.0) z.0) ≡ origin_end p w (placement_of p l) z.1
      its z g =
          let own : IsIn z (switch_pins p i.s) = subst (λ (r : SwitchAt). IsIn z (joined_pins i.s.cell (joins_of_switch p r i.s.cell))) (sym i.asked) (subst (λ o. IsIn z (joined_pins i.s.cell o)) (sym has.join_is) g) in
          ap (some_end w (fuel_of w)) (switches.supply-pin p l w h pins x i z own) ∙ used-end i.s.path z.1 (switch-use p l i.s z i.planned own)

  -- ---- ports of the top

  origin-there : (top : is_some (module_at p.structure []) ≡ true) (o : ℕ) → is_some (slice_get (network_of p).origins o) ≡ true → has_origin_port p w o ≡ true
  origin-there top o some = by (slice_get (network_of p).origins o) refl some
    where
      by : (r : Option Origin) → slice_get (network_of p).origins o ≡ r → is_some r ≡ true → has_origin_port p w o ≡ true
      by None e s = absurd (false≢true s)
      by (Some (FromSwitch input control high)) e s = switch-there p w o input control high e
      by (Some FromPort) e s =
          port-there p w o e
          ∙ of-all (has_origin p w) o (port_origins p) (has-origins p a w h.proper.fit.free h.content top)
          (in-some (λ (v : ℕ × Origin). if_port v.0 v.1) (o, FromPort) o (numbered 0 (network_of p).origins) (numbered-at (network_of p).origins o FromPort e) refl)

  outer-by : (top : is_some (module_at p.structure []) ≡ true) (s : Option SupplySet) → HasOrigins p s → has_outer_ports p w s ≡ true
  outer-by top None g = absurd g
  outer-by top (Some s) g = both (has_origin_port p w s.power) (has_origin_port p w s.gnd) (origin-there top s.power g.0) (origin-there top s.gnd g.1)

  port-supplies : (q : PortView) → IsIn q (top_ports p.structure) → has_outer_ports p w (outer_supply p q) ≡ true
  port-supplies q g = outer-by (top (module_at p.structure []) g) (outer_supply p q) (supplies.outer q g)
    where
      top : (o : Option ModuleView) → IsIn q (ports_of o) → is_some o ≡ true
      top None r = absurd r
      top (Some m) r = refl

  -- ---- all of them

  has-switch-cells : HasSwitchCells p l
  has-switch-cells = record { chosen = (cells-are-there p l h.order.cells).1; scope = supplies.scopes }

  all-supplies : HasItsCells p l → supplies_begin p w (placement_of p l) (fuel_of w) ≡ true
  all-supplies cells =
      both (list_all (source_joined p w (placement_of p l) (fuel_of w)) (cell_instances p.structure)) _
      (all-of (source_joined p w (placement_of p l) (fuel_of w)) (cell_instances p.structure) (λ place g. its-supplies place g (is-cell-instance p h.proper.fit.free place g)))
      (both (list_all (operator_joined p w (placement_of p l) (fuel_of w)) (all_operators p)) _
      (all-of (operator_joined p w (placement_of p l) (fuel_of w)) (all_operators p) (λ q g. operator-supplies q (operators.is-operator p l w h cells q g)))
      (both (list_all (switch_joined p w (placement_of p l) (fuel_of w)) (all_switches p)) _
      (all-of (switch_joined p w (placement_of p l) (fuel_of w)) (all_switches p) (λ x g. switch-supplies x (switches.is-switch p l w h pins has-switch-cells x g)))
      (all-of (λ port. has_outer_ports p w (outer_supply p port)) (top_ports p.structure) port-supplies)))

pub supplies-begin : EndsAsWired → WholePlan → CellsAreThere → SuppliesBegin
supplies-begin ends whole cells p l w h pins supplies = all-supplies ends whole p l w h pins supplies (cells p l h.order.cells)
