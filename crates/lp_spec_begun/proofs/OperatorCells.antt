-- Each operator in the written netlist: its instance, its cell, and what its pins are connected to.
use Rattle.std.proofs.Common.{◌≡◌, ℕ, true, List, ◌++◌, Option, Some, inl, refl, sym, ap, ◌∙◌, subst}
use Rattle.std.specs.Prelude.{slice_get}
use Rattle.lp_model.specs.NetlistView.{BitView, ConnectionView, ModuleView}
use Rattle.lp_model.specs.LibraryView.{PinView}
use Rattle.lp_spec_design.specs.Keys.{Name, same_way}
use Rattle.lp_spec_design.specs.Netlists.{Structure, module_at}
use Rattle.lp_spec_design.specs.Instances.{Placed}
use Rattle.lp_spec_design.specs.Chains.{bit_of_way}
use Rattle.lp_spec_design.specs.Domains.{BoundaryBit, boundary, way_of}
use Rattle.lp_spec_design.specs.Settled.{node_at_pin}
use Rattle.lp_spec_design.specs.Winners.{IsIn}
use Rattle.lp_spec_design.proofs.Members.{in-left, in-right, in-map, of-filter}
use Rattle.lp_spec_pins.specs.Pins.{input_for}
use Rattle.lp_spec_fit.specs.Fits.{one_output, is_iso_enable}
use Rattle.lp_spec_realises.specs.Projects.{Project}
use Rattle.lp_spec_realises.specs.Operators.{OperatorAt, all_operators, placed_operator}
use Rattle.lp_spec_realises.specs.Implements.{Lists}
use Rattle.lp_spec_realises.specs.Realises.{cell_of, passed_by, operator_fits, operator_stands, data_pin}
use Rattle.lp_spec_written.specs.Places.{instances, Standing, plan}
use Rattle.lp_spec_written.specs.Nets.{Linked, linked}
use Rattle.lp_spec_written.specs.Supplies.{joined_to, origin_bits, operator_pins, supply_connections}
use Rattle.lp_spec_written.specs.Routes.{enable_of, some_control_bits}
use Rattle.lp_spec_written.specs.Written.{Additions, additions, at_pin, named_operators, written_operator}
use Rattle.lp_spec_hub.specs.Spots.{on_way}
use Rattle.lp_spec_hub.specs.Entries.{HasItsCells}
use Rattle.lp_spec_wired.specs.Names.{operator_at, placement_of}
use Rattle.lp_spec_written_at.specs.Sources.{node_of_bits, connections_of}
use Rattle.lp_spec_written_at.proofs.Lists.{of-all, some-first}
use Rattle.lp_spec_written_at.proofs.Paths.{some-is}
use Rattle.lp_spec_written_at.proofs.Modules.{in-instances}
use Rattle.lp_spec_written_at.proofs.Instances.{instances-apart, is-planned, asked-bit}
use Rattle.lp_spec_written_at.proofs.Placed.{operator-placed}
use Rattle.lp_spec_written_at.proofs.Stands.{way-self, at-number, operators-stand}
use Rattle.lp_spec_written_at.proofs.PinsAt.{operator-read}
use Rattle.lp_spec_driven.proofs.Linked.{IsLinked, written-for}
use Rattle.lp_spec_driven.proofs.Operators.{slice-in}
use Rattle.lp_spec_begun.specs.Begun.{HasWires, HasPins}

-- an operator that is asked for, with its place on its way, its written instance, and its cell, which fits
pub record IsOperator (p : Project) (l : Lists) (w : Structure) (q : OperatorAt) : Type 0 where
  pub o : Standing
  pub at : slice_get (on_way (plan p l).operators (way_of q.bit)) q.number ≡ Some o
  pub asked : o.asked ≡ q
  pub planned : IsIn o (plan p l).operators
  pub m : ModuleView
  pub module_is : module_at p.structure o.path ≡ Some m
  pub y : Name × Linked
  pub listed : IsIn y (named_operators (linked p (additions p l).chains o.path))
  pub standing : y.1.0 ≡ o
  pub link : IsLinked p (additions p l) o.path y (way_of q.bit) q.number
  pub placed : placed_operator (placement_of p l) q ≡ record { path = o.path; instance = y.0 }
  pub cell : cell_of w (record { path = o.path; instance = y.0 }) ≡ Some o.cell
  pub fits : operator_fits p o.path q.operator o.cell ≡ true
  pub bit : BoundaryBit
  pub bit_is : bit_of_way p.structure p.intent (way_of q.bit) ≡ Some bit

module _ (p : Project) (l : Lists) (w : Structure) (h : HasWires p l w) (cells : HasItsCells p l) where
  abbrev a : Additions
  a = additions p l

  pub is-operator : (q : OperatorAt) → IsIn q (all_operators p) → IsOperator p l w q
  is-operator q g =
      let its = at-number p l h.proper.names.ways cells q g in
      let o = its.0 in
      let in_plan = (of-filter (λ (r : Standing). same_way (way_of r.asked.bit) (way_of q.bit)) o (plan p l).operators (slice-in (on_way (plan p l).operators (way_of q.bit)) q.number o its.1)).0 in
      let planned = is-planned p l o in_plan in
      let there : IsIn o.path (instances p) = in-instances p a h.proper.fit.free h.proper.fit.listed o.path planned.inner.inner planned.inner.at in
      let found = written-for p a h.proper.names.chains h.proper.names.stand h.proper.names.bits (instances-apart p.structure h.proper.fit.free.apart) h.proper.names.ways o.path there (way_of q.bit) q.number o its.1 refl in
      let placed : placed_operator (placement_of p l) q ≡ record { path = o.path; instance = found.0.0 } =
      ap (operator_at p a (on_way (plan p l).operators (way_of q.bit)) (way_of q.bit) q.number) its.1 ∙ ap (λ n. record { path = o.path; instance = n }) found.3.named in
      let at = operator-placed p l w h.proper.fit.free h.proper.fit.names h.proper.names.ways h.content h.proper.fit.few (way_of q.bit) q.number o its.1 in
      let cell : cell_of w (record { path = o.path; instance = found.0.0 }) ≡ Some o.cell = ap (cell_of w) (sym placed) ∙ at.1 in
      let stands : operator_stands p w (placement_of p l) q ≡ true = of-all (operator_stands p w (placement_of p l)) q (all_operators p) (operators-stand p l w h.proper.fit.free h.proper.fit.names h.proper.names.ways cells h.content h.proper.fit.few) g in
      let way_bit = some-is (bit_of_way p.structure p.intent (way_of q.bit)) (some-first (λ (c : BoundaryBit). same_way (way_of c) (way_of q.bit)) q.bit (boundary p.structure p.intent) (asked-bit p q g) (way-self q.bit)) in
      record {
        o = o;
        at = its.1;
        asked = its.2.asked;
        planned = in_plan;
        m = planned.inner.inner;
        module_is = planned.inner.at;
        y = found.0;
        listed = found.1;
        standing = found.2;
        link = found.3;
        placed = placed;
        cell = cell;
        fits = sym (ap (passed_by (operator_fits p o.path q.operator)) cell) ∙ (sym (ap (λ (z : Placed). passed_by (operator_fits p z.path q.operator) (cell_of w z)) placed) ∙ stands);
        bit = way_bit.0;
        bit_is = way_bit.1;
      }

-- ---- its pins

module _ (p : Project) (l : Lists) (w : Structure) (h : HasWires p l w) (pins : HasPins p l) (q : OperatorAt) (i : IsOperator p l w q) where
  abbrev its : Additions
  its = additions p l

  abbrev connections : List ConnectionView
  connections = connections_of (written_operator p its i.o.path i.y).connections

  at-some : (d : PinView) (o : Option PinView) (bits : List BitView) → o ≡ Some d → IsIn (joined_to d.name bits) (at_pin o bits)
  at-some d o bits e = subst (λ r. IsIn (joined_to d.name bits) (at_pin r bits)) (sym e) (inl refl)

  its-pin : (c : ConnectionView) → IsIn c connections → node_at_pin w i.o.path i.y.0 c.port ≡ node_of_bits i.o.path c.bits
  its-pin c g = operator-read p l w h.proper.fit.free pins.few h.content i.o.path i.m i.module_is i.y i.listed (pins.operators i.y.1.0 (subst (λ r. IsIn r (plan p l).operators) (sym i.standing) i.planned)) c g

  abbrev reading : List ConnectionView
  reading = at_pin (data_pin i.y.1.0.asked.operator i.y.1.0.cell) i.y.1.1.0

  abbrev enabling : List ConnectionView
  enabling = at_pin (input_for is_iso_enable i.y.1.0.cell) (some_control_bits its.chains its.controls i.o.path (enable_of p i.y.1.0.asked.operator))

  abbrev driving : List ConnectionView
  driving = at_pin (one_output i.y.1.0.cell) i.y.1.1.1

  abbrev supplied : List ConnectionView
  supplied = supply_connections p its.plan (operator_pins p i.y.1.0)

  pub data-pin : (d : PinView) → data_pin q.operator i.o.cell ≡ Some d → node_at_pin w i.o.path i.y.0 d.name ≡ node_of_bits i.o.path i.y.1.1.0
  data-pin d e =
      let is : data_pin i.y.1.0.asked.operator i.y.1.0.cell ≡ Some d = ap (λ (r : Standing). data_pin r.asked.operator r.cell) i.standing ∙ (ap (λ (r : OperatorAt). data_pin r.operator i.o.cell) i.asked ∙ e) in
      its-pin (joined_to d.name i.y.1.1.0) (in-left (joined_to d.name i.y.1.1.0) reading (enabling ++ (driving ++ supplied)) (at-some d (data_pin i.y.1.0.asked.operator i.y.1.0.cell) i.y.1.1.0 is))

  pub enable-pin : (d : PinView) → input_for is_iso_enable i.o.cell ≡ Some d → node_at_pin w i.o.path i.y.0 d.name ≡ node_of_bits i.o.path (some_control_bits its.chains its.controls i.o.path (enable_of p q.operator))
  enable-pin d e =
      let bits = some_control_bits its.chains its.controls i.o.path (enable_of p i.y.1.0.asked.operator) in
      let is : input_for is_iso_enable i.y.1.0.cell ≡ Some d = ap (λ (r : Standing). input_for is_iso_enable r.cell) i.standing ∙ e in
      its-pin (joined_to d.name bits)
      (in-right (joined_to d.name bits) reading (enabling ++ (driving ++ supplied))
      (in-left (joined_to d.name bits) enabling (driving ++ supplied) (at-some d (input_for is_iso_enable i.y.1.0.cell) bits is)))
      ∙ ap (λ (r : OperatorAt). node_of_bits i.o.path (some_control_bits its.chains its.controls i.o.path (enable_of p r.operator))) (ap (λ (r : Standing). r.asked) i.standing ∙ i.asked)

  pub supply-pin : (z : Name × ℕ) → IsIn z (operator_pins p i.o) → node_at_pin w i.o.path i.y.0 z.0 ≡ node_of_bits i.o.path (origin_bits p its.plan z.1)
  supply-pin z g =
      let c : ConnectionView = joined_to z.0 (origin_bits p its.plan z.1) in
      let here : IsIn z (operator_pins p i.y.1.0) = subst (λ r. IsIn z (operator_pins p r)) (sym i.standing) g in
      its-pin c
      (in-right c reading (enabling ++ (driving ++ supplied))
      (in-right c enabling (driving ++ supplied)
      (in-right c driving supplied (in-map (λ (v : Name × ℕ). joined_to v.0 (origin_bits p its.plan v.1)) z (operator_pins p i.y.1.0) here))))
