-- Enables, switch pins and retention pins begin in the written netlist where their controls do.
use Rattle.std.proofs.Common.{◌≡◌, ℕ, Bool, true, false, ◌&&◌, List, ◌++◌, map, Option, Some, None, inl, refl, sym, ap, ◌∙◌, subst}
use Rattle.std.specs.Prelude.{codes, is_some, if◌then◌else◌, option_and_then, flat_map}
use Rattle.std.specs.List.{list_all}
use Rattle.std.proofs.lemmas.Bool.{false≢true}
use Rattle.lp_model.specs.declared.library.Action.{Action}
use Rattle.lp_model.specs.declared.library.PinUse.{PinUse}
use Rattle.lp_model.specs.declared.library.PinUse.TheVariants.{Retain}
use Rattle.lp_model.specs.declared.library.RetClass.TheVariants.{Save, Restore, Both}
use Rattle.lp_model.specs.LibraryView.{PinView, CellView}
use Rattle.lp_spec_design.specs.Keys.{Node, Path}
use Rattle.lp_spec_design.specs.Netlists.{Structure}
use Rattle.lp_spec_design.specs.Instances.{Placed, cell_instances}
use Rattle.lp_spec_design.specs.Nodes.{fuel_of}
use Rattle.lp_spec_design.specs.Intents.{Strategy}
use Rattle.lp_spec_design.specs.Chains.{Operator, Clamp, Shift}
use Rattle.lp_spec_design.specs.Registers.{retention, holds_state, is_retained_register}
use Rattle.lp_spec_design.specs.Reads.{both}
use Rattle.lp_spec_design.specs.Winners.{IsIn}
use Rattle.lp_spec_design.proofs.Members.{in-left, in-right, in-map, in-flat, of-filter}
use Rattle.lp_spec_pins.specs.Pins.{input_for}
use Rattle.lp_spec_fit.specs.Fits.{is_iso_enable, is_switch_pin, is_retention_pin, retention_pins}
use Rattle.lp_spec_realises.specs.Projects.{Project}
use Rattle.lp_spec_realises.specs.Operators.{OperatorAt, all_operators, SwitchAt, all_switches, placed_operator}
use Rattle.lp_spec_realises.specs.Implements.{Lists, is_retained}
use Rattle.lp_spec_realises.specs.Ends.{some_end, intended}
use Rattle.lp_spec_realises.specs.Realises.{cell_of, operator_fits, control_of, control_begins, enable_begins, switch_pin_begins, retention_pins_begin, retention_begins, controls_begin}
use Rattle.lp_spec_written.specs.Places.{Standing, Kept, Switching, plan, with_number}
use Rattle.lp_spec_written.specs.Supplies.{kept_at}
use Rattle.lp_spec_written.specs.Routes.{Route, routes, to_instance, enable_of, node_in, some_control_bits}
use Rattle.lp_spec_written.specs.Written.{Additions, additions}
use Rattle.lp_spec_hub.specs.Entries.{HasItsCells}
use Rattle.lp_spec_hub.specs.Laws.{EndsAsWired, WholePlan, RoutesAreSound, RoutesCome, CellsAreThere}
use Rattle.lp_spec_wired.specs.Names.{placement_of}
use Rattle.lp_spec_written_at.specs.Sources.{IsNetBit, node_of_bits, HasSwitchCells}
use Rattle.lp_spec_written_at.proofs.Lists.{all-of}
use Rattle.lp_spec_written_at.proofs.Paths.{some-is}
use Rattle.lp_spec_written_at.proofs.NoLack.{cells-are-there}
use Rattle.lp_spec_written_at.proofs.Cells.{source-cells}
use Rattle.lp_spec_written_at.proofs.ControlNodes.{enable-good, control-good, register-strategy, switch-good}
use Rattle.lp_spec_written_at.proofs.SourcePins.{retention-read}
use Rattle.lp_spec_begun.specs.Begun.{HasWires, HasPins, HasControlNets}
use Rattle.lp_spec_begun.specs.Laws.{ControlsBegin}
use Rattle.lp_spec_begun.proofs.Ends.{end-is}
use Rattle.lp_spec_begun.proofs.CellInstances.{IsCellInstance, is-cell-instance}
use Rattle.lp_spec_begun.proofs.Registers.{is-register, register-fits, not-retained}
use Rattle.lp_spec_begun.proofs.Fits.{enable-of-clamp, fits-switch}
use Rattle.lp_spec_begun.proofs.Inputs.{Stands, its-cell, its-stand}
use Rattle.lp_spec_begun.proofs.OperatorCells.{IsOperator, is-operator, enable-pin}
use Rattle.lp_spec_begun.proofs.SwitchCells.{IsSwitch, is-switch, control-pin}
use Rattle.lp_spec_begun.proofs.Controls.{control-end}
use Rattle.lp_spec_begun.proofs.Wires.{all-stand}

-- ---- routes

abbrev enables : Project → Lists → List Route
enables p l = flat_map (λ (o : Standing). to_instance o.path (enable_of p o.asked.operator)) (plan p l).operators

abbrev retained : Project → Lists → List Route
retained p l = flat_map (λ (k : Kept). to_instance k.place.path (node_in k.strategy.save) ++ to_instance k.place.path (node_in k.strategy.restore)) (plan p l).registers

abbrev switched : Project → Lists → List Route
switched p l = map (λ (s : Switching). (s.asked.control, s.path)) (plan p l).switches

to-some : (x : Path) (o : Option Node) (k : Node) → o ≡ Some k → IsIn (k, x) (to_instance x o)
to-some x o k e = subst (λ r. IsIn (k, x) (to_instance x r)) (sym e) (inl refl)

enable-route : (p : Project) (l : Lists) (o : Standing) (k : Node) → IsIn o (plan p l).operators → enable_of p o.asked.operator ≡ Some k → IsIn (k, o.path) (routes p (plan p l))
enable-route p l o k h e =
    in-left (k, o.path) (enables p l) (retained p l ++ switched p l)
    (in-flat (λ (r : Standing). to_instance r.path (enable_of p r.asked.operator)) o (k, o.path) (plan p l).operators h (to-some o.path (enable_of p o.asked.operator) k e))

switch-route : (p : Project) (l : Lists) (s : Switching) → IsIn s (plan p l).switches → IsIn (s.asked.control, s.path) (routes p (plan p l))
switch-route p l s h =
    in-right (s.asked.control, s.path) (enables p l) (retained p l ++ switched p l)
    (in-right (s.asked.control, s.path) (retained p l) (switched p l) (in-map (λ (r : Switching). (r.asked.control, r.path)) s (plan p l).switches h))

-- a control of a register
data IsControlOf (t : Strategy) (k : Node) : Type 0 where
  saving : node_in t.save ≡ Some k → IsControlOf t k
  restoring : node_in t.restore ≡ Some k → IsControlOf t k

register-route : (p : Project) (l : Lists) (r : Kept) (k : Node) → IsIn r (plan p l).registers → IsControlOf r.strategy k → IsIn (k, r.place.path) (routes p (plan p l))
register-route p l r k h of =
    in-right (k, r.place.path) (enables p l) (retained p l ++ switched p l)
    (in-left (k, r.place.path) (retained p l) (switched p l)
    (in-flat (λ (v : Kept). to_instance v.place.path (node_in v.strategy.save) ++ to_instance v.place.path (node_in v.strategy.restore)) r (k, r.place.path) (plan p l).registers h (by of)))
  where
    by : IsControlOf r.strategy k → IsIn (k, r.place.path) (to_instance r.place.path (node_in r.strategy.save) ++ to_instance r.place.path (node_in r.strategy.restore))
    by (saving e) = in-left (k, r.place.path) (to_instance r.place.path (node_in r.strategy.save)) (to_instance r.place.path (node_in r.strategy.restore)) (to-some r.place.path (node_in r.strategy.save) k e)
    by (restoring e) = in-right (k, r.place.path) (to_instance r.place.path (node_in r.strategy.save)) (to_instance r.place.path (node_in r.strategy.restore)) (to-some r.place.path (node_in r.strategy.restore) k e)

-- a retention pin has its control
control-by : (t : Strategy) (save restore : Node × Action) → t.save ≡ Some save → t.restore ≡ Some restore → (q : PinView) → is_retention_pin q ≡ true → (k : Node) × (control_of t q.use_of ≡ Some k) × IsControlOf t k
control-by t save restore e f q g = by q.use_of (ap (λ u. is_retention_pin (record q { use_of = u })) refl ∙ g)
  where
    saved : node_in t.save ≡ Some save.0
    saved = ap node_in e

    restored : node_in t.restore ≡ Some restore.0
    restored = ap node_in f

    by : (u : PinUse) → is_retention_pin (record q { use_of = u }) ≡ true → (k : Node) × (control_of t u ≡ Some k) × IsControlOf t k
    by (Retain Save a b) h = (save.0, saved, saving saved)
    by (Retain Restore a b) h = (restore.0, restored, restoring restored)
    by (Retain Both a b) h = (save.0, saved, saving saved)
    by u h = absurd (false≢true h)

-- ---- pins

begins-with : (p : Project) (l : Lists) (w : Structure) (a : Placed) (o : Option Node) (r : Option PinView) (k : Node) (q : PinView) → o ≡ Some k → r ≡ Some q → control_begins p w (placement_of p l) (fuel_of w) a (Some k) (Some q) ≡ true → control_begins p w (placement_of p l) (fuel_of w) a o r ≡ true
begins-with p l w a o r k q e f h = ap (λ z. control_begins p w (placement_of p l) (fuel_of w) a z r) e ∙ (ap (control_begins p w (placement_of p l) (fuel_of w) a (Some k)) f ∙ h)

enable-clamp : (p : Project) (l : Lists) (w : Structure) (q : OperatorAt) (t i : ℕ) → q.operator ≡ Clamp t i
    → enable_begins p w (placement_of p l) (fuel_of w) q
    ≡ control_begins p w (placement_of p l) (fuel_of w) (placed_operator (placement_of p l) q) (enable_of p (Clamp t i)) (option_and_then (input_for is_iso_enable) (cell_of w (placed_operator (placement_of p l) q)))
enable-clamp p l w q t i e = rw (e) refl

enable-shift : (p : Project) (l : Lists) (w : Structure) (q : OperatorAt) (t a b : ℕ) → q.operator ≡ Shift t a b → enable_begins p w (placement_of p l) (fuel_of w) q ≡ true
enable-shift p l w q t a b e = rw (e) refl

-- a register with retention, by its cell
state-of : (o : Option CellView) → holds_state o ≡ is_some (option_and_then (λ (c : CellView). c.state) o)
state-of None = refl
state-of (Some c) = refl

both-ways : (a b : Bool) → (a && b) ≡ (b && a)
both-ways true true = refl
both-ways true false = refl
both-ways false true = refl
both-ways false false = refl

retained-is : (p : Project) (a : Placed) → is_retained_register p.structure p.intent a.path a.instance ≡ is_retained p a
retained-is p a =
    ap (λ b. b && is_some (retention p.intent a.path a.instance)) (state-of (cell_of p.structure a))
    ∙ both-ways (is_some (option_and_then (λ (c : CellView). c.state) (cell_of p.structure a))) (is_some (retention p.intent a.path a.instance))

retention-some : (p : Project) (l : Lists) (w : Structure) (a : Placed) (t : Strategy) (c : CellView) → is_retained p a ≡ true → retention p.intent a.path a.instance ≡ Some t → cell_of w a ≡ Some c
    → retention_begins p w (placement_of p l) (fuel_of w) a ≡ list_all (λ (q : PinView). control_begins p w (placement_of p l) (fuel_of w) a (control_of t q.use_of) (Some q)) (retention_pins c)
retention-some p l w a t c r e f =
    ap (λ b. if b then retention_pins_begin p w (placement_of p l) (fuel_of w) a (retention p.intent a.path a.instance) (cell_of w a) else true) (retained-is p a ∙ r)
    ∙ (ap (λ o. retention_pins_begin p w (placement_of p l) (fuel_of w) a o (cell_of w a)) e ∙ ap (retention_pins_begin p w (placement_of p l) (fuel_of w) a (Some t)) f)

retention-none : (p : Project) (l : Lists) (w : Structure) (a : Placed) → is_retained p a ≡ false → retention_begins p w (placement_of p l) (fuel_of w) a ≡ true
retention-none p l w a r = ap (λ b. if b then retention_pins_begin p w (placement_of p l) (fuel_of w) a (retention p.intent a.path a.instance) (cell_of w a) else true) (retained-is p a ∙ r)

module _ (sound : RoutesAreSound) (come : RoutesCome) (ends : EndsAsWired) (whole : WholePlan) (p : Project) (l : Lists) (w : Structure) (h : HasWires p l w) (pins : HasPins p l) (controls : HasControlNets p l) where
  abbrev a : Additions
  a = additions p l

  -- ---- enables

  enable-by : (q : OperatorAt) → IsIn q (all_operators p) → IsOperator p l w q → (o : Operator) → q.operator ≡ o → enable_begins p w (placement_of p l) (fuel_of w) q ≡ true
  enable-by q g i (Shift t x y) e = enable-shift p l w q t x y e
  enable-by q g i (Clamp t j) e =
      let k = some-is (enable_of p q.operator) (controls.enables q t j g e) in
      let its : enable_of p (Clamp t j) ≡ Some k.0 = ap (enable_of p) (sym e) ∙ k.1 in
      let pin = enable-of-clamp p i.o.path t j i.o.cell (ap (λ r. operator_fits p i.o.path r i.o.cell) (sym e) ∙ i.fits) in
      let asked : enable_of p i.o.asked.operator ≡ Some k.0 = ap (λ (r : OperatorAt). enable_of p r.operator) i.asked ∙ k.1 in
      let route = enable-route p l i.o k.0 i.planned asked in
      let end = control-end sound come p l w h ends whole k.0 i.o.path i.m i.module_is route (controls.inside (k.0, i.o.path) route) (enable-good p controls.declared q.operator k.0 k.1) in
      let there = enable-pin p l w h pins q i pin.0 pin.1 ∙ ap (λ r. node_of_bits i.o.path (some_control_bits a.chains a.controls i.o.path r)) k.1 in
      enable-clamp p l w q t j e
      ∙ (ap (λ (z : Placed). control_begins p w (placement_of p l) (fuel_of w) z (enable_of p (Clamp t j)) (option_and_then (input_for is_iso_enable) (cell_of w z))) i.placed
      ∙ begins-with p l w (record { path = i.o.path; instance = i.y.0 }) (enable_of p (Clamp t j)) _ k.0 pin.0 its (ap (option_and_then (input_for is_iso_enable)) i.cell ∙ pin.1)
      (end-is _ (intended p w (placement_of p l) k.0) (ap (some_end w (fuel_of w)) there ∙ end)))

  -- ---- switch pins

  switch-pin : (x : SwitchAt) → IsIn x (all_switches p) → IsSwitch p l w x → switch_pin_begins p w (placement_of p l) (fuel_of w) x ≡ true
  switch-pin x g i =
      let pin = fits-switch x i.s.cell i.fits in
      let route : IsIn (x.control, i.s.path) (routes p (plan p l)) = subst (λ (z : SwitchAt). IsIn (z.control, i.s.path) (routes p (plan p l))) i.asked (switch-route p l i.s i.planned) in
      let good : IsNetBit p.structure x.control = subst (λ (z : SwitchAt). IsNetBit p.structure z.control) i.asked (switch-good p controls.declared l i.s i.planned) in
      let end = control-end sound come p l w h ends whole x.control i.s.path i.m i.module_is route (controls.inside (x.control, i.s.path) route) good in
      ap (λ (z : Placed). control_begins p w (placement_of p l) (fuel_of w) z (Some x.control) (option_and_then (input_for is_switch_pin) (cell_of w z))) i.placed
      ∙ begins-with p l w (record { path = i.s.path; instance = with_number (codes "lp_s_") i.y.0 }) (Some x.control) _ x.control pin.pin refl (ap (option_and_then (input_for is_switch_pin)) i.cell ∙ pin.pin_is)
      (end-is _ (intended p w (placement_of p l) x.control) (ap (some_end w (fuel_of w)) (control-pin p l w h pins x i pin.pin pin.pin_is) ∙ end))

  -- ---- retention pins

  module _ (place : Placed) (there : IsIn place (cell_instances p.structure)) (i : IsCellInstance p place) where
    abbrev at_path : Placed
    at_path = record { path = i.path; instance = i.y.name }

    stands : Stands p l w h pins (all-stand p l w h) place there i
    stands = its-cell p l w h pins (all-stand p l w h) place there i

    cell-there : cell_of w at_path ≡ Some stands.cell
    cell-there = source-cells p l w h.proper.fit.free h.proper.fit.names h.content at_path i.c i.cell ∙ stands.is

    kept-pins : (k : Kept) → kept_at (plan p l) at_path ≡ Some k → (q : PinView) → IsIn q (retention_pins stands.cell) → control_begins p w (placement_of p l) (fuel_of w) at_path (control_of k.strategy q.use_of) (Some q) ≡ true
    kept-pins k e q g =
        let is = is-register p l at_path k e in
        let fit = register-fits p l w at_path i.c stands.cell k i.cell cell-there e (its-stand p l w h pins (all-stand p l w h) place there i) in
        let control = control-by k.strategy fit.save fit.restore fit.save_is fit.restore_is q (of-filter is_retention_pin q stands.cell.pins g).1 in
        let route : IsIn (control.0, i.path) (routes p (plan p l)) = subst (λ (z : Placed). IsIn (control.0, z.path) (routes p (plan p l))) is.place (register-route p l k control.0 is.among control.2) in
        let good = control-good p controls.declared k.strategy q.use_of control.0 (register-strategy p controls.declared l k is.among) control.1 in
        let end = control-end sound come p l w h ends whole control.0 i.path i.m i.at route (controls.inside (control.0, i.path) route) good in
        let pin = retention-read p l w h.proper.fit.free pins.few h.content i.path i.m i.at i.y i.listed i.none stands.cell stands.free k e q g ∙ ap (λ r. node_of_bits i.path (some_control_bits a.chains a.controls i.path r)) control.1 in
        begins-with p l w at_path (control_of k.strategy q.use_of) (Some q) control.0 q control.1 refl
        (end-is _ (intended p w (placement_of p l) control.0) (ap (some_end w (fuel_of w)) pin ∙ end))

    retention-pin : (o : Option Kept) → kept_at (plan p l) at_path ≡ o → retention_begins p w (placement_of p l) (fuel_of w) at_path ≡ true
    retention-pin None e = retention-none p l w at_path (not-retained p l (cells-are-there p l h.order.cells).0 at_path (subst (λ z. IsIn z (cell_instances p.structure)) i.is there) e)
    retention-pin (Some k) e =
        let is = is-register p l at_path k e in
        retention-some p l w at_path k.strategy stands.cell is.retained is.strategy cell-there
        ∙ all-of (λ (q : PinView). control_begins p w (placement_of p l) (fuel_of w) at_path (control_of k.strategy q.use_of) (Some q)) (retention_pins stands.cell) (kept-pins k e)

    pub its-retention : retention_begins p w (placement_of p l) (fuel_of w) place ≡ true
    its-retention = ap (retention_begins p w (placement_of p l) (fuel_of w)) i.is ∙ retention-pin (kept_at (plan p l) at_path) refl

  -- ---- all of them

  has-switch-cells : HasSwitchCells p l
  has-switch-cells = record { chosen = (cells-are-there p l h.order.cells).1; scope = controls.scopes }

  all-controls : HasItsCells p l → controls_begin p w (placement_of p l) (fuel_of w) ≡ true
  all-controls cells =
      both (list_all (enable_begins p w (placement_of p l) (fuel_of w)) (all_operators p)) _
      (all-of (enable_begins p w (placement_of p l) (fuel_of w)) (all_operators p) (λ q g. enable-by q g (is-operator p l w h cells q g) q.operator refl))
      (both (list_all (switch_pin_begins p w (placement_of p l) (fuel_of w)) (all_switches p)) _
      (all-of (switch_pin_begins p w (placement_of p l) (fuel_of w)) (all_switches p) (λ x g. switch-pin x g (is-switch p l w h pins has-switch-cells x g)))
      (all-of (retention_begins p w (placement_of p l) (fuel_of w)) (cell_instances p.structure) (λ place g. its-retention place g (is-cell-instance p h.proper.fit.free place g))))

pub controls-begin : RoutesAreSound → RoutesCome → EndsAsWired → WholePlan → CellsAreThere → ControlsBegin
controls-begin sound come ends whole cells p l w h pins controls = all-controls sound come ends whole p l w h pins controls (cells p l h.order.cells)
