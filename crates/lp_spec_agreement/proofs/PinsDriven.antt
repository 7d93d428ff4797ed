-- What drives the pins and the top inputs at which nodes of the source begin, and what is read there.
use Rattle.std.proofs.Common.{◌≡◌, ◌⊎◌, ℕ, Bool, true, false, not, List, Option, Some, None, inl, inr, refl, sym, ap, ◌∙◌, subst}
use Rattle.std.specs.Prelude.{bytes_eq, is_some, if◌then◌else◌, option_and_then}
use Rattle.std.proofs.lemmas.Bool.{and_parts, false≢true, both_ways}
use Rattle.lp_tern.specs.declared.supply.SupplyState.{SupplyState}
use Rattle.lp_model.specs.declared.fault.netlist.UnfitReason.TheVariants as unfit
use Rattle.lp_model.specs.declared.library.PgKind.TheVariants as kinds
use Rattle.lp_model.specs.NetlistView.{InstanceView, ModuleView}
use Rattle.lp_model.specs.LibraryView.{SwitchedView, PgPinView, PinView, CellView}
use Rattle.lp_spec_design.specs.Keys.{Name, Path, Node, Outer, CellPin, SwitchedPin, Environment}
use Rattle.lp_spec_design.specs.Netlists.{Structure, cell_named, cell_at}
use Rattle.lp_spec_design.specs.Instances.{Placed}
use Rattle.lp_spec_design.specs.Nodes.{fuel_of}
use Rattle.lp_spec_design.specs.Graph.{source_of, is_output_pin}
use Rattle.lp_spec_design.specs.Domains.{domain_of, primary_of, source_supply}
use Rattle.lp_spec_design.specs.Chains.{Operator, Clamp, Shift, supply_behind}
use Rattle.lp_spec_design.specs.Winners.{IsIn}
use Rattle.lp_spec_design.specs.Reads.{name-true}
use Rattle.lp_spec_design.specs.Registers.{retention}
use Rattle.lp_spec_design.specs.Settled.{Assignment, Event, state_of, pin_named, node_at_pin}
use Rattle.lp_spec_design.proofs.Members.{in-flat, in-map, any-in, of-filter}
use Rattle.lp_spec_design.proofs.Sources.{first_in}
use Rattle.lp_spec_pins.specs.Pins.{FromTop, Powered, PinAssignment, Pair, state_pair, input_value, is_input_pin, read_by, related, related_of, related_of_pin, pin_value, pins_read}
use Rattle.lp_spec_pins.specs.Supplied.{is_supplied}
use Rattle.lp_spec_network.specs.Pairs.{pairs_of}
use Rattle.lp_spec_fit.specs.Fits.{is_retention_pin, plain_pins, same_pin, has_pins_of}
use Rattle.lp_spec_realises.specs.Projects.{Project}
use Rattle.lp_spec_realises.specs.ProjectNetlists.{netlist_of}
use Rattle.lp_spec_realises.specs.Operators.{OperatorAt, all_operators, Placement, placed_operator}
use Rattle.lp_spec_realises.specs.Ends.{End, AtPin, AtTop, wire_end, some_end, end_at_pin, output_end}
use Rattle.lp_spec_realises.specs.Surroundings.{powered_of}
use Rattle.lp_spec_realises.specs.Realises.{cell_of, takes_place, Realises}
use Rattle.lp_spec_faults.specs.Modules.{InstanceAt, instances_of, all_instances, has_kind, is_backup, unfit_reason, unfit_cell}
use Rattle.lp_spec_faults.specs.Modules as modules_of
use Rattle.lp_spec_cells.proofs.RelatedPins.{source-relates, plain-pin-relates, clamp-relates, shifter-output-relates}
use Rattle.lp_spec_voltages.specs.Voltages.{power_state, IsNeverUnder}
use Rattle.lp_spec_voltages.proofs.Readings.{reads-node, power-is}
use Rattle.lp_spec_voltages.proofs.Pairs.{top-powers}
use Rattle.lp_spec_agreement.specs.Alike.{supply_of_end, pair_of_end}
use Rattle.lp_spec_agreement.specs.Cells.{Meet}
use Rattle.lp_spec_agreement.specs.Faultless.{IsSoundCell, IsFaultless}
use Rattle.lp_spec_agreement.proofs.Apart.{all_in, module_in}
use Rattle.lp_spec_agreement.proofs.ByCells.{frame}
use Rattle.lp_spec_agreement.proofs.Driven.{At, EndsDriven}
use Rattle.lp_spec_agreement.proofs.Frame.{Drives}
use Rattle.lp_spec_agreement.proofs.Framed.{no_fault, pin_found, cell_in, source_usable, source_stands, drives, fuel}
use Rattle.lp_spec_agreement.proofs.Joined.{supply_is, driving_is}
use Rattle.lp_spec_agreement.proofs.OperatorCells.{only_in, clamp_cell, shift_cell}
use Rattle.lp_spec_agreement.proofs.Placed.{passed_cell}
use Rattle.lp_spec_agreement.proofs.PinEnds.{in_filter}
use Rattle.lp_spec_agreement.proofs.Reading.{comes}
use Rattle.lp_spec_agreement.proofs.SourceCells.{IsPlain, IsRetained, kind}
use Rattle.lp_spec_agreement.proofs.Supplied.{switched_kind, node_state}
use Rattle.lp_spec_agreement.proofs.SwitchDrivers.{switch_driver_is}
use Rattle.lp_spec_agreement.proofs.Tops.{top_input_of, is_no_supply}

-- ---- cells that a source may have

pub record FitsSource (c : CellView) : Type 0 where
  pub no_shifter : is_some c.roles.shifter ≡ false
  pub no_retention : is_some c.roles.retention ≡ false
  pub no_switch : c.roles.switch ≡ false
  pub no_internal : has_kind modules_of.is_internal c ≡ false

fits_by : (c : CellView) (a b d e f : Bool) → (if a then Some unfit.Shifter else (if b then Some unfit.RetentionCell else (if d then Some unfit.SwitchCell else (if e then Some unfit.Backup else (if f then Some unfit.Internal else None))))) ≡ None → (a ≡ false) × (b ≡ false) × (d ≡ false) × (f ≡ false)
fits_by c true b d e f h = absurd cc
fits_by c false true d e f h = absurd cc
fits_by c false false true e f h = absurd cc
fits_by c false false false true f h = absurd cc
fits_by c false false false false true h = absurd cc
fits_by c false false false false false h = (refl, refl, refl, refl)

pub none_is : {A : Type 0} (o : Option A) → is_some o ≡ false → o ≡ None
none_is None e = refl
none_is (Some x) e = absurd (both_ways true e refl)

fits_source : (c : CellView) → c.unusable ≡ None → is_some (unfit_reason c) ≡ false → FitsSource c
fits_source c usable h =
    let none : unfit_reason c ≡ None = none_is (unfit_reason c) h in
    let parts = fits_by c (is_some c.roles.shifter) (is_some c.roles.retention) c.roles.switch (has_kind is_backup c) (has_kind modules_of.is_internal c) (rw usable at none) in
    record { no_shifter = parts.0; no_retention = parts.1; no_switch = parts.2; no_internal = parts.3 }

module _ (p : Project) (good : IsFaultless p) where
  pub source_fits : (m : ModuleView) → IsIn m p.structure.modules → (x : InstanceView) → IsIn x m.instances → (c : CellView) → cell_named p.structure x.target ≡ Some c → FitsSource c
  source_fits m hm x hx c e =
      let place : InstanceAt = record { parent = m; instance = x } in
      let there : IsIn place (all_instances p.structure) = in-flat instances_of m place p.structure.modules hm (in-map (λ i. record { parent = m; instance = i }) x m.instances hx) in
      fits_source c (source_usable p good m hm x hx c e) (ap (λ o. is_some (option_and_then unfit_reason o)) (sym e) ∙ no_fault (unfit_cell p.structure) good.cells_fit place there)

  -- no node of the source comes from a switched pin
  internal_at : (g : PgPinView) → g.kind ≡ kinds.InternalPower → modules_of.is_internal g.kind ≡ true
  internal_at g e = rw e refl

  pub unswitched : (k : Node) (q : Path) (x v : Name) → source_of p.structure k ≡ Some (SwitchedPin q x v) → ⊥
  unswitched k q x v e =
      let of = switch_driver_is p.structure q x v k e in
      let m = module_in p.structure good.names_apart q of.owner of.there in
      let fits = source_fits of.owner m of.instance of.among of.cell of.target in
      let sound = good.library of.cell (cell_in p.structure of.instance.target of.cell of.target) (source_usable p good of.owner m of.instance of.among of.cell of.target) in
      by of.cell of.pg of.pg_in sound fits of.pg.switched refl of.switched
    where
      by : (c : CellView) (g : PgPinView) → IsIn g c.pgs → IsSoundCell c → FitsSource c → (s : Option SwitchedView) → g.switched ≡ s → is_some g.switched ≡ true → ⊥
      by c g h sound fits None is some = false≢true (ap is_some (sym is) ∙ some)
      by c g h sound fits (Some s) is some = both_ways (has_kind modules_of.is_internal c) fits.no_internal (any-in (λ (z : PgPinView). modules_of.is_internal z.kind) g c.pgs h (internal_at g (switched_kind c sound g h s is)))

module _ (p : Project) (good : IsFaultless p) (modules : List ModuleView) (real : Realises p modules) (supplied : is_supplied (powered_of p modules real.placement) ≡ true) where
  abbrev place : Placement
  place = real.placement

  abbrev W : Structure
  W = netlist_of p modules

  abbrev w : Powered
  w = powered_of p modules real.placement

  -- an output of a register with retention is one of its source's
  plain_of : (a : Placed) (c : CellView) (t : IsRetained p good modules real supplied a c) (v : Name) (r : PinView) → pin_named t.source v ≡ Some r → (z : PinView) × (pin_named c v ≡ Some z) × IsIn z (plain_pins c)
  plain_of a c t v r e =
      let found = first_in (λ (z : PinView). bytes_eq z.name v) t.source.pins r e in
      let name = name-true r.name v found.1 in
      let same : same_pin t.source c r (pin_named c r.name) ≡ true = all_in (λ (z : PinView). same_pin t.source c z (pin_named c z.name)) r t.source.pins (and_parts (has_pins_of t.source c) _ t.fits.exactly).0 found.0 in
      by (pin_named c r.name) (ap (pin_named c) (sym name)) same
    where
      by : (o : Option PinView) → pin_named c v ≡ o → same_pin t.source c r o ≡ true → (z : PinView) × (pin_named c v ≡ Some z) × IsIn z (plain_pins c)
      by None is h = absurd (false≢true h)
      by (Some z) is h =
          let there = first_in (λ (y : PinView). bytes_eq y.name v) c.pins z is in
          (z, is, in_filter (λ (y : PinView). not (is_retention_pin y)) c.pins z there.0 (and_parts (not (is_retention_pin z)) _ h).0)

  module _ (ev : Event) (A : Assignment) (B : PinAssignment) (m : Meet p modules real.placement ev A B) where
    abbrev Placed_at : End → Option ℕ → Type 0
    Placed_at e rail = At p good modules real.placement (frame p good modules real) B A e rail

    abbrev st : ℕ → SupplyState
    st o = state_of A o

    -- the related supply of a pin of a cell of the source that is no retention pin has the power of the primary supply
    pub plain_power : (a : Placed) (c : CellView) → IsPlain p good modules real supplied a c ⊎ IsRetained p good modules real supplied a c → (r : PinView) → IsIn r (plain_pins c)
        → (related w B a.path a.instance c r).power ≡ power_state p A (primary_of p.intent (domain_of p.intent a.path))
    plain_power a c (inl plain) r h =
        let kept = of-filter (λ (y : PinView). not (is_retention_pin y)) r c.pins h in
        ap (λ (z : Pair). z.power) (source-relates c plain.primary plain.sound.sound w B a.path a.instance (comes p good modules real) st plain.joins m.alike.origins r kept.0)
        ∙ sym (power-is p A (primary_of p.intent (domain_of p.intent a.path)) plain.primary plain.is_primary)
    plain_power a c (inr held) r h =
        ap (λ (z : Pair). z.power) (plain-pin-relates held.fits.need c held.fits.fits held.sound.sound w B a.path a.instance (comes p good modules real) st held.joins m.alike.origins r h)
        ∙ sym (power-is p A (primary_of p.intent (domain_of p.intent a.path)) held.fits.need.primary held.fits.is_primary)

    pin_power : (q : Path) (x v : Name) (of : Drives p q x v) (c : CellView) → cell_at W q x ≡ Some c → (r : Pair) → related_of w B q x (cell_at W q x) v ≡ Some r → r.power ≡ power_state p A (primary_of p.intent (domain_of p.intent q))
    pin_power q x v of c e r is = by (kind p good modules real supplied (record { path = q; instance = x }) of.placed c e)
      where
        found : (z : PinView) → pin_named c v ≡ Some z → related w B q x c z ≡ r
        found z named = let both : Some (related w B q x c z) ≡ Some r = sym (ap (λ o. related_of w B q x o v) e ∙ ap (related_of_pin w B q x c) named) ∙ is in cc

        by : IsPlain p good modules real supplied (record { path = q; instance = x }) c ⊎ IsRetained p good modules real supplied (record { path = q; instance = x }) c → r.power ≡ power_state p A (primary_of p.intent (domain_of p.intent q))
        by (inl plain) =
            let some : Some c ≡ Some of.cell = sym plain.is_source ∙ of.is_cell in
            let same : c ≡ of.cell = cc in
            let named : pin_named c v ≡ Some of.output.0 = ap (λ z. pin_named z v) same ∙ of.output.1 in
            let there = first_in (λ (z : PinView). bytes_eq z.name v) c.pins of.output.0 named in
            ap (λ (z : Pair). z.power) (sym (found of.output.0 named) ∙ source-relates c plain.primary plain.sound.sound w B q x (comes p good modules real) st plain.joins m.alike.origins of.output.0 there.0)
            ∙ sym (power-is p A (primary_of p.intent (domain_of p.intent q)) plain.primary plain.is_primary)
        by (inr held) =
            let some : Some held.source ≡ Some of.cell = sym held.is_source ∙ of.is_cell in
            let same : held.source ≡ of.cell = cc in
            let there = plain_of (record { path = q; instance = x }) c held v of.output.0 (ap (λ z. pin_named z v) same ∙ of.output.1) in
            ap (λ (z : Pair). z.power) (sym (found there.0 there.1)) ∙ plain_power (record { path = q; instance = x }) c (inr held) there.0 there.2

    pins_driven : (k : Node) (q : Path) (x v : Name) → source_of p.structure k ≡ Some (CellPin q x v) → Placed_at (AtPin q x v) (primary_of p.intent (domain_of p.intent q))
    pins_driven k q x v e =
        let of = drives p good k q x v e in
        let cell = passed_cell (takes_place p (record { path = q; instance = x }) (retention p.intent q x) (cell_of p.structure (record { path = q; instance = x }))) (cell_of W (record { path = q; instance = x })) (source_stands p good modules real (record { path = q; instance = x }) of.placed) in
        record { unsupplied = refl; power = λ r is. pin_power q x v of cell.0 cell.1 r is }

    tops_driven : (n : Name) (j i : Option ℕ) → source_of p.structure (Outer n j) ≡ Some Environment → Placed_at (AtTop n i) (source_supply p.intent (Outer n j) (Some Environment))
    tops_driven n j i e =
        let none = is_no_supply p good modules real n j (top_input_of p.structure n j e) in
        record {
          unsupplied = ap (λ b. if b then Some (FromTop n) else None) none;
          power = λ r is.
              let same : state_pair w B (w.around.driver n) ≡ r = cc in
              ap (λ (z : Pair). z.power) (sym same) ∙ (top-powers p modules real.placement A B (node_state p good modules real A B m.alike.origins) n).0;
        }

    operators_driven : (o : OperatorAt) → IsIn o (all_operators p) → (op : Operator) → o.operator ≡ op → Placed_at (output_end W (placed_operator place o)) (Some (supply_behind op))
    operators_driven o h (Clamp t i) is =
        let s = clamp_cell p good modules real supplied o h t i is in
        let a = placed_operator place o in
        let out = only_in is_output_pin s.cell.pins s.pins.y s.pins.is_y in
        let related_is = clamp-relates (record { supply = s.pins.supply; place = s.pins.home; clamp = s.pins.strategy.clamp; high = s.pins.strategy.high; mapped = None }) s.cell s.pins.fits w B a.path a.instance (comes p good modules real) st s.joins m.alike.origins s.pins.y out.0 in
        subst (λ e. Placed_at e (Some i)) (sym s.out)
        (record {
          unsupplied = refl;
          power = λ r given.
              let found : related_of w B a.path a.instance (cell_at W a.path a.instance) s.pins.y.name ≡ Some (related w B a.path a.instance s.cell s.pins.y) = ap (λ z. related_of w B a.path a.instance z s.pins.y.name) s.is_cell ∙ ap (related_of_pin w B a.path a.instance s.cell) (pin_found s.cell s.sound s.pins.y out.0) in
              let both : Some (related w B a.path a.instance s.cell s.pins.y) ≡ Some r = sym found ∙ given in
              let same : related w B a.path a.instance s.cell s.pins.y ≡ r = cc in
              ap (λ (z : Pair). z.power) (sym same ∙ related_is) ∙ sym (power-is p A (Some i) s.pins.supply s.pins.is_supply);
        })
    operators_driven o h (Shift t a b) is =
        let s = shift_cell p good modules real supplied o h t a b is in
        let at = placed_operator place o in
        let out = only_in is_output_pin s.cell.pins s.pins.y s.pins.is_y in
        let related_is = shifter-output-relates (record { input = s.pins.input; output = s.pins.output; pairs = pairs_of p.supplies s.pins.input.power.0 s.pins.output.power.0; margin = p.margin; mapped = None }) s.cell s.pins.fits s.pins.d s.pins.y s.pins.is_d s.pins.is_y w B at.path at.instance (comes p good modules real) st s.joins m.alike.origins in
        subst (λ e. Placed_at e (Some b)) (sym s.out)
        (record {
          unsupplied = refl;
          power = λ r given.
              let found : related_of w B at.path at.instance (cell_at W at.path at.instance) s.pins.y.name ≡ Some (related w B at.path at.instance s.cell s.pins.y) = ap (λ z. related_of w B at.path at.instance z s.pins.y.name) s.is_cell ∙ ap (related_of_pin w B at.path at.instance s.cell) (pin_found s.cell s.sound s.pins.y out.0) in
              let both : Some (related w B at.path at.instance s.cell s.pins.y) ≡ Some r = sym found ∙ given in
              let same : related w B at.path at.instance s.cell s.pins.y ≡ r = cc in
              ap (λ (z : Pair). z.power) (sym same ∙ related_is) ∙ sym (power-is p A (Some b) s.pins.output s.pins.is_output);
        })

    pub ends_driven : EndsDriven p good modules real.placement (frame p good modules real) B A
    ends_driven = record { pins = pins_driven; unswitched = unswitched p good; tops = tops_driven; operators = λ o h. operators_driven o h o.operator refl }

    -- ---- reading

    pub read_at : (k : Node) (e : End) → wire_end W (fuel_of W) k ≡ e → (rail : Option ℕ) → Placed_at e rail → (t : Pair) → IsNeverUnder p.margin (power_state p A rail) t.power → read_by w B k t ≡ m.alike.carried e
    read_at k e is rail at t never =
        reads-node w B k t (power_state p A rail) t.power never
        (supply_is w (fuel p good modules real) k ∙ (ap (supply_of_end w) is ∙ at.unsupplied))
        (λ r given. at.power r (ap (pair_of_end w B) (sym is) ∙ (sym (driving_is w (fuel p good modules real) B k) ∙ given))) refl
        ∙ (m.alike.values k ∙ ap m.alike.carried is)

    pub pin_reads : (q : Path) (x : Name) (c : CellView) (v : Name) (r : PinView) → pin_named c v ≡ Some r → is_input_pin r ≡ true → (e : End) → end_at_pin W (fuel_of W) q x v ≡ e → (rail : Option ℕ) → Placed_at e rail
        → IsNeverUnder p.margin (power_state p A rail) (related w B q x c r).power → pins_read w B q x c v ≡ m.alike.carried e
    pin_reads q x c v r named input e is rail at never = ap (λ o. pin_value w B q x c o (node_at_pin W q x v)) named ∙ by (node_at_pin W q x v) refl
      where
        by : (k : Option Node) → node_at_pin W q x v ≡ k → pin_value w B q x c (Some r) k ≡ m.alike.carried e
        by None none = sym m.alike.nowhere ∙ ap m.alike.carried (sym (ap (some_end W (fuel_of W)) none) ∙ is)
        by (Some k) some = ap (input_value w B q x c r k) input ∙ read_at k e (sym (ap (some_end W (fuel_of W)) some) ∙ is) rail at (related w B q x c r) never
