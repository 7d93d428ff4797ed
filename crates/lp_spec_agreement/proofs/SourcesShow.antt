-- Cells of the source show in the netlist what the source shows under its intent.
use Rattle.std.proofs.Common.{◌≡◌, ◌⊎◌, Bool, true, false, not, List, Option, Some, None, inl, inr, refl, sym, ap, ◌∙◌, subst}
use Rattle.std.specs.Prelude.{bytes_eq, option_and_then}
use Rattle.std.proofs.lemmas.Bool.{and_parts, false≢true}
use Rattle.lp_model.specs.declared.netlist.Direction.{Direction}
use Rattle.lp_model.specs.declared.netlist.Direction.TheVariants.{Input, Output}
use Rattle.lp_model.specs.declared.supply.SetOrigins.{SetOrigins}
use Rattle.lp_model.specs.NetlistView.{InstanceView, ModuleView}
use Rattle.lp_model.specs.LibraryView.{PinView, CellView}
use Rattle.lp_spec_design.specs.Keys.{Name, Node, same_bool}
use Rattle.lp_spec_design.specs.Netlists.{Structure, cell_named, instance_named, module_at}
use Rattle.lp_spec_design.specs.Instances.{Placed, cell_instances}
use Rattle.lp_spec_design.specs.Graph.{is_output_pin}
use Rattle.lp_spec_design.specs.Domains.{domain_of, primary_of}
use Rattle.lp_spec_design.specs.Winners.{IsIn}
use Rattle.lp_spec_design.specs.Registers.{retention}
use Rattle.lp_spec_design.specs.Settled.{Assignment, Event, Registers, at_some, state_of, set_on, kept, pin_named, node_at_pin, pins_at, rail_of, output_by}
use Rattle.lp_spec_design.proofs.Sources.{then_is, first_in}
use Rattle.lp_spec_pins.specs.Pins.{Powered, PinAssignment, Pair, is_input_pin, related, pins_read, cell_output_at}
use Rattle.lp_spec_pins.specs.Supplied.{is_supplied}
use Rattle.lp_spec_fit.specs.Fits.{is_retention_pin, plain_pins, same_pin, has_pins_of}
use Rattle.lp_spec_fit.specs.PowerDown.{is_unfit_power}
use Rattle.lp_spec_realises.specs.Projects.{Project, network_of, design_of}
use Rattle.lp_spec_realises.specs.ProjectNetlists.{netlist_of}
use Rattle.lp_spec_realises.specs.Ends.{Nowhere, intended, some_intended}
use Rattle.lp_spec_realises.specs.Surroundings.{powered_of}
use Rattle.lp_spec_realises.specs.Realises.{cell_of, primary_at, takes_place, Realises}
use Rattle.lp_spec_faults.specs.Readings.{unfit_power, is_unfit_by}
use Rattle.lp_spec_cells.specs.Sound.{IsSound}
use Rattle.lp_spec_cells.specs.Retention.{SameInputs}
use Rattle.lp_spec_cells.proofs.OfSource.{source-shows}
use Rattle.lp_spec_cells.proofs.Retained.{register-shows}
use Rattle.lp_spec_cells.proofs.RelatedPins.{source-relates}
use Rattle.lp_spec_voltages.specs.Voltages.{power_state, IsNeverUnder, ConnectsInput}
use Rattle.lp_spec_voltages.proofs.Readers.{input-not_under}
use Rattle.lp_spec_voltages.proofs.Readings.{power-is}
use Rattle.lp_spec_agreement.specs.Cells.{IsOutput, Meet, SourcesAgree}
use Rattle.lp_spec_agreement.specs.Faultless.{IsFaultless}
use Rattle.lp_spec_agreement.proofs.Apart.{all_in, module_in}
use Rattle.lp_spec_agreement.proofs.ByCells.{frame}
use Rattle.lp_spec_agreement.proofs.Driven.{at_nothing, at_node}
use Rattle.lp_spec_agreement.proofs.Framed.{no_fault, pin_found, source_stands}
use Rattle.lp_spec_agreement.proofs.KnownEnds.{input_as}
use Rattle.lp_spec_agreement.proofs.PinEnds.{source_end, in_filter}
use Rattle.lp_spec_agreement.proofs.PinsDriven.{FitsSource, source_fits, plain_power, ends_driven, pin_reads, none_is}
use Rattle.lp_spec_agreement.proofs.Placed.{passed_cell}
use Rattle.lp_spec_agreement.proofs.Reading.{comes, apart, fed_within}
use Rattle.lp_spec_agreement.proofs.SourceCells.{set_on_is, IsPlain, IsRetained, kind}

module _ (p : Project) (good : IsFaultless p) where
  pub fits_at : (a : Placed) (s : CellView) → cell_of p.structure a ≡ Some s → FitsSource s
  fits_at a s e =
      let above = then_is (λ (m : ModuleView). option_and_then (λ (y : InstanceView). cell_named p.structure y.target) (instance_named m a.instance)) (module_at p.structure a.path) s e in
      let inst = then_is (λ (y : InstanceView). cell_named p.structure y.target) (instance_named above.0 a.instance) s above.2 in
      let found = first_in (λ (y : InstanceView). bytes_eq y.name a.instance) above.0.instances inst.0 inst.1 in
      source_fits p good above.0 (module_in p.structure good.names_apart a.path above.0 above.1) inst.0 found.0 s inst.2

  pub fit_power : (a : Placed) → IsIn a (cell_instances p.structure) → (s : CellView) → cell_of p.structure a ≡ Some s → (primary : SetOrigins) → primary_at p a.path ≡ Some primary → is_unfit_power s primary ≡ false
  fit_power a h s e primary is = (λ i. is_unfit_by (sym is i) (sym e i)) ∙ no_fault (unfit_power p) good.unfit_power a h

input_not_output : (q : PinView) → is_input_pin q ≡ true → is_output_pin q ≡ false
input_not_output q h = by q.direction refl
  where
    by : (d : Direction) → q.direction ≡ d → is_output_pin q ≡ false
    by Input e = rw e refl
    by Output e = absurd (false≢true (rw e at h))

module _ (p : Project) (good : IsFaultless p) (modules : List ModuleView) (real : Realises p modules) (supplied : is_supplied (powered_of p modules real.placement) ≡ true) where
  abbrev W : Structure
  W = netlist_of p modules

  abbrev w : Powered
  w = powered_of p modules real.placement

  -- the pin of the netlist's cell that a pin of the source's cell has become
  pub record Became (a : Placed) (c : CellView) (r : PinView) : Type 0 where
    pub pin : PinView
    pub named : pin_named c r.name ≡ Some pin
    pub input : is_input_pin pin ≡ true

  became : (s c : CellView) → has_pins_of s c ≡ true → (a : Placed) (r : PinView) → IsIn r s.pins → is_input_pin r ≡ true → (z : Became a c r) × IsIn z.pin (plain_pins c)
  became s c has a r h input =
      let same : same_pin s c r (pin_named c r.name) ≡ true = all_in (λ (z : PinView). same_pin s c z (pin_named c z.name)) r s.pins has h in
      by (pin_named c r.name) refl same
    where
      by : (o : Option PinView) → pin_named c r.name ≡ o → same_pin s c r o ≡ true → (z : Became a c r) × IsIn z.pin (plain_pins c)
      by None is g = absurd (false≢true g)
      by (Some z) is g =
          let plain = and_parts (not (is_retention_pin z)) _ g in
          let direction = and_parts (same_bool (is_output_pin r) (is_output_pin z)) _ plain.1 in
          let there = first_in (λ (y : PinView). bytes_eq y.name r.name) c.pins z is in
          (record { pin = z; named = is; input = input_as z r (same_back (is_output_pin r) (is_output_pin z) direction.0) input }, in_filter (λ (y : PinView). not (is_retention_pin y)) c.pins z there.0 plain.0)
        where
          same_back : (b d : Bool) → same_bool b d ≡ true → same_bool d b ≡ true
          same_back true true e = refl
          same_back true false e = e
          same_back false true e = e
          same_back false false e = refl

  module _ (ev : Event) (A : Assignment) (B : PinAssignment) (m : Meet p modules real.placement ev A B) where
    -- a pin of a cell of the source reads its node
    pub reads_node : (a : Placed) → IsIn a (cell_instances p.structure) → (s : CellView) → cell_of p.structure a ≡ Some s → (c : CellView) → cell_of W a ≡ Some c → (r : PinView) → IsIn r s.pins → is_input_pin r ≡ true
        → (z : Became a c r) → (related w B a.path a.instance c z.pin).power ≡ power_state p A (primary_of p.intent (domain_of p.intent a.path))
        → pins_at p.structure A a.path a.instance r.name ≡ pins_read w B a.path a.instance c r.name
    reads_node a h s e c f r hr input z power = by (node_at_pin p.structure a.path a.instance r.name) refl
      where
        by : (n : Option Node) → node_at_pin p.structure a.path a.instance r.name ≡ n → pins_at p.structure A a.path a.instance r.name ≡ pins_read w B a.path a.instance c r.name
        by None none =
            ap (at_some A) none
            ∙ sym (pin_reads p good modules real supplied ev A B m a.path a.instance c r.name z.pin z.named z.input Nowhere (source_end p good modules real a h s e r hr input ∙ ap (some_intended p W real.placement) none) None
            (at_nothing p good modules real.placement (frame p good modules real) B A None) (λ g k. refl) ∙ m.alike.nowhere)
        by (Some k) some =
            let connects : ConnectsInput p.structure a r k = record { placed = h; cell = s; is_cell = e; pin = hr; input = input_not_output r input; node = some } in
            let never = input-not_under p ev A (fed_within p good modules real ev A B m) good.states good.levels a r k connects in
            ap (at_some A) some
            ∙ sym (pin_reads p good modules real supplied ev A B m a.path a.instance c r.name z.pin z.named z.input (intended p W real.placement k) (source_end p good modules real a h s e r hr input ∙ ap (some_intended p W real.placement) some) (rail_of (design_of p) k)
            (at_node p good modules real.placement (frame p good modules real) B A (ends_driven p good modules real supplied ev A B m) k)
            (subst (λ t. IsNeverUnder p.margin (power_state p A (rail_of (design_of p) k)) t) (sym power) never) ∙ m.alike.nodes k)

    pub plain_inputs : (a : Placed) → IsIn a (cell_instances p.structure) → (c : CellView) → cell_of W a ≡ Some c → (plain : IsPlain p good modules real supplied a c) → SameInputs c (pins_at p.structure A a.path a.instance) (pins_read w B a.path a.instance c)
    plain_inputs a h c f plain r hr input =
        let power = ap (λ (z : Pair). z.power) (source-relates c plain.primary plain.sound.sound w B a.path a.instance (comes p good modules real) (state_of A) plain.joins m.alike.origins r hr) ∙ sym (power-is p A (primary_of p.intent (domain_of p.intent a.path)) plain.primary plain.is_primary) in
        reads_node a h c plain.is_source c f r hr input (record { pin = r; named = pin_found c plain.sound r hr; input = input }) power

    pub retained_inputs : (a : Placed) → IsIn a (cell_instances p.structure) → (c : CellView) → cell_of W a ≡ Some c → (held : IsRetained p good modules real supplied a c) → SameInputs held.source (pins_at p.structure A a.path a.instance) (pins_read w B a.path a.instance c)
    retained_inputs a h c f held r hr input =
        let z = became held.source c (and_parts (has_pins_of held.source c) _ held.fits.exactly).0 a r hr input in
        reads_node a h held.source held.is_source c f r hr input z.0 (plain_power p good modules real supplied ev A B m a c (inr held) z.0.pin z.1)

    shows : (regs : Registers) (a : Placed) → IsIn a (cell_instances p.structure) → (s : CellView) → cell_of p.structure a ≡ Some s → (q : Name) (out : IsOutput s q) → (c : CellView) → cell_of W a ≡ Some c
        → IsPlain p good modules real supplied a c ⊎ IsRetained p good modules real supplied a c
        → cell_output_at w B regs a.path a.instance q (Some c) ≡ kept (set_on (network_of p) A (primary_of p.intent (domain_of p.intent a.path))) (output_by s (pins_at p.structure A a.path a.instance) (regs a.path a.instance) out.0.function)
    shows regs a h s e q out c f (inl plain) =
        let some : Some c ≡ Some s = sym plain.is_source ∙ e in
        let same : c ≡ s = cc in
        let named : pin_named c q ≡ Some out.0 = ap (λ z. pin_named z q) same ∙ out.1 in
        source-shows c plain.primary (fit_power p good a h c plain.is_source plain.primary plain.is_primary) (none_is c.roles.shifter (fits_at p good a c plain.is_source).no_shifter) plain.sound.sound w B a.path a.instance (comes p good modules real) (state_of A) plain.joins (apart p good modules real) m.alike.origins
        (pins_at p.structure A a.path a.instance) (plain_inputs a h c f plain) regs q out.0 named out.2
        ∙ (λ i. kept (sym (set_on_is p A (primary_of p.intent (domain_of p.intent a.path)) plain.primary plain.is_primary) i) (output_by (same i) (pins_at p.structure A a.path a.instance) (regs a.path a.instance) out.0.function))
    shows regs a h s e q out c f (inr held) =
        let some : Some held.source ≡ Some s = sym held.is_source ∙ e in
        let same : held.source ≡ s = cc in
        let need : held.fits.need.source ≡ held.source = held.fits.of_source in
        let named : pin_named held.fits.need.source q ≡ Some out.0 = ap (λ z. pin_named z q) (need ∙ same) ∙ out.1 in
        register-shows held.fits.need c held.fits.fits (subst (λ z. IsSound z) (sym need) held.source_sound.sound) held.sound.sound w B a.path a.instance (comes p good modules real) (state_of A) held.joins (apart p good modules real) m.alike.origins
        (pins_at p.structure A a.path a.instance) (subst (λ z. SameInputs z (pins_at p.structure A a.path a.instance) (pins_read w B a.path a.instance c)) (sym need) (retained_inputs a h c f held)) regs q out.0 named out.2
        ∙ (λ i. kept (sym (set_on_is p A (primary_of p.intent (domain_of p.intent a.path)) held.fits.need.primary held.fits.is_primary) i) (output_by ((need ∙ same) i) (pins_at p.structure A a.path a.instance) (regs a.path a.instance) out.0.function))

  pub sources_agree : SourcesAgree p modules real.placement
  sources_agree ev regs A B m a h s e q out =
      let cell = passed_cell (takes_place p a (retention p.intent a.path a.instance) (cell_of p.structure a)) (cell_of W a) (source_stands p good modules real a h) in
      ap (cell_output_at w B regs a.path a.instance q) cell.1
      ∙ (shows ev A B m regs a h s e q out cell.0 cell.1 (kind p good modules real supplied a h cell.0 cell.1)
      ∙ ap (λ z. kept (set_on (network_of p) A (primary_of p.intent (domain_of p.intent a.path))) (output_by s (pins_at p.structure A a.path a.instance) (regs a.path a.instance) z)) (ap (λ o. option_and_then (λ (z : PinView). z.function) o) (sym out.1)))
