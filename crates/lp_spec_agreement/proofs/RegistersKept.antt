-- Registers that are the same stay so: those that the source has without retention, and those with retention with their copies.
use Rattle.std.proofs.Common.{◌≡◌, ◌⊎◌, Bool, true, List, Option, Some, None, inl, inr, refl, sym, ap, ◌∙◌, subst}
use Rattle.std.specs.Prelude.{is_some, option_and_then}
use Rattle.std.specs.List.{list_all}
use Rattle.std.proofs.lemmas.Bool.{and_parts, and_from, false≢true, both_ways}
use Rattle.lp_behaviour.specs.Registers.{main_of, copy_of}
use Rattle.lp_model.specs.declared.library.Action.{Action}
use Rattle.lp_model.specs.declared.library.PinUse.{PinUse}
use Rattle.lp_model.specs.declared.library.PinUse.TheVariants as uses
use Rattle.lp_model.specs.declared.library.RetClass.TheVariants as classes
use Rattle.lp_model.specs.NetlistView.{ModuleView}
use Rattle.lp_model.specs.LibraryView.{PinView, CellView}
use Rattle.lp_spec_design.specs.Keys.{Name, Path, Node}
use Rattle.lp_spec_design.specs.Netlists.{Structure, cell_at}
use Rattle.lp_spec_design.specs.Instances.{Placed, cell_instances}
use Rattle.lp_spec_design.specs.Nodes.{fuel_of}
use Rattle.lp_spec_design.specs.Domains.{domain_of, primary_of}
use Rattle.lp_spec_design.specs.Winners.{IsIn}
use Rattle.lp_spec_design.specs.Reads.{node-true}
use Rattle.lp_spec_design.specs.Registers.{States, retention, cell_after, pins_before, before, fires_at, restored, saved_after, primary_on, states_after, holds_state, is_register}
use Rattle.lp_spec_design.specs.Runs.{SameRegisters}
use Rattle.lp_spec_design.proofs.Members.{of-filter}
use Rattle.lp_spec_design.specs.Settled.{Assignment, Event, at, state_of, kept, pins_at, rail_of}
use Rattle.lp_spec_pins.specs.Pins.{Powered, PinAssignment, Pair, is_input_pin, related, pins_read}
use Rattle.lp_spec_pins.specs.Registers.{read_before, main_in, saved_in, states_after_by_pins}
use Rattle.lp_spec_pins.specs.Supplied.{is_supplied}
use Rattle.lp_spec_fit.specs.Fits.{is_usable, only_retains, has_exactly_pins_of, same_state, is_retention_pin, retention_pins}
use Rattle.lp_spec_realises.specs.Projects.{Project, design_of, functions_of}
use Rattle.lp_spec_realises.specs.ProjectNetlists.{netlist_of}
use Rattle.lp_spec_realises.specs.Ends.{end_at_pin, intended}
use Rattle.lp_spec_realises.specs.Surroundings.{powered_of}
use Rattle.lp_spec_realises.specs.Realises.{cell_of, primary_at, control_of, takes_place, Realises}
use Rattle.lp_spec_faults.specs.Strategies.{registers, has_state}
use Rattle.lp_spec_cells.specs.Sound.{IsSound}
use Rattle.lp_spec_cells.specs.Retention.{Controls, ReadsControl, ReadsControls, SameInputs}
use Rattle.lp_spec_cells.proofs.OfSource.{source-does}
use Rattle.lp_spec_cells.proofs.Retained.{register-does, register-saves}
use Rattle.lp_spec_cells.proofs.RelatedPins.{register-relates}
use Rattle.lp_spec_voltages.specs.Voltages.{power_state, IsNeverUnder}
use Rattle.lp_spec_voltages.proofs.Controls.{signal-not_under}
use Rattle.lp_spec_voltages.proofs.Readings.{power-is}
use Rattle.lp_spec_agreement.specs.Cells.{Meet, Agree, AgreedBefore, RegistersAgree}
use Rattle.lp_spec_agreement.specs.Faultless.{IsFaultless}
use Rattle.lp_spec_agreement.proofs.Apart.{all_in}
use Rattle.lp_spec_agreement.proofs.ByCells.{frame}
use Rattle.lp_spec_agreement.proofs.Driven.{at_node}
use Rattle.lp_spec_agreement.proofs.Found.{cell_there}
use Rattle.lp_spec_agreement.proofs.Framed.{source_shallow, source_stands, pin_found}
use Rattle.lp_spec_agreement.proofs.KnownEnds.{RegisterPins}
use Rattle.lp_spec_agreement.proofs.PinEnds.{in_filter, ControlEnd, retention_end}
use Rattle.lp_spec_agreement.proofs.PinsDriven.{ends_driven, pin_reads, none_is}
use Rattle.lp_spec_agreement.proofs.Placed.{passed_cell}
use Rattle.lp_spec_agreement.proofs.Reading.{comes, apart, fed_within}
use Rattle.lp_spec_agreement.proofs.SourceCells.{set_on_is, IsPlain, IsRetained, kind}
use Rattle.lp_spec_agreement.proofs.SourcesShow.{fits_at, fit_power, plain_inputs, retained_inputs}
use Rattle.lp_spec_agreement.proofs.OperatorsShow.{no_commands}

module _ (p : Project) (good : IsFaultless p) (modules : List ModuleView) (real : Realises p modules) (supplied : is_supplied (powered_of p modules real.placement) ≡ true) where
  abbrev W : Structure
  W = netlist_of p modules

  abbrev w : Powered
  w = powered_of p modules real.placement

  -- ---- what pins read, before and now

  plain_before : (a : Placed) → IsIn a (cell_instances p.structure) → (c : CellView) → cell_of W a ≡ Some c → IsPlain p good modules real supplied a c
      → (last : Option Assignment) (last_pins : Option PinAssignment) → AgreedBefore p modules real.placement last last_pins → SameInputs c (pins_before p.structure last a.path a.instance) (read_before w last_pins a.path a.instance c)
  plain_before a h c f plain None None agreed r hr input = refl
  plain_before a h c f plain None (Some M) agreed r hr input = absurd agreed
  plain_before a h c f plain (Some L) None agreed r hr input = absurd agreed
  plain_before a h c f plain (Some L) (Some M) agreed r hr input = plain_inputs p good modules real supplied agreed.0 L M agreed.2.meet a h c f plain r hr input

  retained_before : (a : Placed) → IsIn a (cell_instances p.structure) → (c : CellView) → cell_of W a ≡ Some c → (held : IsRetained p good modules real supplied a c)
      → (last : Option Assignment) (last_pins : Option PinAssignment) → AgreedBefore p modules real.placement last last_pins → SameInputs held.source (pins_before p.structure last a.path a.instance) (read_before w last_pins a.path a.instance c)
  retained_before a h c f held None None agreed r hr input = refl
  retained_before a h c f held None (Some M) agreed r hr input = absurd agreed
  retained_before a h c f held (Some L) None agreed r hr input = absurd agreed
  retained_before a h c f held (Some L) (Some M) agreed r hr input = retained_inputs p good modules real supplied agreed.0 L M agreed.2.meet a h c f held r hr input

  -- ---- controls of registers with retention

  module _ (a : Placed) (h : IsIn a (cell_instances p.structure)) (c : CellView) (f : cell_of (netlist_of p modules) a ≡ Some c) (held : IsRetained p good modules real supplied a c) (state : is_some held.source.state ≡ true) where
    among_registers : IsIn a (registers p)
    among_registers = in_filter (λ (b : Placed). has_state (cell_of p.structure b)) (cell_instances p.structure) a h (ap has_state held.is_source ∙ state)

    abbrev Signals : Node → Type 0
    Signals k = (action : Action) × ((held.strategy.save ≡ Some (k, action)) ⊎ (held.strategy.restore ≡ Some (k, action)))

    module _ (ev : Event) (A : Assignment) (B : PinAssignment) (m : Meet p modules real.placement ev A B) where
      reads_control : (q : PinView) → IsIn q c.pins → is_input_pin q ≡ true → (k : Node) → Signals k → end_at_pin W (fuel_of W) a.path a.instance q.name ≡ intended p W real.placement k → pins_read w B a.path a.instance c q.name ≡ at A k
      reads_control q hq input k signal end =
          let never = signal-not_under p ev A (fed_within p good modules real ev A B m) good.states no_commands (good.control_levels no_commands) a held.strategy k signal.0 among_registers held.is_strategy signal.1 in
          let primary : power_state p A (primary_of p.intent (domain_of p.intent a.path)) ≡ state_of A held.fits.need.primary.power.0 = power-is p A (primary_of p.intent (domain_of p.intent a.path)) held.fits.need.primary held.fits.is_primary in
          let copy : power_state p A held.strategy.supply ≡ state_of A held.fits.need.retention.power.0 = power-is p A held.strategy.supply held.fits.need.retention held.fits.is_kept in
          let here : IsNeverUnder p.margin (power_state p A (rail_of (design_of p) k)) (related w B a.path a.instance c q).power =
          elim (register-relates c held.fits.need.primary held.fits.need.retention held.sound.sound w B a.path a.instance (comes p good modules real) (state_of A) held.joins m.alike.origins q hq) [
            | inl one ↦ subst (λ z. IsNeverUnder p.margin (power_state p A (rail_of (design_of p) k)) z) (primary ∙ sym (ap (λ (z : Pair). z.power) one)) never.0
            | inr two ↦ subst (λ z. IsNeverUnder p.margin (power_state p A (rail_of (design_of p) k)) z) (copy ∙ sym (ap (λ (z : Pair). z.power) two)) never.1
          ] in
          pin_reads p good modules real supplied ev A B m a.path a.instance c q.name q (pin_found c held.sound q hq) input (intended p W real.placement k) end (rail_of (design_of p) k)
          (at_node p good modules real.placement (frame p good modules real) B A (ends_driven p good modules real supplied ev A B m) k) here
          ∙ m.alike.nodes k

    -- what a retention pin reads before, if anything settled
    reads_before : (last : Option Assignment) (last_pins : Option PinAssignment) → AgreedBefore p modules real.placement last last_pins → (q : PinView) → IsIn q c.pins → is_input_pin q ≡ true → (k : Node) → Signals k
        → end_at_pin W (fuel_of W) a.path a.instance q.name ≡ intended p W real.placement k → read_before w last_pins a.path a.instance c q.name ≡ before last k
    reads_before None None agreed q hq input k signal end = refl
    reads_before None (Some M) agreed q hq input k signal end = absurd agreed
    reads_before (Some L) None agreed q hq input k signal end = absurd agreed
    reads_before (Some L) (Some M) agreed q hq input k signal end = reads_control agreed.0 L M agreed.2.meet q hq input k signal end

    abbrev reg : RegisterPins held.source (primary_at p a.path) (functions_of p held.strategy.supply) held.strategy.save held.strategy.restore c
    reg = held.fits

    abbrev pub controls : Option Assignment → Assignment → Controls
    controls last A = record { save_before = before last reg.save_node; save_now = at A reg.save_node; restore_before = before last reg.restore_node; restore_now = at A reg.restore_node }

    retention_inputs : list_all is_input_pin (retention_pins c) ≡ true
    retention_inputs =
        let one = and_parts (is_usable c) _ reg.fits in
        let two = and_parts (only_retains c.roles) _ one.1 in
        let three = and_parts (has_exactly_pins_of reg.need.source c) _ two.1 in
        let four = and_parts (same_state reg.need.source c reg.need.source.state c.state) _ three.1 in
        (and_parts (list_all is_input_pin (retention_pins c)) _ four.1).0

    save_signal : Signals reg.save_node
    save_signal = (reg.need.save, inl reg.is_save)

    restore_signal : Signals reg.restore_node
    restore_signal = (reg.need.restore, inr reg.is_restore)

    module _ (last : Option Assignment) (last_pins : Option PinAssignment) (agreed : AgreedBefore p modules real.placement last last_pins) (ev : Event) (A : Assignment) (B : PinAssignment) (m : Meet p modules real.placement ev A B) where
      by_use : (q : PinView) → IsIn q c.pins → is_input_pin q ≡ true → ControlEnd p good modules real a (control_of held.strategy q.use_of) (Some q) → (u : PinUse) → q.use_of ≡ u
          → ReadsControl (controls last A) u (read_before w last_pins a.path a.instance c q.name) (pins_read w B a.path a.instance c q.name)
      by_use q hq input end (uses.Retain classes.Save s r) is =
          let some : Some reg.save_node ≡ Some end.node = sym (ap (option_and_then (λ (x : Node × Action). Some x.0)) reg.is_save) ∙ (ap (control_of held.strategy) (sym is) ∙ end.is_node) in
          let same : end.node ≡ reg.save_node = cc in
          let pin : Some q ≡ Some end.pin = end.is_pin in
          let here : end.pin ≡ q = cc in
          let at_end = ap (λ (z : PinView). end_at_pin W (fuel_of W) a.path a.instance z.name) (sym here) ∙ (end.end ∙ ap (intended p W real.placement) same) in
          (reads_before last last_pins agreed q hq input reg.save_node save_signal at_end, reads_control ev A B m q hq input reg.save_node save_signal at_end)
      by_use q hq input end (uses.Retain classes.Restore s r) is =
          let some : Some reg.restore_node ≡ Some end.node = sym (ap (option_and_then (λ (x : Node × Action). Some x.0)) reg.is_restore) ∙ (ap (control_of held.strategy) (sym is) ∙ end.is_node) in
          let same : end.node ≡ reg.restore_node = cc in
          let pin : Some q ≡ Some end.pin = end.is_pin in
          let here : end.pin ≡ q = cc in
          let at_end = ap (λ (z : PinView). end_at_pin W (fuel_of W) a.path a.instance z.name) (sym here) ∙ (end.end ∙ ap (intended p W real.placement) same) in
          (reads_before last last_pins agreed q hq input reg.restore_node restore_signal at_end, reads_control ev A B m q hq input reg.restore_node restore_signal at_end)
      by_use q hq input end (uses.Retain classes.Both s r) is =
          let some : Some reg.save_node ≡ Some end.node = sym (ap (option_and_then (λ (x : Node × Action). Some x.0)) reg.is_save) ∙ (ap (control_of held.strategy) (sym is) ∙ end.is_node) in
          let same : end.node ≡ reg.save_node = cc in
          let pin : Some q ≡ Some end.pin = end.is_pin in
          let here : end.pin ≡ q = cc in
          let at_end = ap (λ (z : PinView). end_at_pin W (fuel_of W) a.path a.instance z.name) (sym here) ∙ (end.end ∙ ap (intended p W real.placement) same) in
          (reads_before last last_pins agreed q hq input reg.save_node save_signal at_end, reads_control ev A B m q hq input reg.save_node save_signal at_end)
      by_use q hq input end uses.Plain is = tt
      by_use q hq input end uses.IsoData is = tt
      by_use q hq input end uses.IsoEnable is = tt
      by_use q hq input end uses.ShiftData is = tt
      by_use q hq input end uses.ShiftEnable is = tt
      by_use q hq input end uses.Switch is = tt

      one_control : reg.need.one_signal ≡ true → ((controls last A).save_before ≡ (controls last A).restore_before) × ((controls last A).save_now ≡ (controls last A).restore_now)
      one_control e = let same = node-true reg.save_node reg.restore_node (sym reg.one ∙ e) in (ap (before last) same, ap (at A) same)

      pub reads_controls : ReadsControls reg.need c (controls last A) (read_before w last_pins a.path a.instance c) (pins_read w B a.path a.instance c)
      reads_controls = record {
        pins = λ q hq.
            let kept_pin = of-filter is_retention_pin q c.pins hq in
            by_use q kept_pin.0 (all_in is_input_pin q (retention_pins c) retention_inputs hq) (retention_end p good modules real a h held.source held.is_source state held.strategy held.is_strategy c f q kept_pin.0 kept_pin.1) q.use_of refl;
        one = one_control;
      }

  -- ---- states

  module _ (last : Option Assignment) (last_pins : Option PinAssignment) (agreed : AgreedBefore p modules real.placement last last_pins) (ev : Event) (s t : States) (A : Assignment) (B : PinAssignment) (agree : Agree p modules real.placement ev s.main A B) (same : SameRegisters (design_of p) s t) where
    abbrev m : Meet p modules real.placement ev A B
    m = agree.meet

    module _ (q : Path) (x : Name) (source : CellView) (e : cell_at p.structure q x ≡ Some source) (state : is_some source.state ≡ true) where
      abbrev a : Placed
      a = record { path = q; instance = x }

      register : is_register p.structure q x ≡ true
      register = ap holds_state e ∙ state

      abbrev on : Bool
      on = primary_on (design_of p) A q

      main_by : (c : CellView) → cell_of W a ≡ Some c → IsIn a (cell_instances p.structure) → IsPlain p good modules real supplied a c ⊎ IsRetained p good modules real supplied a c
          → main_in w last_pins B t q x (Some c) ≡ (states_after (design_of p) last A s).main q x
      main_by c f h (inl plain) =
          let some : Some c ≡ Some source = sym plain.is_source ∙ e in
          let same_cell : c ≡ source = cc in
          let none : retention p.intent q x ≡ None = plain.unretained (ap (λ (z : CellView). is_some z.state) same_cell ∙ state) in
          source-does c plain.primary (fit_power p good a h c plain.is_source plain.primary plain.is_primary) (none_is c.roles.retention (fits_at p good a c plain.is_source).no_retention) plain.sound.sound w last_pins B q x (comes p good modules real) (state_of A) plain.joins (apart p good modules real) m.alike.origins
          (pins_before p.structure last q x) (pins_at p.structure A q x) (plain_before a h c f plain last last_pins agreed) (plain_inputs p good modules real supplied ev A B m a h c f plain) t
          ∙ ((λ i. kept (sym (set_on_is p A (primary_of p.intent (domain_of p.intent q)) plain.primary plain.is_primary) i) (cell_after (sym plain.is_source i) (pins_before p.structure last q x) (pins_at p.structure A q x) (sym (same.main q x register) i)))
          ∙ ap (λ r. kept on (restored (design_of p) last A r (s.saved q x) (cell_after (cell_at p.structure q x) (pins_before p.structure last q x) (pins_at p.structure A q x) (s.main q x)))) (sym none))
      main_by c f h (inr held) =
          let some : Some held.source ≡ Some source = sym held.is_source ∙ e in
          let same_cell : held.source ≡ source = cc in
          let has : is_some held.source.state ≡ true = ap (λ (z : CellView). is_some z.state) same_cell ∙ state in
          let need : held.fits.need.source ≡ held.source = held.fits.of_source in
          let saved : s.saved q x ≡ t.saved q x = same.saved q x (and_from _ _ register (ap is_some held.is_strategy)) in
          register-does held.fits.need c held.fits.fits (subst IsSound (sym need) held.source_sound.sound) held.sound.sound w last_pins B q x (comes p good modules real) (state_of A) held.joins (apart p good modules real) m.alike.origins
          (pins_before p.structure last q x) (pins_at p.structure A q x)
          (subst (λ z. SameInputs z (pins_before p.structure last q x) (read_before w last_pins q x c)) (sym need) (retained_before a h c f held last last_pins agreed))
          (subst (λ z. SameInputs z (pins_at p.structure A q x) (pins_read w B q x c)) (sym need) (retained_inputs p good modules real supplied ev A B m a h c f held))
          (controls a h c f held has last A) (reads_controls a h c f held has last last_pins agreed ev A B m) t
          ∙ ((λ i. kept (sym (set_on_is p A (primary_of p.intent (domain_of p.intent q)) held.fits.need.primary held.fits.is_primary) i)
          (main_of (fires_at last A (sym held.fits.is_restore i)) (kept (sym (set_on_is p A held.strategy.supply held.fits.need.retention held.fits.is_kept) i) (sym saved i))
          (cell_after ((ap (λ z. Some z) need ∙ sym held.is_source) i) (pins_before p.structure last q x) (pins_at p.structure A q x) (sym (same.main q x register) i))))
          ∙ ap (λ r. kept on (restored (design_of p) last A r (s.saved q x) (cell_after (cell_at p.structure q x) (pins_before p.structure last q x) (pins_at p.structure A q x) (s.main q x)))) (sym held.is_strategy))

      saved_by : (retained : is_some (retention p.intent q x) ≡ true) → (c : CellView) → cell_of W a ≡ Some c → IsIn a (cell_instances p.structure) → IsPlain p good modules real supplied a c ⊎ IsRetained p good modules real supplied a c
          → saved_in w last_pins B t q x (Some c) ≡ (states_after (design_of p) last A s).saved q x
      saved_by retained c f h (inl plain) =
          let some : Some c ≡ Some source = sym plain.is_source ∙ e in
          let same_cell : c ≡ source = cc in
          let none : retention p.intent q x ≡ None = plain.unretained (ap (λ (z : CellView). is_some z.state) same_cell ∙ state) in
          absurd (both_ways (is_some (retention p.intent q x)) (ap is_some none) retained)
      saved_by retained c f h (inr held) =
          let some : Some held.source ≡ Some source = sym held.is_source ∙ e in
          let same_cell : held.source ≡ source = cc in
          let has : is_some held.source.state ≡ true = ap (λ (z : CellView). is_some z.state) same_cell ∙ state in
          let need : held.fits.need.source ≡ held.source = held.fits.of_source in
          let saved : s.saved q x ≡ t.saved q x = same.saved q x (and_from _ _ register retained) in
          register-saves held.fits.need c held.fits.fits (subst IsSound (sym need) held.source_sound.sound) held.sound.sound w last_pins B q x (comes p good modules real) (state_of A) held.joins (apart p good modules real) m.alike.origins
          (controls a h c f held has last A) (reads_controls a h c f held has last last_pins agreed ev A B m) t
          ∙ ((λ i. kept (sym (set_on_is p A held.strategy.supply held.fits.need.retention held.fits.is_kept) i)
          (copy_of (fires_at last A (sym held.fits.is_save i)) (kept (sym (set_on_is p A (primary_of p.intent (domain_of p.intent q)) held.fits.need.primary held.fits.is_primary) i) (sym (same.main q x register) i))
          (kept (sym (set_on_is p A held.strategy.supply held.fits.need.retention held.fits.is_kept) i) (sym saved i))))
          ∙ ap (λ r. saved_after (design_of p) last A r (kept on (s.main q x)) (s.saved q x)) (sym held.is_strategy))

      in_netlist : (c : CellView) × (cell_of W a ≡ Some c)
      in_netlist =
          let h = cell_there p.structure (source_shallow p good) q x source e in
          let cell = passed_cell (takes_place p a (retention p.intent q x) (cell_of p.structure a)) (cell_of W a) (source_stands p good modules real a h) in (cell.0, cell.1)

      main_same : (states_after (design_of p) last A s).main q x ≡ (states_after_by_pins w last_pins B t).main q x
      main_same =
          let h = cell_there p.structure (source_shallow p good) q x source e in
          sym (ap (main_in w last_pins B t q x) in_netlist.1 ∙ main_by in_netlist.0 in_netlist.1 h (kind p good modules real supplied a h in_netlist.0 in_netlist.1))

      saved_same : is_some (retention p.intent q x) ≡ true → (states_after (design_of p) last A s).saved q x ≡ (states_after_by_pins w last_pins B t).saved q x
      saved_same retained =
          let h = cell_there p.structure (source_shallow p good) q x source e in
          sym (ap (saved_in w last_pins B t q x) in_netlist.1 ∙ saved_by retained in_netlist.0 in_netlist.1 h (kind p good modules real supplied a h in_netlist.0 in_netlist.1))

    at_register : (q : Path) (x : Name) → is_register p.structure q x ≡ true → (source : CellView) × (cell_at p.structure q x ≡ Some source) × (is_some source.state ≡ true)
    at_register q x g = by (cell_at p.structure q x) refl g
      where
        by : (o : Option CellView) → cell_at p.structure q x ≡ o → holds_state o ≡ true → (source : CellView) × (cell_at p.structure q x ≡ Some source) × (is_some source.state ≡ true)
        by None e k = absurd (false≢true k)
        by (Some c) e k = (c, e, k)

    pub kept_same : SameRegisters (design_of p) (states_after (design_of p) last A s) (states_after_by_pins w last_pins B t)
    kept_same = record {
      main = λ q x g. let of = at_register q x g in main_same q x of.0 of.1 of.2;
      saved = λ q x g.
          let both = and_parts (is_register p.structure q x) (is_some (retention p.intent q x)) g in
          let of = at_register q x both.0 in saved_same q x of.0 of.1 of.2 both.1;
    }

  pub registers_agree : RegistersAgree p modules real.placement
  registers_agree last last_pins agreed ev s t A B agree same = kept_same last last_pins agreed ev s t A B agree same
