-- The runs of a plain design under its intent and of a netlist that carries it show the same and leave the registers the same.
use Rattle.std.proofs.Common.{◌≡◌, ℕ, Bool, true, List, [], ◌∷◌, map, Option, Some, None, refl, sym, ◌∙◌, ap, subst}
use Rattle.std.specs.Prelude.{option_and_then, is_some}
use Rattle.std.specs.List.{list_all}
use Rattle.std.proofs.lemmas.Bool.{and_parts, both_ways}
use Rattle.lp_tern.specs.declared.tern.Tern.{Tern}
use Rattle.lp_model.specs.LibraryView.{ExprView, StateView, CellView}
use Rattle.lp_behaviour.specs.Registers.{loaded_of, forced_of}
use Rattle.lp_spec_settling.specs.Settling.{HasOrder, SettlesOnce}
use Rattle.lp_spec_settling.proofs.Runs.{runs_once}
use Rattle.lp_spec_design.specs.Keys.{Name, Path, Node, Outer}
use Rattle.lp_spec_design.specs.Netlists.{cell_at}
use Rattle.lp_spec_design.specs.Intents.{SupplySet}
use Rattle.lp_spec_design.specs.Settled.{Key, Assignment, Design, Event, Registers, kept, function_value, pins_at, equation}
use Rattle.lp_spec_design.specs.Reads.{keys, reads}
use Rattle.lp_spec_design.specs.Registers.{States, retention, state_after, cell_after, pins_before, restored, primary_on, states_after, holds_state, is_register}
use Rattle.lp_spec_design.specs.Runs.{IsRun, equation_in, output_bits, shown, trace, states_along, SameRegisters, SameAlong}
use Rattle.lp_spec_design.proofs.Runs.{settles_in_order}
use Rattle.lp_spec_pins.specs.Pins.{Powered, PinAssignment, PinEvent, PinKey, is_up, pins_read, pin_equation}
use Rattle.lp_spec_pins.specs.Registers.{read_before, restored_in, copy_kept, state_is_up, main_in, states_after_by_pins}
use Rattle.lp_spec_pins.specs.Runs.{IsRunByPins, shown_by_pins, trace_by_pins, states_along_by_pins}
use Rattle.lp_spec_pins.proofs.Held.{equation-held}
use Rattle.lp_spec_plain.specs.Cells.{is_plain_state}
use Rattle.lp_spec_plain.specs.Designs.{IsPlain}
use Rattle.lp_spec_plain.specs.Carried.{Carries}
use Rattle.lp_spec_plain.specs.Alike.{at_ports, BehavesAlike}
use Rattle.lp_spec_plain.proofs.Reading.{kept-lost, promises, pins-same, function-same}
use Rattle.lp_spec_plain.proofs.Equations.{up_same, output_same}
use Rattle.lp_spec_plain.proofs.Settled.{SameValues, to_pins, alike_pins, pins_settle, pins_only}

module _ (d : Design) (one : SupplySet) (plain : IsPlain d one) (w : Powered) (own : Node → Bool) (power gnd : Name) (carries : Carries d w own power gnd) where
  -- what settled before, on both sides or on none
  abbrev LastAlike : Option Assignment → Option PinAssignment → Type 0
  LastAlike None None = Unit {0}
  LastAlike (Some A) (Some B) = SameValues d one plain w own power gnd carries A B
  LastAlike _ _ = ⊥

  -- ---- registers

  -- the main states of the registers are equal
  abbrev Held : States → States → Type 0
  Held s t = (p : Path) (x : Name) → is_register d.structure p x ≡ true → s.main p x ≡ t.main p x

  module _ (last : Option Assignment) (last_pins : Option PinAssignment) (before : LastAlike last last_pins) (A : Assignment) (B : PinAssignment) (alike : SameValues d one plain w own power gnd carries A B) (p : Path) (x : Name) where
    before_same : (c : CellView) → cell_at d.structure p x ≡ Some c → (l : Option Assignment) (m : Option PinAssignment) → LastAlike l m → (e : ExprView) (q : Tern) → function_value c (read_before w m p x c) q e ≡ function_value c (pins_before d.structure l p x) q e
    before_same c cell None None h e q = refl
    before_same c cell None (Some M) h e q = absurd h
    before_same c cell (Some L) None h e q = absurd h
    before_same c cell (Some L) (Some M) h e q = function-same c (pins_read w M p x c) (pins_at d.structure L p x) (pins-same d one plain w own power gnd carries M L h.same p x c cell) q e

    now_same : (c : CellView) → cell_at d.structure p x ≡ Some c → (e : ExprView) (q : Tern) → function_value c (pins_read w B p x c) q e ≡ function_value c (pins_at d.structure A p x) q e
    now_same c cell e q = function-same c (pins_read w B p x c) (pins_at d.structure A p x) (pins-same d one plain w own power gnd carries B A alike.same p x c cell) q e

    state_same : (c : CellView) → cell_at d.structure p x ≡ Some c → (g : Option StateView) → is_plain_state c g ≡ true → (q : Tern)
        → kept (is_up w B p x c (option_and_then (λ (s : StateView). Some s.power_down) g)) (state_after c g (read_before w last_pins p x c) (pins_read w B p x c) q)
        ≡ kept (primary_on d A p) (state_after c g (pins_before d.structure last p x) (pins_at d.structure A p x) q)
    state_same c cell None follows q = kept-lost (is_up w B p x c None) ∙ sym (kept-lost (primary_on d A p))
    state_same c cell (Some g) follows q = λ i.
        kept (up_same d one plain w own power gnd carries A B alike p x c cell (Some g.power_down) (Some g.power_down) follows g.power_down refl i)
        (forced_of (now_same c cell g.clear q i) (now_same c cell g.preset q i)
        (loaded_of g.kind (before_same c cell last last_pins before g.clock q i) (now_same c cell g.clock q i) (before_same c cell last last_pins before g.next q i) (now_same c cell g.next q i) q))

    -- a cell without a state group goes on to X, whatever its state
    held_same : (s t : States) → Held s t → (c : CellView) → cell_at d.structure p x ≡ Some c → (g : Option StateView) → c.state ≡ g → (l now : Name → Tern) → state_after c g l now (t.main p x) ≡ state_after c g l now (s.main p x)
    held_same s t e c cell None is l now = refl
    held_same s t e c cell (Some g) is l now = ap (state_after c (Some g) l now) (sym (e p x (ap holds_state cell ∙ ap is_some is)))

    cell_same : (s t : States) → Held s t → (c : Option CellView) → cell_at d.structure p x ≡ c → main_in w last_pins B t p x c ≡ kept (primary_on d A p) (cell_after c (pins_before d.structure last p x) (pins_at d.structure A p x) (s.main p x))
    cell_same s t e None cell = sym (kept-lost (primary_on d A p))
    cell_same s t e (Some c) cell =
        ap (λ r. kept (state_is_up w B p x c) (restored_in c r (read_before w last_pins p x c) (pins_read w B p x c) (copy_kept w B p x c (t.saved p x)) (cell_after (Some c) (read_before w last_pins p x c) (pins_read w B p x c) (t.main p x)))) (promises c (plain.cells_plain p x c cell)).no_retention
        ∙ (state_same c cell c.state (promises c (plain.cells_plain p x c cell)).plain_state (t.main p x)
        ∙ ap (kept (primary_on d A p)) (held_same s t e c cell c.state refl (pins_before d.structure last p x) (pins_at d.structure A p x)))

    main_at : (s t : States) → Held s t → main_in w last_pins B t p x (cell_at w.structure p x) ≡ (states_after d last A s).main p x
    main_at s t e =
        ap (main_in w last_pins B t p x) (carries.same_cell p x)
        ∙ (cell_same s t e (cell_at d.structure p x) refl
        ∙ ap (λ r. kept (primary_on d A p) (restored d last A r (s.saved p x) (cell_after (cell_at d.structure p x) (pins_before d.structure last p x) (pins_at d.structure A p x) (s.main p x)))) (sym (plain.no_retention p x)))

  main_same : (last : Option Assignment) (last_pins : Option PinAssignment) → LastAlike last last_pins → (A : Assignment) (B : PinAssignment) → SameValues d one plain w own power gnd carries A B → (s t : States) → Held s t → Held (states_after d last A s) (states_after_by_pins w last_pins B t)
  main_same last last_pins before A B alike s t e p x register = sym (main_at last last_pins before A B alike p x s t e)

  -- no register is retained
  registers_same : (s t : States) → Held s t → SameRegisters d s t
  registers_same s t e = record {
    main = e;
    saved = λ p x retained. absurd (both_ways (is_some (retention d.intent p x)) (ap is_some (plain.no_retention p x)) (and_parts _ _ retained).1);
  }

  -- by pins the same settles from equal registers
  settles_held : (s t : States) → Held s t → (B : PinAssignment) (ev : PinEvent) (k : PinKey) → pin_equation w ev s.main k B ≡ pin_equation w ev t.main k B
  settles_held s t e B = equation-held w B s.main t.main (λ p x h. e p x (ap holds_state (sym (carries.same_cell p x)) ∙ h))

  -- ---- runs

  module _ (origin : Name → ℕ) (power_is : origin power ≡ one.power) (gnd_is : origin gnd ≡ one.gnd) (ordered : HasOrder keys (reads d)) where
    once : (ev : Event) (regs : Registers) → SettlesOnce (equation d ev regs)
    once = settles_in_order d ordered

    at_power : (ev : Event) → (at_ports origin ev).supplies power ≡ ev.supplies one.power
    at_power ev = ap ev.supplies power_is

    at_gnd : (ev : Event) → (at_ports origin ev).supplies gnd ≡ ev.supplies one.gnd
    at_gnd ev = ap ev.supplies gnd_is

    abbrev carried : Event → Assignment → PinAssignment
    carried ev A = to_pins d one plain w own power gnd carries (at_ports origin ev) A

    pins_run : List Event → List Assignment → List PinAssignment
    pins_run (ev ∷ events) (A ∷ run) = carried ev A ∷ pins_run events run
    pins_run _ _ = []

    carried_alike : (ev : Event) (regs : Registers) (A : Assignment) → ((k : Key) → A k ≡ equation d ev regs k A) → SameValues d one plain w own power gnd carries A (carried ev A)
    carried_alike ev regs A s = alike_pins d one plain w own power gnd carries ev (at_ports origin ev) refl (at_power ev) (at_gnd ev) regs A s

    is_pins_run : (last : Option Assignment) (last_pins : Option PinAssignment) → LastAlike last last_pins → (s t : States) → Held s t → (events : List Event) (run : List Assignment) → IsRun d last s events run → IsRunByPins w last_pins t (map (at_ports origin) events) (pins_run events run)
    unfolding pins_run
    is_pins_run last last_pins before s t e [] [] r = tt
    is_pins_run last last_pins before s t e [] (A ∷ run) r = absurd r
    is_pins_run last last_pins before s t e (ev ∷ events) [] r = absurd r
    is_pins_run last last_pins before s t e (ev ∷ events) (A ∷ run) r =
        let same = carried_alike ev s.main A r.0 in (
          λ k. pins_settle d one plain w own power gnd carries ev (at_ports origin ev) refl (at_power ev) (at_gnd ev) s.main A r.0 k ∙ settles_held s t e (carried ev A) (at_ports origin ev) k,
          is_pins_run (Some A) (Some (carried ev A)) same (states_after d last A s) (states_after_by_pins w last_pins (carried ev A) t) (main_same last last_pins before A (carried ev A) same s t e) events run r.1,
        )

    only_run : (last : Option Assignment) (last_pins : Option PinAssignment) → LastAlike last last_pins → (s t : States) → Held s t → (events : List Event) (run : List Assignment) → IsRun d last s events run → (other : List PinAssignment) → IsRunByPins w last_pins t (map (at_ports origin) events) other → other ≡ pins_run events run
    unfolding pins_run
    only_run last last_pins before s t e [] [] r [] o = refl
    only_run last last_pins before s t e [] [] r (B ∷ other) o = absurd o
    only_run last last_pins before s t e [] (A ∷ run) r other o = absurd r
    only_run last last_pins before s t e (ev ∷ events) [] r other o = absurd r
    only_run last last_pins before s t e (ev ∷ events) (A ∷ run) r [] o = absurd o
    only_run last last_pins before s t e (ev ∷ events) (A ∷ run) r (B ∷ other) o =
        let same = carried_alike ev s.main A r.0 in
        let here : B ≡ carried ev A = pins_only d one plain w own power gnd carries ev (at_ports origin ev) refl (at_power ev) (at_gnd ev) s.main (once ev s.main) A r.0 B (λ k. o.0 k ∙ sym (settles_held s t e B (at_ports origin ev) k)) in
        let rest : other ≡ pins_run events run = only_run (Some A) (Some (carried ev A)) same (states_after d last A s) (states_after_by_pins w last_pins (carried ev A) t) (main_same last last_pins before A (carried ev A) same s t e) events run r.1 other
        (subst (λ z. IsRunByPins w (Some z) (states_after_by_pins w last_pins z t) (map (at_ports origin) events) other) here o.1) in
        λ i. here i ∷ rest i

    -- ---- traces

    outputs_same : (ev : Event) (regs : Registers) (A : Assignment) → ((k : Key) → A k ≡ equation d ev regs k A) → (bits : List (Name × Option ℕ)) → list_all (λ b. own (Outer b.0 b.1)) bits ≡ true → map (shown d A) bits ≡ map (shown_by_pins w (carried ev A)) bits
    outputs_same ev regs A s [] all = refl
    outputs_same ev regs A s (b ∷ bits) all = λ i.
        output_same d one plain w own power gnd carries A (carried ev A) (carried_alike ev regs A s) b (and_parts _ _ all).0 i
        ∷ outputs_same ev regs A s bits (and_parts _ _ all).1 i

    traces_same : (last : Option Assignment) (s : States) (events : List Event) (run : List Assignment) → IsRun d last s events run → trace d run ≡ trace_by_pins w (output_bits d.structure) (pins_run events run)
    unfolding pins_run
    traces_same last s [] [] r = refl
    traces_same last s [] (A ∷ run) r = absurd r
    traces_same last s (ev ∷ events) [] r = absurd r
    traces_same last s (ev ∷ events) (A ∷ run) r = λ i. outputs_same ev s.main A r.0 (output_bits d.structure) carries.outputs_own i ∷ traces_same (Some A) (states_after d last A s) events run r.1 i

    registers_along : (last : Option Assignment) (last_pins : Option PinAssignment) → LastAlike last last_pins → (s t : States) → Held s t → (events : List Event) (run : List Assignment) → IsRun d last s events run → SameAlong d (states_along d last s run) (states_along_by_pins w last_pins t (pins_run events run))
    unfolding pins_run
    registers_along last last_pins before s t e [] [] r = tt
    registers_along last last_pins before s t e [] (A ∷ run) r = absurd r
    registers_along last last_pins before s t e (ev ∷ events) [] r = absurd r
    registers_along last last_pins before s t e (ev ∷ events) (A ∷ run) r =
        let same = carried_alike ev s.main A r.0 in
        let after = main_same last last_pins before A (carried ev A) same s t e in (
          registers_same (states_after d last A s) (states_after_by_pins w last_pins (carried ev A) t) after,
          registers_along (Some A) (Some (carried ev A)) same (states_after d last A s) (states_after_by_pins w last_pins (carried ev A) t) after events run r.1,
        )

    pub runs_alike : BehavesAlike d w origin
    runs_alike events states by_pins begin =
        let intent = runs_once (equation_in d) (states_after d) (λ ev s. once ev s.main) None states events in
        record {
          intent = intent;
          pins = record {
            run = pins_run events intent.run;
            is_run = is_pins_run None None tt states by_pins begin.main events intent.run intent.is_run;
            only = λ other o. only_run None None tt states by_pins begin.main events intent.run intent.is_run other o;
          };
          traces = traces_same None states events intent.run intent.is_run;
          registers = registers_along None None tt states by_pins begin.main events intent.run intent.is_run;
        }
