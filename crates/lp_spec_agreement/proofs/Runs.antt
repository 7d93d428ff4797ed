-- The runs of a source under its intent and of a netlist by its pins show the same and leave the registers the same, where cells agree.
use Rattle.std.proofs.Common.{◌≡◌, ℕ, List, [], ◌∷◌, map, Option, Some, None, inl, inr, refl, sym, ◌∙◌, subst}
use Rattle.lp_model.specs.NetlistView.{ModuleView}
use Rattle.lp_spec_settling.specs.Settling.{HasOrder, Settles, SettlesOnce}
use Rattle.lp_spec_settling.proofs.Runs.{runs_once}
use Rattle.lp_spec_design.specs.Keys.{Name}
use Rattle.lp_spec_design.specs.Winners.{IsIn}
use Rattle.lp_spec_design.specs.Settled.{Assignment, Event, Registers, equation}
use Rattle.lp_spec_design.specs.Reads.{keys, reads}
use Rattle.lp_spec_design.specs.Registers.{States, states_after}
use Rattle.lp_spec_design.specs.Runs.{IsRun, equation_in, output_bits, shown, trace, states_along, SameRegisters, SameAlong}
use Rattle.lp_spec_design.proofs.Runs.{settles_in_order}
use Rattle.lp_spec_pins.specs.Pins.{Powered, PinKey, PinAssignment, PinEvent, pin_equation}
use Rattle.lp_spec_pins.specs.Registers.{states_after_by_pins}
use Rattle.lp_spec_pins.specs.Runs.{IsRunByPins, shown_by_pins, trace_by_pins, states_along_by_pins}
use Rattle.lp_spec_pins.proofs.Held.{equation-held}
use Rattle.lp_spec_realises.specs.Projects.{Project, design_of}
use Rattle.lp_spec_realises.specs.ProjectNetlists.{netlist_of}
use Rattle.lp_spec_realises.specs.Operators.{Placement}
use Rattle.lp_spec_realises.specs.Surroundings.{powered_of, event_at_pins, IsWithinRows, AreWithin, SameEvents}
use Rattle.lp_spec_agreement.specs.Cells.{Agree, AgreedBefore, bit_across, AllAgree}
use Rattle.lp_spec_agreement.specs.Laws.{RunsMeet}
use Rattle.lp_spec_agreement.proofs.Frame.{Frame}
use Rattle.lp_spec_agreement.proofs.ToPins.{to_pins, pins_settle, given_agrees, pins_only}

module _ (p : Project) (modules : List ModuleView) (place : Placement) (frame : Frame p modules place) (cells : AllAgree p modules place) (ordered : HasOrder keys (reads (design_of p))) where
  abbrev w : Powered
  w = powered_of p modules place

  abbrev at_pins : Event → PinEvent
  at_pins ev = event_at_pins p (netlist_of p modules) ev

  abbrev Same : States → States → Type 0
  Same = SameRegisters (design_of p)

  abbrev Before : Option Assignment → Option PinAssignment → Type 0
  Before = AgreedBefore p modules place

  once : (ev : Event) (regs : Registers) → SettlesOnce (equation (design_of p) ev regs)
  once = settles_in_order (design_of p) ordered

  -- by pins the same settles from equal registers
  settles_held : (s t : States) → Same s t → (B : PinAssignment) (ev : PinEvent) (k : PinKey) → pin_equation w ev s.main k B ≡ pin_equation w ev t.main k B
  settles_held s t same B = equation-held w B s.main t.main (λ q x h. same.main q x (cells.no_other_register q x h))

  abbrev given : (ev : Event) → IsWithinRows p ev → Registers → Assignment → PinAssignment
  given ev within regs A = to_pins p modules place frame cells ev within regs A

  pins_run : Option Assignment → States → (events : List Event) → AreWithin p events → List Assignment → List PinAssignment
  pins_run last s [] within run = []
  pins_run last s (ev ∷ events) within [] = []
  pins_run last s (ev ∷ events) within (A ∷ run) = given ev within.0 s.main A ∷ pins_run (Some A) (states_after (design_of p) last A s) events within.1 run

  agrees : (ev : Event) (within : IsWithinRows p ev) (regs : Registers) (A : Assignment) → Settles (equation (design_of p) ev regs) A → Agree p modules place ev regs A (given ev within regs A)
  agrees ev within regs A s = given_agrees p modules place frame cells ev within regs A s

  next : (last : Option Assignment) (last_pins : Option PinAssignment) → Before last last_pins → (s t : States) → Same s t → (ev : Event) (within : IsWithinRows p ev) (A : Assignment) → Settles (equation (design_of p) ev s.main) A
      → Same (states_after (design_of p) last A s) (states_after_by_pins w last_pins (given ev within s.main A) t)
  next last last_pins before s t same ev within A settles = cells.registers last last_pins before ev s t A (given ev within s.main A) (agrees ev within s.main A settles) same

  is_pins_run : (last : Option Assignment) (last_pins : Option PinAssignment) → Before last last_pins → (s t : States) → Same s t → (events : List Event) (within : AreWithin p events) (run : List Assignment) → IsRun (design_of p) last s events run
      → IsRunByPins w last_pins t (map at_pins events) (pins_run last s events within run)
  unfolding pins_run
  is_pins_run last last_pins before s t same [] within [] r = tt
  is_pins_run last last_pins before s t same [] within (A ∷ run) r = absurd r
  is_pins_run last last_pins before s t same (ev ∷ events) within [] r = absurd r
  is_pins_run last last_pins before s t same (ev ∷ events) within (A ∷ run) r = (
    λ k. pins_settle p modules place frame cells ev within.0 s.main A r.0 k ∙ settles_held s t same (given ev within.0 s.main A) (at_pins ev) k,
    is_pins_run (Some A) (Some (given ev within.0 s.main A)) (ev, s.main, agrees ev within.0 s.main A r.0) (states_after (design_of p) last A s) (states_after_by_pins w last_pins (given ev within.0 s.main A) t)
        (next last last_pins before s t same ev within.0 A r.0) events within.1 run r.1,
  )

  only_run : (last : Option Assignment) (last_pins : Option PinAssignment) → Before last last_pins → (s t : States) → Same s t → (events : List Event) (within : AreWithin p events) (run : List Assignment) → IsRun (design_of p) last s events run
      → (other : List PinAssignment) → IsRunByPins w last_pins t (map at_pins events) other → other ≡ pins_run last s events within run
  unfolding pins_run
  only_run last last_pins before s t same [] within [] r [] o = refl
  only_run last last_pins before s t same [] within [] r (B ∷ other) o = absurd o
  only_run last last_pins before s t same [] within (A ∷ run) r other o = absurd r
  only_run last last_pins before s t same (ev ∷ events) within [] r other o = absurd r
  only_run last last_pins before s t same (ev ∷ events) within (A ∷ run) r [] o = absurd o
  only_run last last_pins before s t same (ev ∷ events) within (A ∷ run) r (B ∷ other) o =
      let here : B ≡ given ev within.0 s.main A = pins_only p modules place frame cells ev within.0 s.main A r.0 (once ev s.main) B (λ k. o.0 k ∙ sym (settles_held s t same B (at_pins ev) k)) in
      let rest : other ≡ pins_run (Some A) (states_after (design_of p) last A s) events within.1 run =
      only_run (Some A) (Some (given ev within.0 s.main A)) (ev, s.main, agrees ev within.0 s.main A r.0) (states_after (design_of p) last A s) (states_after_by_pins w last_pins (given ev within.0 s.main A) t)
      (next last last_pins before s t same ev within.0 A r.0) events within.1 run r.1 other
      (subst (λ z. IsRunByPins w (Some z) (states_after_by_pins w last_pins z t) (map at_pins events) other) here o.1) in
      λ i. here i ∷ rest i

  -- ---- traces

  outputs_same : (ev : Event) (within : IsWithinRows p ev) (regs : Registers) (A : Assignment) → Settles (equation (design_of p) ev regs) A
      → (bits : List (Name × Option ℕ)) → ((b : Name × Option ℕ) → IsIn b bits → IsIn b (output_bits p.structure)) → map (shown (design_of p) A) bits ≡ map (shown_by_pins w (given ev within regs A)) (map (bit_across p modules place) bits)
  outputs_same ev within regs A s [] all = refl
  outputs_same ev within regs A s (b ∷ bits) all = λ i.
      cells.outputs ev regs A (given ev within regs A) (agrees ev within regs A s) b (all b (inl refl)) i
      ∷ outputs_same ev within regs A s bits (λ c h. all c (inr h)) i

  traces_same : (last : Option Assignment) (s : States) (events : List Event) (within : AreWithin p events) (run : List Assignment) → IsRun (design_of p) last s events run
      → trace (design_of p) run ≡ trace_by_pins w (map (bit_across p modules place) (output_bits p.structure)) (pins_run last s events within run)
  unfolding pins_run
  traces_same last s [] within [] r = refl
  traces_same last s [] within (A ∷ run) r = absurd r
  traces_same last s (ev ∷ events) within [] r = absurd r
  traces_same last s (ev ∷ events) within (A ∷ run) r = λ i.
      outputs_same ev within.0 s.main A r.0 (output_bits p.structure) (λ b h. h) i
      ∷ traces_same (Some A) (states_after (design_of p) last A s) events within.1 run r.1 i

  registers_along : (last : Option Assignment) (last_pins : Option PinAssignment) → Before last last_pins → (s t : States) → Same s t → (events : List Event) (within : AreWithin p events) (run : List Assignment) → IsRun (design_of p) last s events run
      → SameAlong (design_of p) (states_along (design_of p) last s run) (states_along_by_pins w last_pins t (pins_run last s events within run))
  unfolding pins_run
  registers_along last last_pins before s t same [] within [] r = tt
  registers_along last last_pins before s t same [] within (A ∷ run) r = absurd r
  registers_along last last_pins before s t same (ev ∷ events) within [] r = absurd r
  registers_along last last_pins before s t same (ev ∷ events) within (A ∷ run) r =
      let further = next last last_pins before s t same ev within.0 A r.0 in (
        further,
        registers_along (Some A) (Some (given ev within.0 s.main A)) (ev, s.main, agrees ev within.0 s.main A r.0) (states_after (design_of p) last A s) (states_after_by_pins w last_pins (given ev within.0 s.main A) t) further events within.1 run r.1,
      )

  runs_over : (events : List Event) (within : AreWithin p events) (states by_pins : States) → Same states by_pins → RunsMeet p modules place events (map at_pins events) states by_pins
  runs_over events within states by_pins begin =
      let intent = runs_once (equation_in (design_of p)) (states_after (design_of p)) (λ ev s. once ev s.main) None states events in
      record {
        intent = intent;
        pins = record {
          run = pins_run None states events within intent.run;
          is_run = is_pins_run None None tt states by_pins begin events within intent.run intent.is_run;
          only = λ other o. only_run None None tt states by_pins begin events within intent.run intent.is_run other o;
        };
        traces = traces_same None states events within intent.run intent.is_run;
        registers = registers_along None None tt states by_pins begin events within intent.run intent.is_run;
      }

  pub runs_agree : (events : List Event) → AreWithin p events → (pin_events : List PinEvent) → SameEvents p modules events pin_events → (states by_pins : States) → Same states by_pins
      → RunsMeet p modules place events pin_events states by_pins
  runs_agree events within pin_events is states by_pins begin = subst (λ z. RunsMeet p modules place events z states by_pins) (sym is) (runs_over events within states by_pins begin)
