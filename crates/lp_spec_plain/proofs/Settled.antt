-- What settles under intent settles by pins, and nothing else does.
use Rattle.std.proofs.Common.{◌≡◌, ℕ, Bool, true, false, cond, Option, Some, None, refl, sym, ◌∙◌, ap}
use Rattle.std.specs.Prelude.{is_none, bytes_eq, slice_get}
use Rattle.std.specs.List.{list_all}
use Rattle.std.proofs.lemmas.Bool.{both_ways, false≢true}
use Rattle.lp_tern.specs.declared.tern.Tern.TheVariants.{X}
use Rattle.lp_tern.specs.declared.supply.SupplyState.TheVariants.{Unknown}
use Rattle.lp_model.specs.LibraryView.{SwitchedView, PgPinView, CellView}
use Rattle.lp_spec_settling.specs.Settling.{Settles, SettlesOnce}
use Rattle.lp_spec_design.specs.Keys.{Name, Path, Node, Inner, Outer, Fixed}
use Rattle.lp_spec_design.specs.Netlists.{cell_at}
use Rattle.lp_spec_design.specs.Graph.{source_of}
use Rattle.lp_spec_design.specs.Intents.{SupplySet, Origin, FromPort, FromSwitch}
use Rattle.lp_spec_design.specs.Settled.{At, Of, Logic, State, Assignment, Design, Event, Registers, at, logic_in, state_in, node_equation, origin_equation, equation}
use Rattle.lp_spec_pins.specs.Pins.{FromTop, FromSwitched, Powered, PinKey, Signal, Supply, PinAssignment, PinEvent, signal_at, pg_named, top_input, signal_equation, switched_of, switched_state, switch_equation, pin_equation}
use Rattle.lp_spec_plain.specs.Designs.{IsPlain}
use Rattle.lp_spec_plain.specs.Carried.{LeadsFromPort, FromNothing, AtPort, Along, Carries}
use Rattle.lp_spec_plain.proofs.Reading.{all-first, promises}
use Rattle.lp_spec_plain.proofs.Equations.{Alike, signal_same}

module _ (d : Design) (one : SupplySet) (plain : IsPlain d one) (w : Powered) (own : Node → Bool) (power gnd : Name) (carries : Carries d w own power gnd) where
  abbrev pub SameValues : Assignment → PinAssignment → Type 0
  SameValues A B = Alike d one plain w own power gnd carries A B

  -- ---- from one side to the other

  pub to_pins : PinEvent → Assignment → PinAssignment
  to_pins pe A (Signal k) = cond (own k) (A (At k)) (Logic X)
  to_pins pe A (Supply (FromTop n)) = State (pe.supplies n)
  to_pins pe A (Supply (FromSwitched p x g)) = State Unknown

  -- no origin is a switch, so its state does not depend on values
  nowhere : Assignment
  nowhere k = Logic X

  to_intent : Event → PinAssignment → Assignment
  to_intent ev B (At k) = cond (own k) (B (Signal k)) (Logic X)
  to_intent ev B (Of o) = State (origin_equation ev nowhere o (slice_get d.network.origins o))

  origin_same : (ev : Event) (A B : Assignment) (o : ℕ) (x : Option Origin) → slice_get d.network.origins o ≡ x → origin_equation ev A o x ≡ origin_equation ev B o x
  origin_same ev A B o None is = refl
  origin_same ev A B o (Some FromPort) is = refl
  origin_same ev A B o (Some (FromSwitch input k high)) is = absurd (plain.no_switch o input k high is)

  -- ---- switched pins

  unswitched : (c : CellView) → list_all (λ (g : PgPinView). is_none g.switched) c.pgs ≡ true → (n : Name) (g : Option PgPinView) → pg_named c n ≡ g → switched_of g ≡ None
  unswitched c all n None is = refl
  unswitched c all n (Some g) is = by g.switched (all-first (λ (h : PgPinView). is_none h.switched) (λ (h : PgPinView). bytes_eq h.name n) c.pgs g all is)
    where
      by : (s : Option SwitchedView) → is_none s ≡ true → s ≡ None
      by None e = refl
      by (Some s) e = absurd (false≢true e)

  switch_unknown : (B : PinAssignment) (regs : Registers) (p : Path) (x g : Name) (c : Option CellView) → cell_at d.structure p x ≡ c → switch_equation w B regs p x g c ≡ Unknown
  switch_unknown B regs p x g None is = refl
  switch_unknown B regs p x g (Some c) is = ap (switched_state w B regs p x c) (unswitched c (promises c (plain.cells_plain p x c is)).no_switched g (pg_named c g) refl)

  switch_at : (B : PinAssignment) (regs : Registers) (p : Path) (x g : Name) → switch_equation w B regs p x g (cell_at w.structure p x) ≡ Unknown
  switch_at B regs p x g = ap (switch_equation w B regs p x g) (carries.same_cell p x) ∙ switch_unknown B regs p x g (cell_at d.structure p x) refl

  -- ---- nodes that the design lacks

  -- where they are X, so is what they come to
  lost_in : (pe : PinEvent) (regs : Registers) (B : PinAssignment) → ((k : Node) → own k ≡ false → B (Signal k) ≡ Logic (signal_equation w pe regs B k (source_of w.structure k))) → (k : Node) → LeadsFromPort w own k → signal_equation w pe regs B k (source_of w.structure k) ≡ X
  lost_in pe regs B settles k (FromNothing i source) = ap (signal_equation w pe regs B k) source
  lost_in pe regs B settles k (AtPort n j supply source) = ap (signal_equation w pe regs B (Outer n j)) source ∙ ap (top_input w pe B n j) supply
  lost_in pe regs B settles k (Along i j way e source more) = ap (signal_equation w pe regs B k) source ∙ by j e (lost_in pe regs B settles j more)
    where
      by : (i : Node) → own i ≡ false → signal_equation w pe regs B i (source_of w.structure i) ≡ X → signal_at B i ≡ X
      by (Fixed b) f g = absurd (both_ways (own (Fixed b)) f (carries.constants_own b))
      by (Inner n i p) f g = ap logic_in (settles (Inner n i p) f) ∙ g
      by (Outer n i) f g = ap logic_in (settles (Outer n i) f) ∙ g

  -- ---- at one event

  module _ (ev : Event) (pe : PinEvent) (inputs : ev.inputs ≡ pe.inputs) (power_is : pe.supplies power ≡ ev.supplies one.power) (gnd_is : pe.supplies gnd ≡ ev.supplies one.gnd) (regs : Registers) where
    at_pins : (A : Assignment) (k : Node) → own k ≡ true → signal_at (to_pins pe A) k ≡ at A k
    unfolding to_pins
    at_pins A (Fixed b) e = refl
    at_pins A (Inner n j p) e = ap (λ b. logic_in (cond b (A (At (Inner n j p))) (Logic X))) e
    at_pins A (Outer n j) e = ap (λ b. logic_in (cond b (A (At (Outer n j))) (Logic X))) e

    pub alike_pins : (A : Assignment) → Settles (equation d ev regs) A → SameValues A (to_pins pe A)
    unfolding to_pins
    alike_pins A s = record {
      same = at_pins A;
      power_same = power_is ∙ sym (ap state_in (s (Of one.power)) ∙ ap (origin_equation ev A one.power) plain.power_port);
      ground_same = gnd_is ∙ sym (ap state_in (s (Of one.gnd)) ∙ ap (origin_equation ev A one.gnd) plain.ground_port);
    }

    signal_settles : (A : Assignment) → Settles (equation d ev regs) A → (k : Node) (b : Bool) → own k ≡ b → to_pins pe A (Signal k) ≡ Logic (signal_equation w pe regs (to_pins pe A) k (source_of w.structure k))
    unfolding to_pins
    signal_settles A s k true e =
        ap (λ b. cond b (A (At k)) (Logic X)) e
        ∙ (s (At k) ∙ ap (λ v. Logic v) (sym (signal_same d one plain w own power gnd carries A (to_pins pe A) (alike_pins A s) ev pe inputs regs k e)))
    signal_settles A s k false e = ap (λ b. cond b (A (At k)) (Logic X)) e ∙ ap (λ v. Logic v) (sym (lost k e (carries.others_supply k e)))
      where
        blank : (i : Node) → own i ≡ false → signal_at (to_pins pe A) i ≡ X
        blank (Fixed b) f = absurd (both_ways (own (Fixed b)) f (carries.constants_own b))
        blank (Inner n j p) f = ap (λ b. logic_in (cond b (A (At (Inner n j p))) (Logic X))) f
        blank (Outer n j) f = ap (λ b. logic_in (cond b (A (At (Outer n j))) (Logic X))) f

        lost : (i : Node) → own i ≡ false → LeadsFromPort w own i → signal_equation w pe regs (to_pins pe A) i (source_of w.structure i) ≡ X
        lost i f (FromNothing m source) = ap (signal_equation w pe regs (to_pins pe A) i) source
        lost i f (AtPort n j supply source) = ap (signal_equation w pe regs (to_pins pe A) (Outer n j)) source ∙ ap (top_input w pe (to_pins pe A) n j) supply
        lost i f (Along m j way g source more) = ap (signal_equation w pe regs (to_pins pe A) i) source ∙ blank j g

    pub pins_settle : (A : Assignment) → Settles (equation d ev regs) A → Settles (pin_equation w pe regs) (to_pins pe A)
    unfolding to_pins
    pins_settle A s (Signal k) = signal_settles A s k (own k) refl
    pins_settle A s (Supply (FromTop n)) = refl
    pins_settle A s (Supply (FromSwitched p x g)) = ap (λ v. State v) (sym (switch_at (to_pins pe A) regs p x g))

    at_intent : (B : PinAssignment) (k : Node) → own k ≡ true → signal_at B k ≡ at (to_intent ev B) k
    unfolding to_intent
    at_intent B (Fixed b) e = refl
    at_intent B (Inner n j p) e = sym (ap (λ b. logic_in (cond b (B (Signal (Inner n j p))) (Logic X))) e)
    at_intent B (Outer n j) e = sym (ap (λ b. logic_in (cond b (B (Signal (Outer n j))) (Logic X))) e)

    alike_intent : (B : PinAssignment) → Settles (pin_equation w pe regs) B → SameValues (to_intent ev B) B
    unfolding to_intent
    alike_intent B s = record {
      same = at_intent B;
      power_same = ap state_in (s (Supply (FromTop power))) ∙ (power_is ∙ sym (ap (origin_equation ev nowhere one.power) plain.power_port));
      ground_same = ap state_in (s (Supply (FromTop gnd))) ∙ (gnd_is ∙ sym (ap (origin_equation ev nowhere one.gnd) plain.ground_port));
    }

    node_settles : (B : PinAssignment) → Settles (pin_equation w pe regs) B → (k : Node) (b : Bool) → own k ≡ b → to_intent ev B (At k) ≡ Logic (node_equation d ev regs (to_intent ev B) k (source_of d.structure k))
    unfolding to_intent
    node_settles B s k true e =
        ap (λ b. cond b (B (Signal k)) (Logic X)) e
        ∙ (s (Signal k) ∙ ap (λ v. Logic v) (signal_same d one plain w own power gnd carries (to_intent ev B) B (alike_intent B s) ev pe inputs regs k e))
    node_settles B s k false e = ap (λ b. cond b (B (Signal k)) (Logic X)) e ∙ ap (λ o. Logic (node_equation d ev regs (to_intent ev B) k o)) (sym (carries.no_other k e))

    intent_settles : (B : PinAssignment) → Settles (pin_equation w pe regs) B → Settles (equation d ev regs) (to_intent ev B)
    unfolding to_intent
    intent_settles B s (At k) = node_settles B s k (own k) refl
    intent_settles B s (Of o) = ap (λ v. State v) (origin_same ev nowhere (to_intent ev B) o (slice_get d.network.origins o) refl)

    only_at : (A : Assignment) → ((other : Assignment) → Settles (equation d ev regs) other → other ≡ A) → (B : PinAssignment) → Settles (pin_equation w pe regs) B → (k : Node) (b : Bool) → own k ≡ b → B (Signal k) ≡ to_pins pe A (Signal k)
    unfolding to_pins to_intent
    only_at A only B s k true e =
        sym (ap (λ b. cond b (B (Signal k)) (Logic X)) e)
        ∙ (ap (λ f. f (At k)) (only (to_intent ev B) (intent_settles B s))
        ∙ sym (ap (λ b. cond b (A (At k)) (Logic X)) e))
    only_at A only B s k false e =
        s (Signal k)
        ∙ (ap (λ v. Logic v) (lost_in pe regs B (λ i f. s (Signal i)) k (carries.others_supply k e))
        ∙ sym (ap (λ b. cond b (A (At k)) (Logic X)) e))

    only_pins : (A : Assignment) → ((other : Assignment) → Settles (equation d ev regs) other → other ≡ A) → (B : PinAssignment) → Settles (pin_equation w pe regs) B → (k : PinKey) → B k ≡ to_pins pe A k
    unfolding to_pins
    only_pins A only B s (Signal k) = only_at A only B s k (own k) refl
    only_pins A only B s (Supply (FromTop n)) = s (Supply (FromTop n))
    only_pins A only B s (Supply (FromSwitched p x g)) = s (Supply (FromSwitched p x g)) ∙ ap (λ v. State v) (switch_at B regs p x g)

    -- what settles by pins is what settles under intent
    pub pins_only : SettlesOnce (equation d ev regs) → (A : Assignment) → Settles (equation d ev regs) A → (B : PinAssignment) → Settles (pin_equation w pe regs) B → B ≡ to_pins pe A
    pins_only once A s B t = λ i k. only_pins A (λ other o. once.only other o ∙ sym (once.only A s)) B t k i
