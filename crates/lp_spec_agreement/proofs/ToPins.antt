-- What settles under intent, given to each node of the netlist by the end at which its wire begins, settles by pins; and nothing else does.
use Rattle.std.proofs.Common.{◌≡◌, ◌≤◌, ℕ, zero, suc, Bool, true, false, List, [], ◌∷◌, length, Option, Some, None, refl, sym, ap, ◌∙◌, subst, arith}
use Rattle.std.proofs.lemmas.Option.{slice_get_within}
use Rattle.std.specs.Prelude.{take, slice_get, if◌then◌else◌}
use Rattle.lp_tern.specs.declared.tern.Tern.{Tern}
use Rattle.lp_tern.specs.declared.tern.Tern.TheVariants.{Zero, One, X}
use Rattle.lp_tern.specs.declared.supply.SupplyState.{SupplyState}
use Rattle.lp_tern.specs.declared.supply.SupplyState.TheVariants.{On, Off, Unknown}
use Rattle.lp_tern.specs.Values.{is_same_supply, choose_supply_of}
use Rattle.lp_model.specs.NetlistView.{ModuleView}
use Rattle.lp_behaviour.specs.Signals.{known}
use Rattle.lp_spec_settling.specs.Settling.{Settles, SettlesOnce}
use Rattle.lp_spec_design.specs.Keys.{Name, Path, Way, Node, Inner, Outer, Fixed, Source, CellPin, SwitchedPin, Environment, From}
use Rattle.lp_spec_design.specs.Netlists.{cell_at}
use Rattle.lp_spec_design.specs.Nodes.{fuel_of}
use Rattle.lp_spec_design.specs.Graph.{source_of}
use Rattle.lp_spec_design.specs.Intents.{Origin, FromPort, FromSwitch}
use Rattle.lp_spec_design.specs.Domains.{BoundaryBit, boundary, way_of, node_before, domain_of, primary_of, source_supply}
use Rattle.lp_spec_design.specs.Chains.{Operator, bit_of_way, chain}
use Rattle.lp_spec_design.specs.Winners.{IsIn, crossing}
use Rattle.lp_spec_design.specs.Settled.{At, Of, Logic, State, Assignment, Event, Registers, at, logic_in, state_in, state_of, set_on, kept, sensed, through, rail_of, operators_of, output_of, node_equation, origin_equation, equation}
use Rattle.lp_spec_design.proofs.Corrupted.{corrupted}
use Rattle.lp_spec_pins.specs.Pins.{SupplySource, FromTop, FromSwitched, Powered, PinKey, Signal, Supply, PinAssignment, PinEvent, signal_at, state_from, pin_equation}
use Rattle.lp_spec_realises.specs.Projects.{Project, network_of, design_of}
use Rattle.lp_spec_realises.specs.ProjectNetlists.{netlist_of}
use Rattle.lp_spec_realises.specs.Operators.{OperatorAt, all_operators, SwitchAt, all_switches, chain_of, Placement, placed_operator, placed_switch}
use Rattle.lp_spec_realises.specs.Ends.{End, AtPin, AtSwitched, AtTop, AtConstant, Nowhere, wire_end, behind, intended}
use Rattle.lp_spec_realises.specs.Surroundings.{powered_of, event_at_pins, IsWithinRows}
use Rattle.lp_spec_realises.specs.Realises.{origin_end}
use Rattle.lp_spec_agreement.specs.Alike.{supply_of_end, value_behind, OperatorsAlike, IsFed, LostWith}
use Rattle.lp_spec_agreement.specs.Cells.{Meet, Agree, Decides, value_there, state_there, AllAgree}
use Rattle.lp_spec_agreement.proofs.Ways.{by_ways, fixed_end}
use Rattle.lp_spec_agreement.proofs.ByEnds.{by_end, is_by_ends, ends_settle}
use Rattle.lp_spec_agreement.proofs.Chains.{take_all, get_there, operator_in, operator_of, no_bit, at_bit, intended_by, intended_is, reach, behind_none, behind_some}
use Rattle.lp_spec_agreement.proofs.Placed.{standing, switch_in}
use Rattle.lp_spec_agreement.proofs.Frame.{Frame, one_more, inner_node, outer_node}
use Rattle.lp_spec_agreement.proofs.ToIntent.{to_intent, intent_settles, read_agrees}

-- a switch is on only where its input is
choose_on : (c : Tern) (a : SupplyState) (v : ℕ) → choose_supply_of c a Off ≡ On v → a ≡ On v
choose_on One a v e = e
choose_on Zero a v e = absurd cc
choose_on X a v e = by (is_same_supply a Off) e
  where
    by : (b : Bool) → (if b then a else Unknown) ≡ On v → a ≡ On v
    by true g = g
    by false g = absurd cc

module _ (p : Project) (modules : List ModuleView) (place : Placement) (frame : Frame p modules place) (cells : AllAgree p modules place) (ev : Event) (within : IsWithinRows p ev) (regs : Registers) where
  abbrev at_pins : PinEvent
  at_pins = event_at_pins p (netlist_of p modules) ev

  abbrev w : Powered
  w = powered_of p modules place

  -- ---- what each end gets

  abbrev switch_state : Assignment → Option SwitchAt → SupplyState
  switch_state A None = Unknown
  switch_state A (Some x) = state_of A x.origin

  abbrev supplied : Assignment → PinAssignment
  supplied A (Signal k) = Logic X
  supplied A (Supply (FromTop n)) = State (at_pins.supplies n)
  supplied A (Supply (FromSwitched q x g)) = State (switch_state A (standing (placed_switch place) (all_switches p) (record { path = q; instance = x })))

  abbrev pin_gets : Assignment → Path → Name → Name → Option OperatorAt → Tern
  pin_gets A q x v None = kept (set_on (network_of p) A (primary_of p.intent (domain_of p.intent q))) (output_of p.structure A regs q x v (cell_at p.structure q x))
  pin_gets A q x v (Some o) = value_behind p A o.bit (suc o.number)

  abbrev gets : Assignment → End → Tern
  gets A (AtPin q x v) = pin_gets A q x v (standing (placed_operator place) (all_operators p) (record { path = q; instance = x }))
  gets A (AtSwitched q x g) = X
  gets A (AtTop n j) = value_there p modules place ev regs (supplied A) (AtTop n j)
  gets A (AtConstant b) = known b
  gets A Nowhere = X

  abbrev base : Assignment → PinAssignment
  base A (Signal (Fixed b)) = Logic X
  base A (Signal (Inner n j q)) = Logic (gets A (wire_end (netlist_of p modules) (fuel_of (netlist_of p modules)) (Inner n j q)))
  base A (Signal (Outer n j)) = Logic (gets A (wire_end (netlist_of p modules) (fuel_of (netlist_of p modules)) (Outer n j)))
  base A (Supply x) = supplied A (Supply x)

  -- and then each key by its equation
  abbrev pub to_pins : Assignment → PinAssignment
  to_pins A = by_end w frame.fuel at_pins regs (base A)

  module _ (A : Assignment) (settles : Settles (equation (design_of p) ev regs) A) where
    -- ---- supplies

    origin_is : (o : ℕ) (x : Option Origin) → slice_get (network_of p).origins o ≡ x → state_of A o ≡ origin_equation ev A o x
    origin_is o x e = ap state_in (settles (Of o)) ∙ ap (origin_equation ev A o) e

    fed : IsFed p ev A
    fed = record {
      ports = λ o e. origin_is o (Some FromPort) e;
      switches = λ o i c high v e on. choose_on (sensed high (at A c)) (state_of A i) v (sym (origin_is o (Some (FromSwitch i c high)) e) ∙ on);
    }

    abbrev switch_of : ℕ → ℕ → Node → Bool → SwitchAt
    switch_of o i c high = record { origin = o; input = i; control = c; high = high }

    base_origins : (o : ℕ) (x : Option Origin) → slice_get (network_of p).origins o ≡ x → state_from (supplied A) (supply_of_end w (origin_end p (netlist_of p modules) place o)) ≡ state_of A o
    base_origins o None e = ap (λ z. state_from (supplied A) (supply_of_end w z)) (frame.no_origin o e) ∙ sym (origin_is o None e)
    base_origins o (Some FromPort) e = ap (state_from (supplied A)) (frame.port_origin o e) ∙ (frame.port_state ev o e ∙ sym (origin_is o (Some FromPort) e))
    base_origins o (Some (FromSwitch i c high)) e =
        ap (λ z. state_from (supplied A) (supply_of_end w z)) (frame.switch_origin o i c high e).origin
        ∙ ap (switch_state A) (frame.switch_there (switch_of o i c high) (switch_in p o i c high e))

    from_base : (x : Option SupplySource) → state_from (base A) x ≡ state_from (supplied A) x
    from_base None = refl
    from_base (Some x) = refl

    -- ---- nodes

    operators_get : OperatorsAlike p modules place A (gets A)
    operators_get o h =
        let out = frame.operator_out o h in
        ap (gets A) out.1 ∙ ap (pin_gets A (placed_operator place o).path (placed_operator place o).instance out.0) (frame.operator_there o h)

    reached : (b : BoundaryBit) → IsIn b (boundary p.structure p.intent) → gets A (intended p (netlist_of p modules) place (node_before p.structure b)) ≡ at A (node_before p.structure b)
        → (k : ℕ) → k ≤ length (chain_of p b) → gets A (reach p (netlist_of p modules) place b k) ≡ value_behind p A b k
    reached b h first zero few = first
    reached b h first (suc k) few = let o = get_there (chain_of p b) k (omega (arith, few)) in operators_get (record { bit = b; number = k; operator = o.0 }) (operator_in p b h k o.0 o.1)

    abbrev Gets : Node → Type 0
    Gets k = gets A (intended p (netlist_of p modules) place k) ≡ at A k

    passed : (way : Way) (j : Node) → Gets j → (operators : List Operator) → operators_of (design_of p) way (rail_of (design_of p) j) ≡ operators → operators ≡ []
        → gets A (behind (netlist_of p modules) place way (operators_of (design_of p) way (rail_of (design_of p) j)) (intended p (netlist_of p modules) place j)) ≡ through (network_of p) p.intent A (at A j) (operators_of (design_of p) way (rail_of (design_of p) j))
    passed way j before operators e none =
        ap (gets A) (behind_none p (netlist_of p modules) place way (operators_of (design_of p) way (rail_of (design_of p) j)) (intended p (netlist_of p modules) place j) (e ∙ none))
        ∙ (before ∙ ap (through (network_of p) p.intent A (at A j)) (sym (e ∙ none)))

    through_chain : (way : Way) (j : Node) → Gets j → (b : BoundaryBit) → way_of b ≡ way → IsIn b (boundary p.structure p.intent) → node_before p.structure b ≡ j
        → (operators : List Operator) → operators_of (design_of p) way (rail_of (design_of p) j) ≡ operators → chain_of p b ≡ operators
        → gets A (behind (netlist_of p modules) place way (operators_of (design_of p) way (rail_of (design_of p) j)) (intended p (netlist_of p modules) place j)) ≡ through (network_of p) p.intent A (at A j) (operators_of (design_of p) way (rail_of (design_of p) j))
    through_chain way j before b named h from [] e line = passed way j before [] e refl
    through_chain way j before b named h from (o ∷ more) e line =
        let all : length (chain_of p b) ≡ suc (length more) = ap length line in
        let whole : take (suc (length more)) (chain_of p b) ≡ chain_of p b = ap (λ n. take n (chain_of p b)) (sym all) ∙ take_all (chain_of p b) in
        ap (gets A) (behind_some p (netlist_of p modules) place way b (operators_of (design_of p) way (rail_of (design_of p) j)) (intended p (netlist_of p modules) place j) (length more) named (ap length e))
        ∙ (reached b h (subst Gets (sym from) before) (suc (length more)) (omega (arith, all)) ∙ (λ r. through (network_of p) p.intent A (at A (from r)) ((whole ∙ (line ∙ sym e)) r)))

    along_way : (k j : Node) (way : Way) → source_of p.structure k ≡ Some (From way j) → Gets j → (o : Option BoundaryBit) → bit_of_way p.structure p.intent way ≡ o
        → gets A (behind (netlist_of p modules) place way (operators_of (design_of p) way (rail_of (design_of p) j)) (intended p (netlist_of p modules) place j)) ≡ through (network_of p) p.intent A (at A j) (operators_of (design_of p) way (rail_of (design_of p) j))
    along_way k j way e before None is = passed way j before (operators_of (design_of p) way (rail_of (design_of p) j)) refl (no_bit p way (rail_of (design_of p) j) is)
    along_way k j way e before (Some b) is =
        let bit = frame.bits k j way b e is in
        through_chain way j before b bit.0 bit.1 bit.2 (operators_of (design_of p) way (rail_of (design_of p) j)) refl
        (ap (λ i. chain (network_of p) p.intent (crossing p.structure p.intent (fuel_of p.structure) b) (rail_of (design_of p) i)) bit.2 ∙ sym (at_bit p way (rail_of (design_of p) j) b is))

    inner_gets : (n : Name) (i : Option ℕ) (q : Path) (o : Option Source) → source_of p.structure (Inner n i q) ≡ o → ((way : Way) (j : Node) → source_of p.structure (Inner n i q) ≡ Some (From way j) → Gets j)
        → gets A (intended_by p frame.source_fuel (netlist_of p modules) place (Inner n i q) o) ≡ node_equation (design_of p) ev regs A (Inner n i q) o
    inner_gets n i q None e before = refl
    inner_gets n i q (Some (CellPin r x v)) e before = ap (pin_gets A r x v) (frame.source_there (record { path = r; instance = x }) (frame.drives (Inner n i q) r x v e).placed)
    inner_gets n i q (Some (SwitchedPin r x g)) e before = refl
    inner_gets n i q (Some Environment) e before = refl
    inner_gets n i q (Some (From way j)) e before = along_way (Inner n i q) j way e (before way j e) (bit_of_way p.structure p.intent way) refl

    outer_gets : (n : Name) (i : Option ℕ) (o : Option Source) → source_of p.structure (Outer n i) ≡ o → ((way : Way) (j : Node) → source_of p.structure (Outer n i) ≡ Some (From way j) → Gets j)
        → gets A (intended_by p frame.source_fuel (netlist_of p modules) place (Outer n i) o) ≡ node_equation (design_of p) ev regs A (Outer n i) o
    outer_gets n i None e before = refl
    outer_gets n i (Some (CellPin r x v)) e before = ap (pin_gets A r x v) (frame.source_there (record { path = r; instance = x }) (frame.drives (Outer n i) r x v e).placed)
    outer_gets n i (Some (SwitchedPin r x g)) e before = refl
    outer_gets n i (Some Environment) e before =
        frame.tops ev regs A (supplied A) (λ o. base_origins o (slice_get (network_of p).origins o) refl) n i e
        ∙ ap (λ x. kept (set_on (network_of p) A (source_supply p.intent (Outer n i) x)) (ev.inputs n i)) (sym e)
    outer_gets n i (Some (From way j)) e before = along_way (Outer n i) j way e (before way j e) (bit_of_way p.structure p.intent way) refl

    nodes_get : (k : Node) → Gets k
    nodes_get = by_ways p.structure frame.source_fuel Gets step
      where
        step : (k : Node) → ((way : Way) (j : Node) → source_of p.structure k ≡ Some (From way j) → Gets j) → Gets k
        step (Fixed b) before = ap (gets A) (intended_is p frame.source_fuel (netlist_of p modules) place (Fixed b) None refl)
        step (Inner n i q) before =
            ap (gets A) (intended_is p frame.source_fuel (netlist_of p modules) place (Inner n i q) (source_of p.structure (Inner n i q)) refl)
            ∙ (inner_gets n i q (source_of p.structure (Inner n i q)) refl before ∙ sym (ap logic_in (settles (At (Inner n i q)))))
        step (Outer n i) before =
            ap (gets A) (intended_is p frame.source_fuel (netlist_of p modules) place (Outer n i) (source_of p.structure (Outer n i)) refl)
            ∙ (outer_gets n i (source_of p.structure (Outer n i)) refl before ∙ sym (ap logic_in (settles (At (Outer n i)))))

    base_values : (k : Node) → signal_at (base A) k ≡ gets A (wire_end (netlist_of p modules) (fuel_of (netlist_of p modules)) k)
    base_values (Fixed b) = sym (ap (gets A) (fixed_end (netlist_of p modules) frame.fuel b))
    base_values (Inner n i q) = refl
    base_values (Outer n i) = refl

    abbrev meet_base : Meet p modules place ev A (base A)
    meet_base = record {
      within = within;
      alike = record { carried = gets A; nowhere = refl; values = base_values; nodes = nodes_get; origins = λ o. from_base (supply_of_end w (origin_end p (netlist_of p modules) place o)) ∙ base_origins o (slice_get (network_of p).origins o) refl };
      fed = fed;
    }

    -- ---- each key by its equation

    lost : (k : Node) → LostWith p A (rail_of (design_of p) k) (at A k)
    lost k r is off = corrupted (design_of p) ev regs A settles frame.source_fuel k r is off

    abbrev there : End → Tern
    there = value_there p modules place ev regs (base A)

    abbrev There : Node → Type 0
    There k = there (intended p (netlist_of p modules) place k) ≡ at A k

    abbrev reached_base : (b : BoundaryBit) → IsIn b (boundary p.structure p.intent) → LostWith p A (rail_of (design_of p) (node_before p.structure b)) (at A (node_before p.structure b))
        → (k : ℕ) → k ≤ length (chain_of p b) → gets A (reach p (netlist_of p modules) place b k) ≡ value_behind p A b k
    reached_base b h before k few = reached b h (nodes_get (node_before p.structure b)) k few

    nodes_there : (k : Node) → There k
    nodes_there = by_ways p.structure frame.source_fuel There step
      where
        step : (k : Node) → ((way : Way) (j : Node) → source_of p.structure k ≡ Some (From way j) → There j) → There k
        step (Fixed b) before = ap there (intended_is p frame.source_fuel (netlist_of p modules) place (Fixed b) None refl)
        step (Inner n i q) before =
            inner_node p modules place frame cells ev regs A (base A) meet_base reached_base n i q (source_of p.structure (Inner n i q)) refl (λ way j e. (before way j e, lost j))
            ∙ sym (ap logic_in (settles (At (Inner n i q))))
        step (Outer n i) before =
            outer_node p modules place frame cells ev regs A (base A) meet_base reached_base n i (source_of p.structure (Outer n i)) refl (λ way j e. (before way j e, lost j))
            ∙ sym (ap logic_in (settles (At (Outer n i))))

    operators_there : OperatorsAlike p modules place A there
    operators_there o h =
        let of = operator_of p o h in
        let few = slice_get_within (chain_of p o.bit) o.number o.operator of.1 in
        one_more p modules place frame cells ev regs A (base A) meet_base o.bit of.0 (lost (node_before p.structure o.bit)) o.number o.operator of.1
        (reached_base o.bit of.0 (lost (node_before p.structure o.bit)) o.number (omega (arith, few)))

    pins_values : (k : Node) → signal_at (to_pins A) k ≡ there (wire_end (netlist_of p modules) (fuel_of (netlist_of p modules)) k)
    pins_values (Fixed b) = sym (ap there (fixed_end (netlist_of p modules) frame.fuel b))
    pins_values (Inner n i q) = refl
    pins_values (Outer n i) = refl

    pins_origins : (o : ℕ) (x : Option Origin) → slice_get (network_of p).origins o ≡ x → state_from (to_pins A) (supply_of_end w (origin_end p (netlist_of p modules) place o)) ≡ state_of A o
    pins_origins o None e = ap (λ z. state_from (to_pins A) (supply_of_end w z)) (frame.no_origin o e) ∙ sym (origin_is o None e)
    pins_origins o (Some FromPort) e = ap (state_from (to_pins A)) (frame.port_origin o e) ∙ (frame.port_state ev o e ∙ sym (origin_is o (Some FromPort) e))
    pins_origins o (Some (FromSwitch i c high)) e =
        let comes = frame.switch_origin o i c high e in
        ap (λ z. state_from (to_pins A) (supply_of_end w z)) comes.origin
        ∙ (ap (state_there p modules place ev regs (base A)) (sym comes.switched)
        ∙ (cells.switches ev regs A (base A) meet_base (switch_of o i c high) (switch_in p o i c high e) ∙ sym (origin_is o (Some (FromSwitch i c high)) e)))

    abbrev meet_pins : Meet p modules place ev A (to_pins A)
    meet_pins = record {
      within = within;
      alike = record { carried = there; nowhere = refl; values = pins_values; nodes = nodes_there; origins = λ o. pins_origins o (slice_get (network_of p).origins o) refl };
      fed = fed;
    }

    -- what cells make of two assignments that are decided is the same
    made_same : (B C : PinAssignment) → Decides p modules place ev regs B C → (k : PinKey) → by_end w frame.fuel at_pins regs B k ≡ by_end w frame.fuel at_pins regs C k
    made_same B C same (Signal (Fixed b)) = refl
    made_same B C same (Signal (Inner n i q)) = ap (λ v. Logic v) (same.values (Inner n i q))
    made_same B C same (Signal (Outer n i)) = ap (λ v. Logic v) (same.values (Outer n i))
    made_same B C same (Supply (FromTop n)) = refl
    made_same B C same (Supply (FromSwitched q x g)) = ap (λ v. State v) (same.states q x g)

    pub pins_settle : Settles (pin_equation w at_pins regs) (to_pins A)
    pins_settle = ends_settle w frame.fuel at_pins regs (to_pins A) (made_same (base A) (to_pins A) (cells.decided ev regs A (base A) (to_pins A) meet_base meet_pins operators_get operators_there))

    pub given_agrees : Agree p modules place ev regs A (to_pins A)
    given_agrees = record { meet = meet_pins; operators = operators_there; settles = settles; settles_by_pins = pins_settle }

    -- nothing else settles by pins
    only_at : (B : PinAssignment) → Settles (pin_equation w at_pins regs) B → Agree p modules place ev regs A B → (k : PinKey) → B k ≡ to_pins A k
    only_at B s agree k =
        is_by_ends w frame.fuel at_pins regs B s k
        ∙ made_same B (base A) (cells.decided ev regs A B (base A) agree.meet meet_base agree.operators operators_get) k

    pub pins_only : SettlesOnce (equation (design_of p) ev regs) → (B : PinAssignment) → Settles (pin_equation w at_pins regs) B → B ≡ to_pins A
    pins_only once B s =
        let same : to_intent p modules place frame cells ev within regs B ≡ A = once.only (to_intent p modules place frame cells ev within regs B) (intent_settles p modules place frame cells ev within regs B s) ∙ sym (once.only A settles) in
        let agree : Agree p modules place ev regs A B = subst (λ z. Agree p modules place ev regs z B) same (read_agrees p modules place frame cells ev within regs B s) in
        λ i k. only_at B s agree k i
