-- What settles by pins, read at the ends where the nodes of the source have to begin, settles under intent.
use Rattle.std.proofs.Common.{◌≡◌, ◌≤◌, ℕ, zero, suc, Bool, List, length, Option, Some, None, refl, sym, ap, ◌∙◌, arith}
use Rattle.std.specs.Prelude.{slice_get}
use Rattle.std.proofs.lemmas.Option.{slice_get_within}
use Rattle.lp_tern.specs.declared.tern.Tern.{Tern}
use Rattle.lp_tern.specs.declared.tern.Tern.TheVariants.{X}
use Rattle.lp_model.specs.NetlistView.{ModuleView}
use Rattle.lp_spec_settling.specs.Settling.{Settles}
use Rattle.lp_spec_design.specs.Keys.{Name, Path, Way, Node, Inner, Outer, Fixed, From}
use Rattle.lp_spec_design.specs.Graph.{source_of}
use Rattle.lp_spec_design.specs.Intents.{Origin, FromPort, FromSwitch}
use Rattle.lp_spec_design.specs.Domains.{BoundaryBit, boundary, node_before}
use Rattle.lp_spec_design.specs.Winners.{IsIn}
use Rattle.lp_spec_design.specs.Settled.{At, Of, Logic, State, Assignment, Event, Registers, at, state_in, state_of, rail_of, node_equation, origin_equation, equation}
use Rattle.lp_spec_pins.specs.Pins.{FromTop, FromSwitched, Supply, PinAssignment, PinEvent, state_from, pin_equation}
use Rattle.lp_spec_realises.specs.Projects.{Project, network_of, design_of, port_of_origin}
use Rattle.lp_spec_realises.specs.ProjectNetlists.{netlist_of}
use Rattle.lp_spec_realises.specs.Operators.{SwitchAt, chain_of, Placement}
use Rattle.lp_spec_realises.specs.Ends.{End, switched_end, intended}
use Rattle.lp_spec_realises.specs.Surroundings.{powered_of, event_at_pins, IsWithinRows}
use Rattle.lp_spec_realises.specs.Realises.{origin_end}
use Rattle.lp_spec_agreement.specs.Alike.{supply_of_end, value_behind, OperatorsAlike, IsFed, LostWith}
use Rattle.lp_spec_agreement.specs.Cells.{Meet, Agree, value_there, state_there, AllAgree}
use Rattle.lp_spec_agreement.proofs.Ways.{by_ways}
use Rattle.lp_spec_agreement.proofs.ByEnds.{at_ends}
use Rattle.lp_spec_agreement.proofs.Chains.{get_there, operator_of, rail_is, intended_is, reach}
use Rattle.lp_spec_agreement.proofs.Placed.{switch_in}
use Rattle.lp_spec_agreement.proofs.Frame.{Frame, node_lost, one_more, inner_node, outer_node}

module _ (p : Project) (modules : List ModuleView) (place : Placement) (frame : Frame p modules place) (cells : AllAgree p modules place) (ev : Event) (within : IsWithinRows p ev) (regs : Registers) where
  abbrev at_pins : PinEvent
  at_pins = event_at_pins p (netlist_of p modules) ev

  -- the netlist read at its ends
  abbrev pub to_intent : PinAssignment → Assignment
  to_intent B (At (Fixed b)) = Logic X
  to_intent B (At (Inner n j q)) = Logic (value_there p modules place ev regs B (intended p (netlist_of p modules) place (Inner n j q)))
  to_intent B (At (Outer n j)) = Logic (value_there p modules place ev regs B (intended p (netlist_of p modules) place (Outer n j)))
  to_intent B (Of o) = State (state_from B (supply_of_end (powered_of p modules place) (origin_end p (netlist_of p modules) place o)))

  module _ (B : PinAssignment) (settles : Settles (pin_equation (powered_of p modules place) at_pins regs) B) where
    abbrev there : End → Tern
    there = value_there p modules place ev regs B

    abbrev A : Assignment
    A = to_intent B

    at_is : (k : Node) → there (intended p (netlist_of p modules) place k) ≡ at A k
    at_is (Fixed b) = ap there (intended_is p frame.source_fuel (netlist_of p modules) place (Fixed b) None refl)
    at_is (Inner n j q) = refl
    at_is (Outer n j) = refl

    -- ---- supplies

    at_port : (o : ℕ) → slice_get (network_of p).origins o ≡ Some FromPort → state_of A o ≡ ev.supplies o
    at_port o e = ap (state_from B) (frame.port_origin o e) ∙ (ap state_in (settles (Supply (FromTop (port_of_origin p o)))) ∙ frame.port_state ev o e)

    -- the state of a switch is that of the switched pin of its cell
    at_switch : (o i : ℕ) (c : Node) (high : Bool) → slice_get (network_of p).origins o ≡ Some (FromSwitch i c high)
        → state_of A o ≡ state_there p modules place ev regs B (switched_end (netlist_of p modules) (place.switch o))
    at_switch o i c high e =
        let comes = frame.switch_origin o i c high e in
        ap (λ x. state_from B (supply_of_end (powered_of p modules place) x)) comes.origin
        ∙ (ap state_in (settles (Supply (FromSwitched (place.switch o).path (place.switch o).instance comes.pin)))
        ∙ ap (state_there p modules place ev regs B) (sym comes.switched))

    abbrev switch_of : ℕ → ℕ → Node → Bool → SwitchAt
    switch_of o i c high = record { origin = o; input = i; control = c; high = high }

    fed : IsFed p ev A
    fed = record {
      ports = at_port;
      switches = λ o i c high v e on. cells.switches_feed ev regs B (switch_of o i c high) (switch_in p o i c high e) v (sym (at_switch o i c high e) ∙ on);
    }

    abbrev meet : Meet p modules place ev A B
    meet = record {
      within = within;
      alike = record { carried = there; nowhere = refl; values = at_ends (powered_of p modules place) frame.fuel at_pins regs B settles; nodes = at_is; origins = λ o. refl };
      fed = fed;
    }

    -- ---- nodes

    abbrev Before : Node → Type 0
    Before j = LostWith p A (rail_of (design_of p) j) (at A j)

    reached : (b : BoundaryBit) → IsIn b (boundary p.structure p.intent) → Before (node_before p.structure b) → (k : ℕ) → k ≤ length (chain_of p b) → there (reach p (netlist_of p modules) place b k) ≡ value_behind p A b k
    reached b h before zero few = at_is (node_before p.structure b)
    reached b h before (suc k) few =
        let o = get_there (chain_of p b) k (omega (arith, few)) in
        one_more p modules place frame cells ev regs A B meet b h before k o.0 o.1 (reached b h before k (omega (arith, few)))

    inner_is : (n : Name) (i : Option ℕ) (q : Path) → ((way : Way) (j : Node) → source_of p.structure (Inner n i q) ≡ Some (From way j) → Before j)
        → at A (Inner n i q) ≡ node_equation (design_of p) ev regs A (Inner n i q) (source_of p.structure (Inner n i q))
    inner_is n i q before = inner_node p modules place frame cells ev regs A B meet reached n i q (source_of p.structure (Inner n i q)) refl (λ way j e. (at_is j, before way j e))

    outer_is : (n : Name) (i : Option ℕ) → ((way : Way) (j : Node) → source_of p.structure (Outer n i) ≡ Some (From way j) → Before j)
        → at A (Outer n i) ≡ node_equation (design_of p) ev regs A (Outer n i) (source_of p.structure (Outer n i))
    outer_is n i before = outer_node p modules place frame cells ev regs A B meet reached n i (source_of p.structure (Outer n i)) refl (λ way j e. (at_is j, before way j e))

    lost : (k : Node) → Before k
    lost = by_ways p.structure frame.source_fuel Before step
      where
        step : (k : Node) → ((way : Way) (j : Node) → source_of p.structure k ≡ Some (From way j) → Before j) → Before k
        step (Fixed b) before r is off = let none : None ≡ Some r = sym (rail_is p frame.source_fuel (Fixed b) None refl) ∙ is in absurd cc
        step (Inner n i q) before r is off =
            inner_is n i q before
            ∙ node_lost p modules place frame cells ev regs A (Inner n i q) (source_of p.structure (Inner n i q)) refl before r (sym (rail_is p frame.source_fuel (Inner n i q) (source_of p.structure (Inner n i q)) refl) ∙ is) off
        step (Outer n i) before r is off =
            outer_is n i before
            ∙ node_lost p modules place frame cells ev regs A (Outer n i) (source_of p.structure (Outer n i)) refl before r (sym (rail_is p frame.source_fuel (Outer n i) (source_of p.structure (Outer n i)) refl) ∙ is) off

    -- ---- all keys

    origin_is : (o : ℕ) (x : Option Origin) → slice_get (network_of p).origins o ≡ x → state_of A o ≡ origin_equation ev A o x
    origin_is o None e = ap (λ z. state_from B (supply_of_end (powered_of p modules place) z)) (frame.no_origin o e)
    origin_is o (Some FromPort) e = at_port o e
    origin_is o (Some (FromSwitch i c high)) e = at_switch o i c high e ∙ cells.switches ev regs A B meet (switch_of o i c high) (switch_in p o i c high e)

    pub intent_settles : Settles (equation (design_of p) ev regs) A
    intent_settles (At (Fixed b)) = refl
    intent_settles (At (Inner n i q)) = ap (λ v. Logic v) (inner_is n i q (λ way j e. lost j))
    intent_settles (At (Outer n i)) = ap (λ v. Logic v) (outer_is n i (λ way j e. lost j))
    intent_settles (Of o) = ap (λ v. State v) (origin_is o (slice_get (network_of p).origins o) refl)

    operators_alike : OperatorsAlike p modules place A there
    operators_alike o h =
        let of = operator_of p o h in
        one_more p modules place frame cells ev regs A B meet o.bit of.0 (lost (node_before p.structure o.bit)) o.number o.operator of.1
        (reached o.bit of.0 (lost (node_before p.structure o.bit)) o.number (let few = slice_get_within (chain_of p o.bit) o.number o.operator of.1 in omega (arith, few)))

    pub read_agrees : Agree p modules place ev regs A B
    read_agrees = record { meet = meet; operators = operators_alike; settles = intent_settles; settles_by_pins = settles }
