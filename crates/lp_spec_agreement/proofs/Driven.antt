-- At the end where a node of the source has to begin there is no supply, and its driver, if it has one, has the power of the node's rail.
use Rattle.std.proofs.Common.{◌≡◌, ◌≤◌, ℕ, zero, suc, Bool, List, [], ◌∷◌, length, Option, Some, None, refl, sym, ap, ◌∙◌, subst, arith}
use Rattle.std.specs.Prelude.{take, slice_get}
use Rattle.lp_model.specs.NetlistView.{ModuleView}
use Rattle.lp_spec_design.specs.Keys.{Name, Path, Way, Node, Inner, Outer, Fixed, Source, CellPin, SwitchedPin, Environment, From}
use Rattle.lp_spec_design.specs.Nodes.{fuel_of}
use Rattle.lp_spec_design.specs.Graph.{source_of}
use Rattle.lp_spec_design.specs.Intents.{SetNumber}
use Rattle.lp_spec_design.specs.Domains.{BoundaryBit, boundary, way_of, node_before, domain_of, primary_of, source_supply}
use Rattle.lp_spec_design.specs.Chains.{Operator, supply_behind, rail_after, bit_of_way, chain}
use Rattle.lp_spec_design.specs.Winners.{IsIn, crossing}
use Rattle.lp_spec_design.specs.Settled.{Assignment, rail_of, operators_of}
use Rattle.lp_spec_design.proofs.DesignLaws.{rail_after-append}
use Rattle.lp_spec_pins.specs.Pins.{Powered, PinAssignment, Pair}
use Rattle.lp_spec_realises.specs.Projects.{Project, network_of, design_of}
use Rattle.lp_spec_realises.specs.ProjectNetlists.{netlist_of}
use Rattle.lp_spec_realises.specs.Operators.{OperatorAt, all_operators, chain_of, Placement, placed_operator}
use Rattle.lp_spec_realises.specs.Tops.{index_across}
use Rattle.lp_spec_realises.specs.Ends.{End, AtPin, AtTop, AtConstant, Nowhere, output_end, behind, intended}
use Rattle.lp_spec_realises.specs.Surroundings.{powered_of}
use Rattle.lp_spec_voltages.specs.Voltages.{power_state}
use Rattle.lp_spec_agreement.specs.Alike.{supply_of_end, pair_of_end, supply_behind_bit}
use Rattle.lp_spec_agreement.specs.Faultless.{IsFaultless}
use Rattle.lp_spec_agreement.proofs.Chains.{take_more, take_all, get_there, operator_in, no_bit, at_bit, rail_by, rail_is, intended_by, intended_is, reach, behind_none, behind_some}
use Rattle.lp_spec_agreement.proofs.Frame.{Frame}
use Rattle.lp_spec_agreement.proofs.Ways.{by_ways}

module _ (p : Project) (good : IsFaultless p) (modules : List ModuleView) (place : Placement) (frame : Frame p modules place) (B : PinAssignment) (A : Assignment) where
  abbrev w : Powered
  w = powered_of p modules place

  -- no supply, and a driver of this power
  pub record At (e : End) (rail : Option SetNumber) : Type 0 where
    pub unsupplied : supply_of_end (powered_of p modules place) e ≡ None
    pub power : (r : Pair) → pair_of_end (powered_of p modules place) B e ≡ Some r → r.power ≡ power_state p A rail

  pub at_nothing : (rail : Option SetNumber) → At Nowhere rail
  at_nothing rail = record { unsupplied = refl; power = λ r e. absurd cc }

  at_constant : (b : Bool) (rail : Option SetNumber) → At (AtConstant b) rail
  at_constant b rail = record { unsupplied = refl; power = λ r e. absurd cc }

  -- what is needed of pins and of top inputs
  pub record EndsDriven : Type 0 where
    pub pins : (k : Node) (q : Path) (x v : Name) → source_of p.structure k ≡ Some (CellPin q x v) → At (AtPin q x v) (primary_of p.intent (domain_of p.intent q))
    pub unswitched : (k : Node) (q : Path) (x v : Name) → source_of p.structure k ≡ Some (SwitchedPin q x v) → ⊥
    pub tops : (n : Name) (j i : Option ℕ) → source_of p.structure (Outer n j) ≡ Some Environment → At (AtTop n i) (source_supply p.intent (Outer n j) (Some Environment))
    pub operators : (o : OperatorAt) → IsIn o (all_operators p) → At (output_end (netlist_of p modules) (placed_operator place o)) (Some (supply_behind o.operator))

  module _ (ends : EndsDriven) where
    -- behind the operators of a bit
    behind_bit : (b : BoundaryBit) → IsIn b (boundary p.structure p.intent) → (k : ℕ) (o : Operator) → slice_get (chain_of p b) k ≡ Some o → At (reach p (netlist_of p modules) place b (suc k)) (supply_behind_bit p b (suc k))
    behind_bit b h k o e =
        let rail : supply_behind_bit p b (suc k) ≡ Some (supply_behind o) = ap (rail_after (rail_of (design_of p) (node_before p.structure b))) (take_more k (chain_of p b) o e) ∙ rail_after-append (rail_of (design_of p) (node_before p.structure b)) (take k (chain_of p b)) (o ∷ []) in
        subst (λ z. At (reach p (netlist_of p modules) place b (suc k)) z) (sym rail) (ends.operators (record { bit = b; number = k; operator = o }) (operator_in p b h k o e))

    abbrev Here : Node → Type 0
    Here k = At (intended p (netlist_of p modules) place k) (rail_of (design_of p) k)

    abbrev passing : Way → Node → List Operator
    passing way j = operators_of (design_of p) way (rail_of (design_of p) j)

    passed : (way : Way) (j : Node) → Here j → passing way j ≡ [] → At (behind (netlist_of p modules) place way (passing way j) (intended p (netlist_of p modules) place j)) (rail_after (rail_of (design_of p) j) (passing way j))
    passed way j before none =
        subst (λ z. At z (rail_after (rail_of (design_of p) j) (passing way j))) (sym (behind_none p (netlist_of p modules) place way (passing way j) (intended p (netlist_of p modules) place j) none))
        (subst (λ z. At (intended p (netlist_of p modules) place j) (rail_after (rail_of (design_of p) j) z)) (sym none) before)

    through_chain : (way : Way) (j : Node) → Here j → (b : BoundaryBit) → way_of b ≡ way → IsIn b (boundary p.structure p.intent) → node_before p.structure b ≡ j → (operators : List Operator) → passing way j ≡ operators → chain_of p b ≡ operators
        → At (behind (netlist_of p modules) place way (passing way j) (intended p (netlist_of p modules) place j)) (rail_after (rail_of (design_of p) j) (passing way j))
    through_chain way j before b named h from [] e line = passed way j before e
    through_chain way j before b named h from (o ∷ more) e line =
        let all : length (chain_of p b) ≡ suc (length more) = ap length line in
        let last = get_there (chain_of p b) (length more) (omega (arith, all)) in
        let whole : take (suc (length more)) (chain_of p b) ≡ chain_of p b = ap (λ n. take n (chain_of p b)) (sym all) ∙ take_all (chain_of p b) in
        let rail : supply_behind_bit p b (suc (length more)) ≡ rail_after (rail_of (design_of p) j) (passing way j) = λ r. rail_after (rail_of (design_of p) (from r)) ((whole ∙ (line ∙ sym e)) r) in
        subst (λ z. At z (rail_after (rail_of (design_of p) j) (passing way j))) (sym (behind_some p (netlist_of p modules) place way b (passing way j) (intended p (netlist_of p modules) place j) (length more) named (ap length e)))
        (subst (λ z. At (reach p (netlist_of p modules) place b (suc (length more))) z) rail (behind_bit b h (length more) last.0 last.1))

    along_way : (k j : Node) (way : Way) → source_of p.structure k ≡ Some (From way j) → Here j → (o : Option BoundaryBit) → bit_of_way p.structure p.intent way ≡ o
        → At (behind (netlist_of p modules) place way (passing way j) (intended p (netlist_of p modules) place j)) (rail_after (rail_of (design_of p) j) (passing way j))
    along_way k j way e before None is = passed way j before (no_bit p way (rail_of (design_of p) j) is)
    along_way k j way e before (Some b) is =
        let bit = frame.bits k j way b e is in
        through_chain way j before b bit.0 bit.1 bit.2 (passing way j) refl
        (ap (λ i. chain (network_of p) p.intent (crossing p.structure p.intent (fuel_of p.structure) b) (rail_of (design_of p) i)) bit.2 ∙ sym (at_bit p way (rail_of (design_of p) j) b is))

    pub at_node : (k : Node) → Here k
    at_node = by_ways p.structure frame.source_fuel Here step
      where
        here_by : (k : Node) (o : Option Source) → source_of p.structure k ≡ o → At (intended_by p frame.source_fuel (netlist_of p modules) place k o) (rail_by p frame.source_fuel k o) → Here k
        here_by k o e there =
            subst (λ z. At z (rail_of (design_of p) k)) (sym (intended_is p frame.source_fuel (netlist_of p modules) place k o e))
            (subst (λ z. At (intended_by p frame.source_fuel (netlist_of p modules) place k o) z) (sym (rail_is p frame.source_fuel k o e)) there)

        inner : (n : Name) (i : Option ℕ) (q : Path) → ((way : Way) (j : Node) → source_of p.structure (Inner n i q) ≡ Some (From way j) → Here j) → (o : Option Source) → source_of p.structure (Inner n i q) ≡ o
            → At (intended_by p frame.source_fuel (netlist_of p modules) place (Inner n i q) o) (rail_by p frame.source_fuel (Inner n i q) o)
        inner n i q before None e = at_nothing None
        inner n i q before (Some (CellPin r x v)) e = ends.pins (Inner n i q) r x v e
        inner n i q before (Some (SwitchedPin r x g)) e = absurd (ends.unswitched (Inner n i q) r x g e)
        inner n i q before (Some Environment) e = at_nothing (source_supply p.intent (Inner n i q) (Some Environment))
        inner n i q before (Some (From way j)) e = along_way (Inner n i q) j way e (before way j e) (bit_of_way p.structure p.intent way) refl

        outer : (n : Name) (i : Option ℕ) → ((way : Way) (j : Node) → source_of p.structure (Outer n i) ≡ Some (From way j) → Here j) → (o : Option Source) → source_of p.structure (Outer n i) ≡ o
            → At (intended_by p frame.source_fuel (netlist_of p modules) place (Outer n i) o) (rail_by p frame.source_fuel (Outer n i) o)
        outer n i before None e = at_nothing None
        outer n i before (Some (CellPin r x v)) e = ends.pins (Outer n i) r x v e
        outer n i before (Some (SwitchedPin r x g)) e = absurd (ends.unswitched (Outer n i) r x g e)
        outer n i before (Some Environment) e = ends.tops n i (index_across p.structure (netlist_of p modules) n i) e
        outer n i before (Some (From way j)) e = along_way (Outer n i) j way e (before way j e) (bit_of_way p.structure p.intent way) refl

        step : (k : Node) → ((way : Way) (j : Node) → source_of p.structure k ≡ Some (From way j) → Here j) → Here k
        step (Fixed b) before = here_by (Fixed b) None refl (at_constant b None)
        step (Inner n i q) before = here_by (Inner n i q) (source_of p.structure (Inner n i q)) refl (inner n i q before (source_of p.structure (Inner n i q)) refl)
        step (Outer n i) before = here_by (Outer n i) (source_of p.structure (Outer n i)) refl (outer n i before (source_of p.structure (Outer n i)) refl)

    -- and behind any number of operators of a bit
    pub at_reach : (b : BoundaryBit) → IsIn b (boundary p.structure p.intent) → (k : ℕ) → k ≤ length (chain_of p b) → At (reach p (netlist_of p modules) place b k) (supply_behind_bit p b k)
    at_reach b h zero few = at_node (node_before p.structure b)
    at_reach b h (suc k) few = let o = get_there (chain_of p b) k (omega (arith, few)) in behind_bit b h k o.0 o.1
