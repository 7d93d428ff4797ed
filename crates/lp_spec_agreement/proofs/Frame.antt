-- What the way from cells to runs asks of a source and a netlist, whatever their cells do; and one step of it, a node of the source by its equation.
use Rattle.std.proofs.Common.{◌≡◌, ◌≤◌, ℕ, suc, Bool, List, [], ◌∷◌, length, Option, Some, None, refl, sym, ap, ◌∙◌, subst, arith}
use Rattle.std.specs.Prelude.{take, slice_get}
use Rattle.lp_model.specs.NetlistView.{ModuleView}
use Rattle.lp_model.specs.LibraryView.{CellView}
use Rattle.lp_spec_design.specs.Keys.{Name, Path, Way, Node, Inner, Outer, Fixed, Source, CellPin, SwitchedPin, Environment, From}
use Rattle.lp_spec_design.specs.Netlists.{cell_at}
use Rattle.lp_spec_design.specs.Instances.{Placed, cell_instances}
use Rattle.lp_spec_design.specs.Nodes.{fuel_of, HasFuel}
use Rattle.lp_spec_design.specs.Graph.{source_of}
use Rattle.lp_spec_design.specs.Intents.{FromPort, FromSwitch}
use Rattle.lp_spec_design.specs.Domains.{BoundaryBit, boundary, way_of, node_before, domain_of, primary_of, source_supply}
use Rattle.lp_spec_design.specs.Chains.{Operator, bit_of_way, chain}
use Rattle.lp_spec_design.specs.Winners.{IsIn, crossing}
use Rattle.lp_spec_design.specs.Settled.{Assignment, Event, Registers, at, state_of, set_on, kept, through, rail_of, operators_of, output_of, node_equation}
use Rattle.lp_spec_design.proofs.DesignLaws.{kept-off}
use Rattle.lp_spec_pins.specs.Pins.{FromTop, PinAssignment, state_from}
use Rattle.lp_spec_realises.specs.Projects.{Project, network_of, design_of, port_of_origin}
use Rattle.lp_spec_realises.specs.ProjectNetlists.{netlist_of}
use Rattle.lp_spec_realises.specs.Operators.{OperatorAt, all_operators, SwitchAt, all_switches, chain_of, Placement, placed_operator, placed_switch}
use Rattle.lp_spec_realises.specs.Tops.{index_across}
use Rattle.lp_spec_realises.specs.Ends.{End, AtPin, AtSwitched, AtTop, Nowhere, output_end, switched_end, behind, intended}
use Rattle.lp_spec_realises.specs.Surroundings.{powered_of, event_at_pins}
use Rattle.lp_spec_realises.specs.Realises.{origin_end, data_intended}
use Rattle.lp_spec_agreement.specs.Alike.{supply_of_end, value_behind, LostWith}
use Rattle.lp_spec_agreement.specs.Cells.{IsOutput, Meet, value_there, AllAgree}
use Rattle.lp_spec_agreement.proofs.Chains.{take_all, get_there, lost_behind, operator_in, no_bit, at_bit, rail_by, intended_by, intended_is, reach, data_is, behind_none, behind_some, value_more, value_lost}
use Rattle.lp_spec_agreement.proofs.Placed.{standing}

-- a pin at which a switch's origin comes in
pub record ComesIn (p : Project) (modules : List ModuleView) (place : Placement) (o : ℕ) : Type 0 where
  pub pin : Name
  pub origin : origin_end p (netlist_of p modules) place o ≡ AtSwitched (place.switch o).path (place.switch o).instance pin
  pub switched : switched_end (netlist_of p modules) (place.switch o) ≡ AtSwitched (place.switch o).path (place.switch o).instance pin

pub record Drives (p : Project) (q : Path) (x v : Name) : Type 0 where
  pub placed : IsIn (record { path = q; instance = x }) (cell_instances p.structure)
  pub cell : CellView
  pub is_cell : cell_at p.structure q x ≡ Some cell
  pub output : IsOutput cell v

pub record Frame (p : Project) (modules : List ModuleView) (place : Placement) : Type 0 where
  pub source_fuel : HasFuel p.structure
  pub fuel : HasFuel (netlist_of p modules)
  -- the bit of a way
  pub bits : (k j : Node) (way : Way) (b : BoundaryBit) → source_of p.structure k ≡ Some (From way j) → bit_of_way p.structure p.intent way ≡ Some b
      → (way_of b ≡ way) × IsIn b (boundary p.structure p.intent) × (node_before p.structure b ≡ j)
  -- what drives nodes of the source
  pub drives : (k : Node) (q : Path) (x v : Name) → source_of p.structure k ≡ Some (CellPin q x v) → Drives p q x v
  pub tops : (ev : Event) (regs : Registers) (A : Assignment) (B : PinAssignment)
      → ((o : ℕ) → state_from B (supply_of_end (powered_of p modules place) (origin_end p (netlist_of p modules) place o)) ≡ state_of A o)
      → (n : Name) (j : Option ℕ) → source_of p.structure (Outer n j) ≡ Some Environment
      → value_there p modules place ev regs B (AtTop n (index_across p.structure (netlist_of p modules) n j)) ≡ kept (set_on (network_of p) A (source_supply p.intent (Outer n j) (Some Environment))) (ev.inputs n j)
  -- where origins come in
  pub no_origin : (o : ℕ) → slice_get (network_of p).origins o ≡ None → origin_end p (netlist_of p modules) place o ≡ Nowhere
  pub port_origin : (o : ℕ) → slice_get (network_of p).origins o ≡ Some FromPort → supply_of_end (powered_of p modules place) (origin_end p (netlist_of p modules) place o) ≡ Some (FromTop (port_of_origin p o))
  pub port_state : (ev : Event) (o : ℕ) → slice_get (network_of p).origins o ≡ Some FromPort → (event_at_pins p (netlist_of p modules) ev).supplies (port_of_origin p o) ≡ ev.supplies o
  pub switch_origin : (o i : ℕ) (c : Node) (high : Bool) → slice_get (network_of p).origins o ≡ Some (FromSwitch i c high) → ComesIn p modules place o
  -- what stands at a cell instance of the netlist
  pub operator_out : (o : OperatorAt) → IsIn o (all_operators p) → (v : Name) × (output_end (netlist_of p modules) (placed_operator place o) ≡ AtPin (placed_operator place o).path (placed_operator place o).instance v)
  pub operator_there : (o : OperatorAt) → IsIn o (all_operators p) → standing (placed_operator place) (all_operators p) (placed_operator place o) ≡ Some o
  pub source_there : (a : Placed) → IsIn a (cell_instances p.structure) → standing (placed_operator place) (all_operators p) a ≡ None
  pub switch_there : (x : SwitchAt) → IsIn x (all_switches p) → standing (placed_switch place) (all_switches p) (placed_switch place x) ≡ Some x

module _ (p : Project) (modules : List ModuleView) (place : Placement) (frame : Frame p modules place) (cells : AllAgree p modules place) (ev : Event) (regs : Registers) where
  -- a node is lost with its rail, if the node is from which its way comes
  pub node_lost : (A : Assignment) (k : Node) (o : Option Source) → source_of p.structure k ≡ o → ((way : Way) (j : Node) → o ≡ Some (From way j) → LostWith p A (rail_of (design_of p) j) (at A j)) → LostWith p A (rail_by p frame.source_fuel k o) (node_equation (design_of p) ev regs A k o)
  node_lost A k None e before r is off = absurd cc
  node_lost A k (Some (SwitchedPin q x g)) e before r is off = absurd cc
  node_lost A (Outer n j) (Some Environment) e before r is off =
      kept-off (set_on (network_of p) A (source_supply p.intent (Outer n j) (source_of p.structure (Outer n j)))) (ev.inputs n j) (ap (λ x. set_on (network_of p) A (source_supply p.intent (Outer n j) x)) e ∙ (ap (set_on (network_of p) A) is ∙ off))
  node_lost A (Inner n j q) (Some Environment) e before r is off = refl
  node_lost A (Fixed b) (Some Environment) e before r is off = refl
  node_lost A k (Some (CellPin q x v)) e before r is off =
      kept-off (set_on (network_of p) A (primary_of p.intent (domain_of p.intent q))) (output_of p.structure A regs q x v (cell_at p.structure q x)) (ap (set_on (network_of p) A) is ∙ off)
  node_lost A k (Some (From way j)) e before r is off =
      lost_behind (network_of p) p.intent A (rail_of (design_of p) j) (at A j) (operators_of (design_of p) way (rail_of (design_of p) j)) (before way j refl) r is off

  module _ (A : Assignment) (B : PinAssignment) (m : Meet p modules place ev A B) where
    abbrev pub ends_at : BoundaryBit → ℕ → End
    ends_at = reach p (netlist_of p modules) place

    abbrev pub Before : Node → Type 0
    Before j = LostWith p A (rail_of (design_of p) j) (at A j)

    -- behind one more operator
    pub one_more : (b : BoundaryBit) → IsIn b (boundary p.structure p.intent) → Before (node_before p.structure b) → (k : ℕ) (o : Operator) → slice_get (chain_of p b) k ≡ Some o
        → m.alike.carried (ends_at b k) ≡ value_behind p A b k → value_there p modules place ev regs B (ends_at b (suc k)) ≡ value_behind p A b (suc k)
    one_more b h before k o e reached =
        let here : OperatorAt = record { bit = b; number = k; operator = o } in
        let came : m.alike.carried (data_intended p (netlist_of p modules) place here) ≡ value_behind p A b k = ap m.alike.carried (data_is p (netlist_of p modules) place here) ∙ reached in
        cells.operators ev regs A B m here (operator_in p b h k o e) (λ r is off. came ∙ value_lost p A b k before r is off)
        ∙ (ap (λ v. through (network_of p) p.intent A v (o ∷ [])) came ∙ sym (value_more p A b k o e))

    -- what begins where a node has to begin has the value of the node's equation
    module _ (reached : (b : BoundaryBit) → IsIn b (boundary p.structure p.intent) → Before (node_before p.structure b) → (k : ℕ) → k ≤ length (chain_of p b) → m.alike.carried (ends_at b k) ≡ value_behind p A b k) where
      abbrev pub Known : Node → Type 0
      Known j = (value_there p modules place ev regs B (intended p (netlist_of p modules) place j) ≡ at A j) × Before j

      passed : (way : Way) (j : Node) → Known j → (operators : List Operator) → operators_of (design_of p) way (rail_of (design_of p) j) ≡ operators → operators ≡ []
          → value_there p modules place ev regs B (behind (netlist_of p modules) place way (operators_of (design_of p) way (rail_of (design_of p) j)) (intended p (netlist_of p modules) place j)) ≡ through (network_of p) p.intent A (at A j) (operators_of (design_of p) way (rail_of (design_of p) j))
      passed way j known operators e none =
          ap (value_there p modules place ev regs B) (behind_none p (netlist_of p modules) place way (operators_of (design_of p) way (rail_of (design_of p) j)) (intended p (netlist_of p modules) place j) (e ∙ none))
          ∙ (known.0 ∙ ap (through (network_of p) p.intent A (at A j)) (sym (e ∙ none)))

      through_chain : (way : Way) (j : Node) → Known j → (b : BoundaryBit) → way_of b ≡ way → IsIn b (boundary p.structure p.intent) → node_before p.structure b ≡ j
          → (operators : List Operator) → operators_of (design_of p) way (rail_of (design_of p) j) ≡ operators → chain_of p b ≡ operators
          → value_there p modules place ev regs B (behind (netlist_of p modules) place way (operators_of (design_of p) way (rail_of (design_of p) j)) (intended p (netlist_of p modules) place j)) ≡ through (network_of p) p.intent A (at A j) (operators_of (design_of p) way (rail_of (design_of p) j))
      through_chain way j known b named h from [] e chain = passed way j known [] e refl
      through_chain way j known b named h from (o ∷ more) e chain =
          let all : length (chain_of p b) ≡ suc (length more) = ap length chain in
          let last = get_there (chain_of p b) (length more) (omega (arith, all)) in
          let before : Before (node_before p.structure b) = subst Before (sym from) known.1 in
          let here = one_more b h before (length more) last.0 last.1 (reached b h before (length more) (omega (arith, all))) in
          let whole : take (suc (length more)) (chain_of p b) ≡ chain_of p b = ap (λ n. take n (chain_of p b)) (sym all) ∙ take_all (chain_of p b) in
          ap (value_there p modules place ev regs B) (behind_some p (netlist_of p modules) place way b (operators_of (design_of p) way (rail_of (design_of p) j)) (intended p (netlist_of p modules) place j) (length more) named (ap length e))
          ∙ (here ∙ (λ r. through (network_of p) p.intent A (at A (from r)) ((whole ∙ (chain ∙ sym e)) r)))

      along_way : (k j : Node) (way : Way) → source_of p.structure k ≡ Some (From way j) → Known j → (o : Option BoundaryBit) → bit_of_way p.structure p.intent way ≡ o
          → value_there p modules place ev regs B (behind (netlist_of p modules) place way (operators_of (design_of p) way (rail_of (design_of p) j)) (intended p (netlist_of p modules) place j)) ≡ through (network_of p) p.intent A (at A j) (operators_of (design_of p) way (rail_of (design_of p) j))
      along_way k j way e known None is = passed way j known (operators_of (design_of p) way (rail_of (design_of p) j)) refl (no_bit p way (rail_of (design_of p) j) is)
      along_way k j way e known (Some b) is =
          let bit = frame.bits k j way b e is in
          through_chain way j known b bit.0 bit.1 bit.2 (operators_of (design_of p) way (rail_of (design_of p) j)) refl
          (ap (λ i. chain (network_of p) p.intent (crossing p.structure p.intent (fuel_of p.structure) b) (rail_of (design_of p) i)) bit.2 ∙ sym (at_bit p way (rail_of (design_of p) j) b is))

      driven : (k : Node) (q : Path) (x v : Name) → Drives p q x v → value_there p modules place ev regs B (AtPin q x v) ≡ node_equation (design_of p) ev regs A k (Some (CellPin q x v))
      driven k q x v of =
          cells.sources ev regs A B m (record { path = q; instance = x }) of.placed of.cell of.is_cell v of.output
          ∙ ap (λ c. kept (set_on (network_of p) A (primary_of p.intent (domain_of p.intent q))) (output_of p.structure A regs q x v c)) (sym of.is_cell)

      pub inner_node : (n : Name) (i : Option ℕ) (q : Path) (o : Option Source) → source_of p.structure (Inner n i q) ≡ o → ((way : Way) (j : Node) → source_of p.structure (Inner n i q) ≡ Some (From way j) → Known j)
          → value_there p modules place ev regs B (intended p (netlist_of p modules) place (Inner n i q)) ≡ node_equation (design_of p) ev regs A (Inner n i q) o
      inner_node n i q o e before = ap (value_there p modules place ev regs B) (intended_is p frame.source_fuel (netlist_of p modules) place (Inner n i q) o e) ∙ by o e
        where
          by : (o : Option Source) → source_of p.structure (Inner n i q) ≡ o → value_there p modules place ev regs B (intended_by p frame.source_fuel (netlist_of p modules) place (Inner n i q) o) ≡ node_equation (design_of p) ev regs A (Inner n i q) o
          by None e = refl
          by (Some (CellPin r x v)) e = driven (Inner n i q) r x v (frame.drives (Inner n i q) r x v e)
          by (Some (SwitchedPin r x g)) e = refl
          by (Some Environment) e = refl
          by (Some (From way j)) e = along_way (Inner n i q) j way e (before way j e) (bit_of_way p.structure p.intent way) refl

      pub outer_node : (n : Name) (i : Option ℕ) (o : Option Source) → source_of p.structure (Outer n i) ≡ o → ((way : Way) (j : Node) → source_of p.structure (Outer n i) ≡ Some (From way j) → Known j)
          → value_there p modules place ev regs B (intended p (netlist_of p modules) place (Outer n i)) ≡ node_equation (design_of p) ev regs A (Outer n i) o
      outer_node n i o e before = ap (value_there p modules place ev regs B) (intended_is p frame.source_fuel (netlist_of p modules) place (Outer n i) o e) ∙ by o e
        where
          by : (o : Option Source) → source_of p.structure (Outer n i) ≡ o → value_there p modules place ev regs B (intended_by p frame.source_fuel (netlist_of p modules) place (Outer n i) o) ≡ node_equation (design_of p) ev regs A (Outer n i) o
          by None e = refl
          by (Some (CellPin r x v)) e = driven (Outer n i) r x v (frame.drives (Outer n i) r x v e)
          by (Some (SwitchedPin r x g)) e = refl
          by (Some Environment) e = frame.tops ev regs A B m.alike.origins n i e ∙ ap (λ x. kept (set_on (network_of p) A (source_supply p.intent (Outer n i) x)) (ev.inputs n i)) (sym e)
          by (Some (From way j)) e = along_way (Outer n i) j way e (before way j e) (bit_of_way p.structure p.intent way) refl
