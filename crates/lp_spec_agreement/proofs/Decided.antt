-- What the cells of the netlist make is decided by the assignment of the source: two assignments of the netlist that are alike with it make the same.
use Rattle.std.proofs.Common.{◌≡◌, ◌==◌, ℕ, zero, suc, Bool, true, false, not, ◌&&◌, ◌||◌, List, [], ◌∷◌, map, Option, Some, None, inl, inr, refl, sym, ap, ◌∙◌, subst}
use Rattle.std.specs.Prelude.{bytes_eq, flat_map, is_some, if◌then◌else◌, option_and_then, slice_get}
use Rattle.std.proofs.lemmas.Bool.{and_parts, false≢true}
use Rattle.lp_tern.specs.declared.tern.Tern.{Tern}
use Rattle.lp_tern.specs.declared.tern.Tern.TheVariants.{X}
use Rattle.lp_tern.specs.declared.supply.SupplyState.TheVariants.{Off}
use Rattle.lp_tern.specs.Values.{replacements, agreed, choose_supply_of}
use Rattle.lp_expr.specs.Formula.{truth, completions}
use Rattle.lp_model.specs.declared.library.Shifter.{Shifter}
use Rattle.lp_model.specs.declared.netlist.Direction.{Direction}
use Rattle.lp_model.specs.declared.netlist.Direction.TheVariants.{Input, Output}
use Rattle.lp_model.specs.NetlistView.{InstanceView, ModuleView}
use Rattle.lp_model.specs.LibraryView.{ExprView, SwitchedView, PgPinView, PinView, CellView}
use Rattle.lp_behaviour.specs.Signals.{is_input}
use Rattle.lp_spec_design.specs.Keys.{Name, Path, Node, Outer, Source, CellPin, SwitchedPin, Environment, From}
use Rattle.lp_spec_design.specs.Netlists.{Structure, cell_named, instance_named, module_at, cell_at}
use Rattle.lp_spec_design.specs.Instances.{Placed}
use Rattle.lp_spec_design.specs.Nodes.{fuel_of}
use Rattle.lp_spec_design.specs.Graph.{source_of}
use Rattle.lp_spec_design.specs.Intents.{SupplySet, Strategy}
use Rattle.lp_spec_design.specs.Domains.{source_supply}
use Rattle.lp_spec_design.specs.Chains.{Operator, Clamp, Shift}
use Rattle.lp_spec_design.specs.Winners.{IsIn}
use Rattle.lp_spec_design.specs.Reads.{name-true}
use Rattle.lp_spec_design.specs.Registers.{retention}
use Rattle.lp_spec_design.specs.Settled.{Assignment, Event, Registers, kept, pin_named, read_pin, state_named, value_named, named_value, function_value, output_by, node_at_pin}
use Rattle.lp_spec_design.proofs.Sources.{then_is, first_in}
use Rattle.lp_spec_pins.specs.Pins.{Powered, PinAssignment, Pair, signal_at, begins, state_from, supply_of_node, source_of_pg, state_of_pg, state_of_ground, related, state_pair, related_of_pin, related_of, pin_supply_begun, driving, some_under, is_joined, read_by, input_value, pin_value, pins_read, is_input_pin, onness, pg_named, sources_named, is_zero_for, is_up, is_data, input_for, driving_pin, input_supply, outside_by, is_unfit_at, output_at, cell_output_at, top_input, switched_of, switched_state, switch_equation, pair_on}
use Rattle.lp_spec_fit.specs.Fits.{is_usable}
use Rattle.lp_spec_realises.specs.Projects.{Project, functions_of}
use Rattle.lp_spec_realises.specs.ProjectNetlists.{netlist_of}
use Rattle.lp_spec_realises.specs.Operators.{Placement, placed_operator}
use Rattle.lp_spec_realises.specs.Ends.{End, AtPin, AtSwitched, AtTop, AtConstant, Nowhere, wire_end, some_end}
use Rattle.lp_spec_realises.specs.Surroundings.{set_of, nodes_of_set, powered_of, event_at_pins}
use Rattle.lp_spec_realises.specs.Realises.{cell_of, primary_at, operator_fits, takes_place, register_fits, Realises}
use Rattle.lp_spec_agreement.specs.Alike.{pair_of_end, OperatorsAlike}
use Rattle.lp_spec_agreement.specs.Cells.{Meet, value_there, CellsDecided}
use Rattle.lp_spec_agreement.specs.Faultless.{IsSoundCell, IsFaultless}
use Rattle.lp_spec_agreement.proofs.Apart.{module_in}
use Rattle.lp_spec_agreement.proofs.Framed.{pin_found, source_usable, fuel, operator_stands_at}
use Rattle.lp_spec_agreement.proofs.Joined.{driving_is}
use Rattle.lp_spec_agreement.proofs.KnownEnds.{KnownEnd, clamp_pins, shifter_pins, register_pins, input_known}
use Rattle.lp_spec_agreement.proofs.Placed.{passed_cell}
use Rattle.lp_spec_agreement.proofs.Roles.{Role, cell_role, TakesPlace, takes, same_cell, pg_origin}
use Rattle.lp_spec_agreement.proofs.Supplied.{cell_at_in, usable, switch_cell, fixed_state, node_state}

-- ---- functions look at input pins of their cell alone

module _ (c : CellView) (f g : Name → Tern) (same : (v : Name) (q : PinView) → read_pin c v ≡ Some q → f v ≡ g v) where
  value-same : (v : Name) (q : Option PinView) (s : Tern) → read_pin c v ≡ q → value_named q (f v) s ≡ value_named q (g v) s
  value-same v None s is = refl
  value-same v (Some q) s is = same v q is

  values-same : (bit : Bool) (vs : List Name) → map (named_value c f bit) vs ≡ map (named_value c g bit) vs
  values-same bit [] = refl
  values-same bit (v ∷ vs) = λ i. value-same v (read_pin c v) (state_named c.state bit v) refl i ∷ values-same bit vs i

  pub function-same : (q : Tern) (e : ExprView) → function_value c f q e ≡ function_value c g q e
  function-same q e = λ i. agreed (flat_map (λ bit. map (truth e.steps) (completions (values-same bit e.variables i))) (replacements q))

  pub output-same : (q : Tern) (e : Option ExprView) → output_by c f q e ≡ output_by c g q e
  output-same q None = refl
  output-same q (Some e) = function-same q e

-- an input pin of a name, where names are apart, is the pin of that name
pub read_is : (c : CellView) → IsSoundCell c → (v : Name) (q : PinView) → read_pin c v ≡ Some q → (pin_named c v ≡ Some q) × IsIn q c.pins × (is_input_pin q ≡ true) × (q.name ≡ v)
read_is c sound v q e =
    let found = first_in (λ (r : PinView). is_input r.direction && bytes_eq r.name v) c.pins q e in
    let both = and_parts (is_input q.direction) (bytes_eq q.name v) found.1 in
    let name = name-true q.name v both.1 in
    (ap (pin_named c) (sym name) ∙ pin_found c sound q found.0, found.0, by q.direction refl both.0, name)
  where
    by : (d : Direction) → q.direction ≡ d → is_input q.direction ≡ true → is_input_pin q ≡ true
    by Input is h = rw is refl
    by Output is h = absurd (false≢true (rw is at h))

get_in : {A : Type 0} (xs : List A) (k : ℕ) (x : A) → slice_get xs k ≡ Some x → IsIn x xs
get_in [] k x e = absurd cc
get_in (y ∷ xs) zero x e = let is : x ≡ y = cc in inl is
get_in (y ∷ xs) (suc k) x e = inr (get_in xs k x e)

module _ (p : Project) (good : IsFaultless p) (modules : List ModuleView) (real : Realises p modules) where
  abbrev place : Placement
  place = real.placement

  abbrev W : Structure
  W = netlist_of p modules

  abbrev w : Powered
  w = powered_of p modules real.placement

  -- ---- each cell of the netlist is sound

  pub source_sound : (a : Placed) (s : CellView) → cell_of p.structure a ≡ Some s → IsSoundCell s
  source_sound a s e =
      let above = then_is (λ (m : ModuleView). option_and_then (λ (y : InstanceView). cell_named p.structure y.target) (instance_named m a.instance)) (module_at p.structure a.path) s e in
      let inst = then_is (λ (y : InstanceView). cell_named p.structure y.target) (instance_named above.0 a.instance) s above.2 in
      let found = first_in (λ (y : InstanceView). bytes_eq y.name a.instance) above.0.instances inst.0 inst.1 in
      good.library s (cell_at_in p.structure a.path a.instance s e) (source_usable p good above.0 (module_in p.structure good.names_apart a.path above.0 above.1) inst.0 found.0 s inst.2)

  by_use : (a : Placed) (c : CellView) → cell_of W a ≡ Some c → is_usable c ≡ true → IsSoundCell c
  by_use a c e u = good.library c (cell_at_in W a.path a.instance c e) (usable c u)

  place_sound : (a : Placed) (c : CellView) → cell_of W a ≡ Some c → (of : TakesPlace p good modules real a c) (t : Option Strategy) → takes_place p a t (Some of.source) c ≡ true → IsSoundCell c
  place_sound a c e of None h = subst IsSoundCell (same_cell p good modules real a of.source c of.is_source e h) (source_sound a of.source of.is_source)
  place_sound a c e of (Some t) h = by (is_some of.source.state) h
    where
      by : (b : Bool) → (if b then register_fits of.source (primary_at p a.path) (functions_of p t.supply) t.save t.restore c else bytes_eq of.source.name c.name) ≡ true → IsSoundCell c
      by true g = let reg = register_pins of.source (primary_at p a.path) (functions_of p t.supply) t.save t.restore c g in by_use a c e (and_parts (is_usable c) _ reg.fits).0
      by false g = subst IsSoundCell (same_cell p good modules real a of.source c of.is_source e g) (source_sound a of.source of.is_source)

  operator_usable : (path : Path) (o : Operator) (c : CellView) → operator_fits p path o c ≡ true → is_usable c ≡ true
  operator_usable path (Clamp t i) c h = let pins = clamp_pins (functions_of p (Some i)) (primary_at p path) (slice_get p.intent.strategies t) c h in (and_parts (is_usable c) _ pins.fits).0
  operator_usable path (Shift t a b) c h = let pins = shifter_pins p (functions_of p (Some a)) (functions_of p (Some b)) c h in (and_parts (is_usable c) _ pins.fits).0

  pub cell_sound : (a : Placed) (c : CellView) → cell_of W a ≡ Some c → Role p good modules real a → IsSoundCell c
  cell_sound a c e (inl source) = let of = takes p good modules real a source c e in place_sound a c e of (retention p.intent a.path a.instance) of.takes
  cell_sound a c e (inr (inl operator)) =
      let o = operator.0 in
      let cell = passed_cell (operator_fits p (placed_operator place o).path o.operator) (cell_of W (placed_operator place o)) (operator_stands_at p good modules real o operator.1) in
      let some : Some cell.0 ≡ Some c = sym cell.1 ∙ (ap (cell_of W) (sym operator.2) ∙ e) in
      let same : cell.0 ≡ c = cc in
      by_use a c e (ap is_usable (sym same) ∙ operator_usable (placed_operator place o).path o.operator cell.0 cell.2)
  cell_sound a c e (inr (inr switch)) =
      let s = switch_cell p good modules real switch.0 switch.1 in
      let some : Some s.cell ≡ Some c = sym s.is_cell ∙ (ap (cell_of W) (sym switch.2) ∙ e) in
      let same : s.cell ≡ c = cc in
      subst IsSoundCell same s.sound

  module _ (ev : Event) (regs : Registers) (A : Assignment) (B C : PinAssignment) (m : Meet p modules real.placement ev A B) (n : Meet p modules real.placement ev A C) where
    -- ---- supplies

    module _ (q : Path) (x : Name) (c : CellView) (cell : cell_at (netlist_of p modules) q x ≡ Some c) where
      abbrev here : Placed
      here = record { path = q; instance = x }

      source_same : (g : PgPinView) → IsIn g c.pgs → state_from B (source_of_pg w q x (Some g)) ≡ state_from C (source_of_pg w q x (Some g))
      source_same g h =
          let o = pg_origin p good modules real here c cell (cell_role p good modules real q x c cell) g h in
          ap (state_from B) o.1 ∙ (m.alike.origins o.0 ∙ (sym (n.alike.origins o.0) ∙ sym (ap (state_from C) o.1)))

      pg_same : (k : ℕ) (g : Option PgPinView) → slice_get c.pgs k ≡ g → state_of_pg w B q x g ≡ state_of_pg w C q x g
      pg_same k None e = refl
      pg_same k (Some g) e = source_same g (get_in c.pgs k g e)

      ground_same : (g : Option ℕ) → state_of_ground w B q x c g ≡ state_of_ground w C q x c g
      ground_same None = refl
      ground_same (Some k) = pg_same k (slice_get c.pgs k) refl

      related_same : (r : PinView) → related w B q x c r ≡ related w C q x c r
      related_same r = λ i. record { power = pg_same r.power (slice_get c.pgs r.power) refl i; gnd = ground_same r.gnd i }

      related_pin_same : (r : Option PinView) → related_of_pin w B q x c r ≡ related_of_pin w C q x c r
      related_pin_same None = refl
      related_pin_same (Some r) = ap (λ z. Some z) (related_same r)

      -- ---- power-down functions

      named_same : (g : Option PgPinView) (v : Name) → pg_named c v ≡ g → onness (state_from B (source_of_pg w q x g)) ≡ onness (state_from C (source_of_pg w q x g))
      named_same None v e = refl
      named_same (Some g) v e = ap onness (source_same g (first_in (λ (z : PgPinView). bytes_eq z.name v) c.pgs g e).0)

      ons_same : (names : List Name) → map (λ s. onness (state_from B s)) (sources_named w q x c names) ≡ map (λ s. onness (state_from C s)) (sources_named w q x c names)
      ons_same [] = refl
      ons_same (v ∷ names) = λ i. named_same (pg_named c v) v refl i ∷ ons_same names i

      up_same : (e : Option ExprView) → is_up w B q x c e ≡ is_up w C q x c e
      up_same None = refl
      up_same (Some e) = ap (is_zero_for c e (sources_named w q x c e.variables)) (ons_same e.variables)

    related_of_same : (q : Path) (x v : Name) (o : Option CellView) → cell_at W q x ≡ o → related_of w B q x o v ≡ related_of w C q x o v
    related_of_same q x v None e = refl
    related_of_same q x v (Some c) e = related_pin_same q x c e (pin_named c v)

    nodes_same : (s : Option SupplySet) → state_pair w B (nodes_of_set p W place s) ≡ state_pair w C (nodes_of_set p W place s)
    nodes_same None =
        let one = fixed_state p good modules real A B m.alike.origins true ∙ sym (fixed_state p good modules real A C n.alike.origins true) in
        λ i. record { power = one i; gnd = one i }
    nodes_same (Some s) = λ i. record {
      power = (node_state p good modules real A B m.alike.origins s.power ∙ sym (node_state p good modules real A C n.alike.origins s.power)) i;
      gnd = (node_state p good modules real A B m.alike.origins s.gnd ∙ sym (node_state p good modules real A C n.alike.origins s.gnd)) i;
    }

    driver_same : (v : Name) → state_pair w B (w.around.driver v) ≡ state_pair w C (w.around.driver v)
    driver_same v = nodes_same (set_of p (source_supply p.intent (Outer v None) (Some Environment)))

    pair_same : (e : End) → pair_of_end w B e ≡ pair_of_end w C e
    pair_same (AtPin q x v) = related_of_same q x v (cell_at W q x) refl
    pair_same (AtSwitched q x g) = refl
    pair_same (AtTop v j) = ap (λ z. Some z) (driver_same v)
    pair_same (AtConstant b) = refl
    pair_same Nowhere = refl

    driving_same : (k : Node) → driving w B k ≡ driving w C k
    driving_same k = driving_is w (fuel p good modules real) B k ∙ (pair_same (wire_end W (fuel_of W) k) ∙ sym (driving_is w (fuel p good modules real) C k))

    pin_supply_same : (o : Option Source) → pin_supply_begun w B o ≡ pin_supply_begun w C o
    pin_supply_same None = refl
    pin_supply_same (Some (CellPin q x v)) = related_of_same q x v (cell_at W q x) refl
    pin_supply_same (Some (SwitchedPin q x g)) = refl
    pin_supply_same (Some Environment) = refl
    pin_supply_same (Some (From way j)) = refl

    driving_pin_same : (k : Option Node) → driving_pin w B k ≡ driving_pin w C k
    driving_pin_same None = refl
    driving_pin_same (Some k) = pin_supply_same (source_of W (begins w k))

    module _ (first_operators : OperatorsAlike p modules real.placement A m.alike.carried) (second_operators : OperatorsAlike p modules real.placement A n.alike.carried) where
      -- ---- values

      carried_same : (e : End) → KnownEnd p good modules real e → m.alike.carried e ≡ n.alike.carried e
      carried_same e (inl node) = ap m.alike.carried node.1 ∙ (m.alike.nodes node.0 ∙ (sym (n.alike.nodes node.0) ∙ sym (ap n.alike.carried node.1)))
      carried_same e (inr (inl o)) = ap m.alike.carried o.2 ∙ (first_operators o.0 o.1 ∙ (sym (second_operators o.0 o.1) ∙ sym (ap n.alike.carried o.2)))
      carried_same e (inr (inr none)) = ap m.alike.carried none ∙ (m.alike.nowhere ∙ (sym n.alike.nowhere ∙ sym (ap n.alike.carried none)))

      signal_same : (k : Node) → KnownEnd p good modules real (wire_end W (fuel_of W) k) → signal_at B k ≡ signal_at C k
      signal_same k known = m.alike.values k ∙ (carried_same (wire_end W (fuel_of W) k) known ∙ sym (n.alike.values k))

      read_same : (k : Node) → KnownEnd p good modules real (wire_end W (fuel_of W) k) → (s t : Pair) → s ≡ t → read_by w B k s ≡ read_by w C k t
      read_same k known s t e = λ i. if is_joined (supply_of_node w k) || some_under w.around.margin (driving_same k i) (e i) then X else signal_same k known i

      module _ (q : Path) (x : Name) (c : CellView) (cell : cell_at (netlist_of p modules) q x ≡ Some c) where
        sound : IsSoundCell c
        sound = cell_sound (record { path = q; instance = x }) c cell (cell_role p good modules real q x c cell)

        input_same : (r : PinView) (k : Node) → KnownEnd p good modules real (wire_end W (fuel_of W) k) → (b : Bool) → input_value w B q x c r k b ≡ input_value w C q x c r k b
        input_same r k known true = read_same k known (related w B q x c r) (related w C q x c r) (related_same q x c cell r)
        input_same r k known false = signal_same k known

        at_node : (r : PinView) → IsIn r c.pins → is_input_pin r ≡ true → (k : Option Node) → node_at_pin W q x r.name ≡ k → pin_value w B q x c (Some r) k ≡ pin_value w C q x c (Some r) k
        at_node r h input None e = refl
        at_node r h input (Some k) e =
            input_same r k (subst (KnownEnd p good modules real) (ap (some_end W (fuel_of W)) e) (input_known p good modules real (record { path = q; instance = x }) c cell sound (cell_role p good modules real q x c cell) r h input)) (is_input_pin r)

        pins_same : (v : Name) (r : PinView) → read_pin c v ≡ Some r → pins_read w B q x c v ≡ pins_read w C q x c v
        pins_same v r e =
            let is = read_is c sound v r e in
            ap (λ o. pin_value w B q x c o (node_at_pin W q x v)) is.0
            ∙ (ap (λ z. pin_value w B q x c (Some r) (node_at_pin W q x z)) (sym is.3)
            ∙ (at_node r is.1 is.2 (node_at_pin W q x r.name) refl
            ∙ (ap (λ z. pin_value w C q x c (Some r) (node_at_pin W q x z)) is.3
            ∙ sym (ap (λ o. pin_value w C q x c o (node_at_pin W q x v)) is.0))))

        -- ---- outputs

        supply_same : (r : PinView) (b : Bool) → input_supply w B q x c r b ≡ input_supply w C q x c r b
        supply_same r true = driving_pin_same (node_at_pin W q x r.name)
        supply_same r false = ap (λ z. Some z) (related_same q x c cell r)

        unfit_same : (out : PinView) (f : Option Shifter) (r : Option PinView) → is_unfit_at w B q x c out f r ≡ is_unfit_at w C q x c out f r
        unfit_same out None r = refl
        unfit_same out (Some f) None = refl
        unfit_same out (Some f) (Some r) = λ i. outside_by f (supply_same r (r.power == out.power) i) (related_same q x c cell out i)

        output_same : (v : Option PinView) → output_at w B regs q x c v ≡ output_at w C regs q x c v
        output_same None = refl
        output_same (Some v) = λ i.
            kept (up_same q x c cell v.power_down i && not (unfit_same v c.roles.shifter (input_for is_data c) i)) (output-same c (pins_read w B q x c) (pins_read w C q x c) pins_same (regs q x) v.function i)

        switched_same : (s : Option SwitchedView) → switched_state w B regs q x c s ≡ switched_state w C regs q x c s
        switched_same None = refl
        switched_same (Some s) = λ i. choose_supply_of (function-same c (pins_read w B q x c) (pins_read w C q x c) pins_same (regs q x) s.off i) Off (pg_same q x c cell s.passes (slice_get c.pgs s.passes) refl i)

      cell_same : (q : Path) (x v : Name) (o : Option CellView) → cell_at W q x ≡ o → cell_output_at w B regs q x v o ≡ cell_output_at w C regs q x v o
      cell_same q x v None e = refl
      cell_same q x v (Some c) e = output_same q x c e (pin_named c v)

      switch_same : (q : Path) (x g : Name) (o : Option CellView) → cell_at W q x ≡ o → switch_equation w B regs q x g o ≡ switch_equation w C regs q x g o
      switch_same q x g None e = refl
      switch_same q x g (Some c) e = switched_same q x c e (switched_of (pg_named c g))

      top_same : (v : Name) (j : Option ℕ) (b : Bool) → top_input w (event_at_pins p W ev) B v j b ≡ top_input w (event_at_pins p W ev) C v j b
      top_same v j true = refl
      top_same v j false = ap (λ z. kept (pair_on z) ((event_at_pins p W ev).inputs v j)) (driver_same v)

      value_same : (e : End) → value_there p modules real.placement ev regs B e ≡ value_there p modules real.placement ev regs C e
      value_same (AtPin q x v) = cell_same q x v (cell_at W q x) refl
      value_same (AtSwitched q x g) = refl
      value_same (AtTop v j) = top_same v j (w.around.is_supply v)
      value_same (AtConstant b) = refl
      value_same Nowhere = refl

  pub cells_decided : CellsDecided p modules real.placement
  cells_decided ev regs A B C m n one two = record {
    values = λ k. value_same ev regs A B C m n one two (wire_end W (fuel_of W) k);
    states = λ q x g. switch_same ev regs A B C m n one two q x g (cell_at W q x) refl;
  }
