-- Each equation by pins looks only at what occurs in it.
use Rattle.std.proofs.Common.{◌≡◌, ℕ, Bool, true, false, not, ◌||◌, ◌&&◌, ◌==◌, List, [], ◌∷◌, ◌++◌, Option, Some, None, refl, ap}
use Rattle.std.specs.Prelude.{IsTrue, map, slice_get, if◌then◌else◌}
use Rattle.std.specs.List.{flat_map}
use Rattle.lp_tern.specs.declared.tern.Tern.{Tern}
use Rattle.lp_tern.specs.declared.tern.Tern.TheVariants.{X}
use Rattle.lp_tern.specs.declared.supply.SupplyState.TheVariants.{Off}
use Rattle.lp_tern.specs.Values.{replacements, agreed, choose_supply_of}
use Rattle.lp_expr.specs.Formula.{truth, completions}
use Rattle.lp_spec_settling.specs.Settling.{has, LooksAt}
use Rattle.lp_spec_settling.proofs.Agreement.{agree-head, agree-left, agree-right}
use Rattle.lp_model.specs.declared.library.Shifter.{Shifter}
use Rattle.lp_model.specs.LibraryView.{ExprView, SwitchedView, PinView, CellView}
use Rattle.lp_spec_design.specs.Keys.{Name, Path, Node, Inner, Outer, Fixed, Source, CellPin, SwitchedPin, Environment, From}
use Rattle.lp_spec_design.specs.Netlists.{cell_at}
use Rattle.lp_spec_design.specs.Graph.{source_of}
use Rattle.lp_spec_design.specs.Settled.{read_pin, Logic, State, Registers, logic_in, state_in, kept, pin_named, node_at_pin, state_named, value_named, named_value, output_by}
use Rattle.lp_spec_pins.specs.Pins.{SupplySource, FromTop, FromSwitched, SupplyNodes, Powered, PinKey, Signal, Supply, PinAssignment, PinEvent, signal_at, begins, supply_of_node, state_from, source_of_pg, state_of_ground, pair_on, related, state_pair, related_of_pin, related_of, pin_supply_begun, driver_begun, some_under, is_joined, is_input_pin, input_value, pin_value, pins_read, onness, pg_named, sources_named, is_zero_for, is_up, outside_by, input_for, is_data, driving_pin, input_supply, is_unfit_at, output_at, cell_output_at, top_input, signal_equation, switched_of, switched_state, switch_equation, pin_equation}
use Rattle.lp_spec_pins.specs.Reads.{supply_keys, pair_keys, pg_keys, ground_keys, related_keys, related_of_pin_keys, related_of_keys, pin_supply_keys, driver_keys, driving_keys, signal_keys, input_keys, pin_keys, read_keys, named_keys, function_keys, up_keys, driving_pin_keys, shifted_keys, unfit_keys_at, unfit_keys, output_keys, cell_keys, top_keys, source_keys, switched_keys, switch_keys, reads, keys}

module _ (w : Powered) (A B : PinAssignment) where
  -- the two give the same values to the keys of a list
  abbrev Agree : List PinKey → Type 0
  Agree ks = (j : PinKey) → IsTrue (has keys j ks) → A j ≡ B j

  head : (k : PinKey) (ks : List PinKey) → Agree (k ∷ ks) → A k ≡ B k
  head = agree-head keys A B

  left : (xs ys : List PinKey) → Agree (xs ++ ys) → Agree xs
  left = agree-left keys A B

  right : (xs ys : List PinKey) → Agree (xs ++ ys) → Agree ys
  right = agree-right keys A B

  -- ---- supplies

  state-same : (s : Option SupplySource) → Agree (supply_keys s) → state_from A s ≡ state_from B s
  state-same None h = refl
  state-same (Some s) h = ap state_in (head (Supply s) [] h)

  pair-same : (s : SupplyNodes) → Agree (pair_keys w s) → state_pair w A s ≡ state_pair w B s
  pair-same s h = λ r. record {
    power = state-same (supply_of_node w s.power) (left (supply_keys (supply_of_node w s.power)) (supply_keys (supply_of_node w s.gnd)) h) r;
    gnd = state-same (supply_of_node w s.gnd) (right (supply_keys (supply_of_node w s.power)) (supply_keys (supply_of_node w s.gnd)) h) r;
  }

  module _ (p : Path) (x : Name) (c : CellView) where
    ground-same : (g : Option ℕ) → Agree (ground_keys w p x c g) → state_of_ground w A p x c g ≡ state_of_ground w B p x c g
    ground-same None h = refl
    ground-same (Some g) h = state-same (source_of_pg w p x (slice_get c.pgs g)) h

    related-same : (q : PinView) → Agree (related_keys w p x c q) → related w A p x c q ≡ related w B p x c q
    related-same q h = λ r. record {
      power = state-same (source_of_pg w p x (slice_get c.pgs q.power)) (left (pg_keys w p x (slice_get c.pgs q.power)) (ground_keys w p x c q.gnd) h) r;
      gnd = ground-same q.gnd (right (pg_keys w p x (slice_get c.pgs q.power)) (ground_keys w p x c q.gnd) h) r;
    }

    related_of_pin-same : (q : Option PinView) → Agree (related_of_pin_keys w p x c q) → related_of_pin w A p x c q ≡ related_of_pin w B p x c q
    related_of_pin-same None h = refl
    related_of_pin-same (Some q) h = ap (λ s. Some s) (related-same q h)

  related_of-same : (p : Path) (x : Name) (c : Option CellView) (q : Name) → Agree (related_of_keys w p x c q) → related_of w A p x c q ≡ related_of w B p x c q
  related_of-same p x None q h = refl
  related_of-same p x (Some c) q h = related_of_pin-same p x c (pin_named c q) h

  -- ---- what drives a node

  begun-same : (s : Option Source) → Agree (pin_supply_keys w s) → pin_supply_begun w A s ≡ pin_supply_begun w B s
  begun-same None h = refl
  begun-same (Some (CellPin p x q)) h = related_of-same p x (cell_at w.structure p x) q h
  begun-same (Some (SwitchedPin p x q)) h = refl
  begun-same (Some Environment) h = refl
  begun-same (Some (From way j)) h = refl

  driver-same : (k : Node) (s : Option Source) → Agree (driver_keys w k s) → driver_begun w A k s ≡ driver_begun w B k s
  driver-same (Outer n j) (Some Environment) h = ap (λ s. Some s) (pair-same (w.around.driver n) h)
  driver-same (Outer n j) None h = refl
  driver-same (Outer n j) (Some (CellPin p x q)) h = begun-same (Some (CellPin p x q)) h
  driver-same (Outer n j) (Some (SwitchedPin p x q)) h = refl
  driver-same (Outer n j) (Some (From way i)) h = refl
  driver-same (Inner n j p) s h = begun-same s h
  driver-same (Fixed b) s h = begun-same s h

  signal-same : (k : Node) → Agree (signal_keys k) → signal_at A k ≡ signal_at B k
  signal-same (Fixed b) h = refl
  signal-same (Inner m i p) h = ap logic_in (head (Signal (Inner m i p)) [] h)
  signal-same (Outer m i) h = ap logic_in (head (Signal (Outer m i)) [] h)

  -- ---- what a cell instance reads

  module _ (p : Path) (x : Name) (c : CellView) where
    input-same : (q : PinView) (k : Node) (b : Bool) → Agree (input_keys w p x c q k b) → input_value w A p x c q k b ≡ input_value w B p x c q k b
    input-same q k true h =
        let later = right (driving_keys w k) (related_keys w p x c q ++ signal_keys k) h in
        λ r. if is_joined (supply_of_node w k) || some_under w.around.margin (driver-same (begins w k) (source_of w.structure (begins w k)) (left (driving_keys w k) (related_keys w p x c q ++ signal_keys k) h) r) (related-same p x c q (left (related_keys w p x c q) (signal_keys k) later) r)
        then X
        else signal-same k (right (related_keys w p x c q) (signal_keys k) later) r
    input-same q k false h = signal-same k h

    pin-same : (q : Option PinView) (k : Option Node) → Agree (pin_keys w p x c q k) → pin_value w A p x c q k ≡ pin_value w B p x c q k
    pin-same None k h = refl
    pin-same (Some q) None h = refl
    pin-same (Some q) (Some k) h = input-same q k (is_input_pin q) h

    named-same : (v : Name) (q : Option PinView) (s : Tern) → Agree (read_keys q (pin_keys w p x c (pin_named c v) (node_at_pin w.structure p x v))) → value_named q (pins_read w A p x c v) s ≡ value_named q (pins_read w B p x c v) s
    named-same v None s h = refl
    named-same v (Some q) s h = pin-same (pin_named c v) (node_at_pin w.structure p x v) h

    values-same : (bit : Bool) (vs : List Name) → Agree (flat_map (named_keys w p x c) vs) → map (named_value c (pins_read w A p x c) bit) vs ≡ map (named_value c (pins_read w B p x c) bit) vs
    values-same bit [] h = refl
    values-same bit (v ∷ vs) h = λ r.
        named-same v (read_pin c v) (state_named c.state bit v) (left (named_keys w p x c v) (flat_map (named_keys w p x c) vs) h) r
        ∷ values-same bit vs (right (named_keys w p x c v) (flat_map (named_keys w p x c) vs) h) r

    function-same : (q : Tern) (e : Option ExprView) → Agree (function_keys w p x c e) → output_by c (pins_read w A p x c) q e ≡ output_by c (pins_read w B p x c) q e
    function-same q None h = refl
    function-same q (Some e) h = λ r. agreed (flat_map (λ bit. map (truth e.steps) (completions (values-same bit e.variables h r))) (replacements q))

    -- ---- outputs

    states-same : (sources : List (Option SupplySource)) → Agree (flat_map supply_keys sources) → map (λ s. onness (state_from A s)) sources ≡ map (λ s. onness (state_from B s)) sources
    states-same [] h = refl
    states-same (s ∷ more) h = λ r.
        onness (state-same s (left (supply_keys s) (flat_map supply_keys more) h) r) ∷ states-same more (right (supply_keys s) (flat_map supply_keys more) h) r

    up-same : (e : Option ExprView) → Agree (up_keys w p x c e) → is_up w A p x c e ≡ is_up w B p x c e
    up-same None h = refl
    up-same (Some e) h = ap (is_zero_for c e (sources_named w p x c e.variables)) (states-same (sources_named w p x c e.variables) h)

    driving_pin-same : (k : Option Node) → Agree (driving_pin_keys w k) → driving_pin w A k ≡ driving_pin w B k
    driving_pin-same None h = refl
    driving_pin-same (Some k) h = begun-same (source_of w.structure (begins w k)) h

    shifted-same : (input : PinView) (b : Bool) → Agree (shifted_keys w p x c input b) → input_supply w A p x c input b ≡ input_supply w B p x c input b
    shifted-same input true h = driving_pin-same (node_at_pin w.structure p x input.name) h
    shifted-same input false h = ap (λ s. Some s) (related-same p x c input h)

    unfit-same : (out : PinView) (f : Option Shifter) (input : Option PinView) → Agree (unfit_keys_at w p x c out f input) → is_unfit_at w A p x c out f input ≡ is_unfit_at w B p x c out f input
    unfit-same out None input h = refl
    unfit-same out (Some f) None h = refl
    unfit-same out (Some f) (Some input) h = λ r.
        outside_by f (shifted-same input (input.power == out.power) (left (shifted_keys w p x c input (input.power == out.power)) (related_keys w p x c out) h) r)
        (related-same p x c out (right (shifted_keys w p x c input (input.power == out.power)) (related_keys w p x c out) h) r)

    output-same : (regs : Registers) (q : Option PinView) → Agree (output_keys w p x c q) → output_at w A regs p x c q ≡ output_at w B regs p x c q
    output-same regs None h = refl
    output-same regs (Some q) h =
        let later = right (up_keys w p x c q.power_down) (unfit_keys w p x c q ++ function_keys w p x c q.function) h in
        λ r. kept (up-same q.power_down (left (up_keys w p x c q.power_down) (unfit_keys w p x c q ++ function_keys w p x c q.function) h) r
        && not (unfit-same q c.roles.shifter (input_for is_data c) (left (unfit_keys w p x c q) (function_keys w p x c q.function) later) r))
        (function-same (regs p x) q.function (right (unfit_keys w p x c q) (function_keys w p x c q.function) later) r)

    switched-same : (regs : Registers) (s : Option SwitchedView) → Agree (switched_keys w p x c s) → switched_state w A regs p x c s ≡ switched_state w B regs p x c s
    switched-same regs None h = refl
    switched-same regs (Some s) h = λ r.
        choose_supply_of (function-same (regs p x) (Some s.off) (left (function_keys w p x c (Some s.off)) (pg_keys w p x (slice_get c.pgs s.passes)) h) r) Off
        (state-same (source_of_pg w p x (slice_get c.pgs s.passes)) (right (function_keys w p x c (Some s.off)) (pg_keys w p x (slice_get c.pgs s.passes)) h) r)

  -- ---- equations

  module _ (ev : PinEvent) (regs : Registers) where
    cell-same : (p : Path) (x q : Name) (c : Option CellView) → Agree (cell_keys w p x q c) → cell_output_at w A regs p x q c ≡ cell_output_at w B regs p x q c
    cell-same p x q None h = refl
    cell-same p x q (Some c) h = output-same p x c regs (pin_named c q) h

    top-same : (n : Name) (j : Option ℕ) (b : Bool) → Agree (top_keys w n b) → top_input w ev A n j b ≡ top_input w ev B n j b
    top-same n j true h = refl
    top-same n j false h = ap (λ s. kept (pair_on s) (ev.inputs n j)) (pair-same (w.around.driver n) h)

    node-same : (k : Node) (s : Option Source) → Agree (source_keys w k s) → signal_equation w ev regs A k s ≡ signal_equation w ev regs B k s
    node-same k None h = refl
    node-same k (Some (CellPin p x q)) h = cell-same p x q (cell_at w.structure p x) h
    node-same k (Some (SwitchedPin p x q)) h = refl
    node-same k (Some (From way j)) h = signal-same j h
    node-same (Outer n j) (Some Environment) h = top-same n j (w.around.is_supply n) h
    node-same (Inner n j p) (Some Environment) h = refl
    node-same (Fixed b) (Some Environment) h = refl

    switch-same : (p : Path) (x g : Name) (c : Option CellView) → Agree (switch_keys w p x g c) → switch_equation w A regs p x g c ≡ switch_equation w B regs p x g c
    switch-same p x g None h = refl
    switch-same p x g (Some c) h = switched-same p x c regs (switched_of (pg_named c g)) h

pub looks : (w : Powered) (ev : PinEvent) (regs : Registers) → LooksAt keys (reads w) (pin_equation w ev regs)
looks w ev regs (Signal k) A B h = ap (λ x. Logic x) (node-same w A B ev regs k (source_of w.structure k) h)
looks w ev regs (Supply (FromTop n)) A B h = refl
looks w ev regs (Supply (FromSwitched p x g)) A B h = ap (λ x. State x) (switch-same w A B ev regs p x g (cell_at w.structure p x) h)
