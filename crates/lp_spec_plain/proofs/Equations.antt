-- The equations of a plain design under its intent and those of a netlist that carries it say the same.
use Rattle.std.proofs.Common.{◌≡◌, ℕ, Bool, true, false, not, ◌&&◌, List, [], ◌∷◌, Option, Some, None, ◌⊎◌, inl, inr, refl, sym, ◌∙◌, ap, subst}
use Rattle.std.specs.Prelude.{option_and_then, if◌then◌else◌}
use Rattle.std.proofs.lemmas.Bool.{false≢true}
use Rattle.lp_tern.specs.declared.tern.Tern.TheVariants.{X}
use Rattle.lp_model.specs.LibraryView.{ExprView, PinView, CellView}
use Rattle.lp_spec_design.specs.Keys.{Name, Path, Node, Inner, Outer, Fixed, Way, Source, CellPin, SwitchedPin, Environment, From}
use Rattle.lp_spec_design.specs.Netlists.{cell_at}
use Rattle.lp_spec_design.specs.Nodes.{fuel_of}
use Rattle.lp_spec_design.specs.Graph.{source_of, trail}
use Rattle.lp_spec_design.specs.Intents.{SetNumber, SupplySet}
use Rattle.lp_spec_design.specs.Domains.{start_rail, source_supply}
use Rattle.lp_spec_design.specs.Chains.{rail_along, rail_after}
use Rattle.lp_spec_design.specs.Settled.{Assignment, Design, Event, Registers, at, state_of, is_on, both_on, set_at, set_on, sets_under, is_under, kept, through, pin_named, output_by, output_of, node_equation, pins_at, rail_of}
use Rattle.lp_spec_design.specs.Runs.{shown}
use Rattle.lp_spec_pins.specs.Pins.{FromTop, Powered, PinAssignment, PinEvent, pair_on, signal_at, state_from, read_by, is_up, is_data, is_unfit, is_unfit_at, output_at, cell_output_at, top_input, signal_equation, pins_read, input_for}
use Rattle.lp_spec_pins.specs.Runs.{shown_by_pins}
use Rattle.lp_spec_plain.specs.Cells.{follows}
use Rattle.lp_spec_plain.specs.Designs.{supply_at, driver_of, receiver_of, IsPlain}
use Rattle.lp_spec_plain.specs.Carried.{Carries}
use Rattle.lp_spec_plain.proofs.Down.{up_where_on}
use Rattle.lp_spec_plain.proofs.Reading.{under_self, kept-lost, promises, pin_follows, apart_too, ports, driver_ports, receiver_ports, read_as_is, pins-same, output-same}

module _ (d : Design) (one : SupplySet) (plain : IsPlain d one) (w : Powered) (own : Node → Bool) (power gnd : Name) (carries : Carries d w own power gnd) where
  -- two assignments, one of each side, with the same values at the nodes of the design and the same states of the one supply
  pub record Alike (A : Assignment) (B : PinAssignment) : Type 0 where
    pub same : (k : Node) → own k ≡ true → signal_at B k ≡ at A k
    pub power_same : state_from B (Some (FromTop power)) ≡ state_of A one.power
    pub ground_same : state_from B (Some (FromTop gnd)) ≡ state_of A one.gnd

  module _ (A : Assignment) (B : PinAssignment) (alike : Alike A B) where
    pub on_same : (r : Option SetNumber) → set_at d.network r ≡ Some one → pair_on (ports d one plain w own power gnd carries B) ≡ set_on d.network A r
    on_same r is = (λ i. is_on (alike.power_same i) && is_on (alike.ground_same i)) ∙ sym (ap (both_on A) is)

    pub up_same : (p : Path) (x : Name) (c : CellView) → cell_at d.structure p x ≡ Some c → (f e : Option ExprView) → follows c f e ≡ true → (g : ExprView) → f ≡ Some g → is_up w B p x c e ≡ set_on d.network A (supply_at d p)
    up_same p x c cell None e fo g is = absurd cc
    up_same p x c cell (Some f) None fo g is = absurd (false≢true fo)
    up_same p x c cell (Some f) (Some e) fo g is =
        up_where_on c e fo w p x power gnd carries.apart (apart_too d one plain w own power gnd carries) (carries.cells_joined p x c cell) B
        ∙ on_same (supply_at d p) (plain.cells_supplied p)

    -- ---- cells

    module _ (regs : Registers) (p : Path) (x q : Name) where
      in_type : (c : CellView) → cell_at d.structure p x ≡ Some c → (v : PinView) → is_unfit w B p x c v ≡ false
      in_type c cell v = ap (λ f. is_unfit_at w B p x c v f (input_for is_data c)) (promises c (plain.cells_plain p x c cell)).no_shifter

      function_out : (c : CellView) → cell_at d.structure p x ≡ Some c → (v : PinView) → pin_named c q ≡ Some v → (f : Option ExprView) → v.function ≡ f
          → kept (is_up w B p x c v.power_down && not (is_unfit w B p x c v)) (output_by c (pins_read w B p x c) (regs p x) f) ≡ kept (set_on d.network A (supply_at d p)) (output_by c (pins_at d.structure A p x) (regs p x) f)
      function_out c cell v named None is = kept-lost (is_up w B p x c v.power_down && not (is_unfit w B p x c v)) ∙ sym (kept-lost (set_on d.network A (supply_at d p)))
      function_out c cell v named (Some f) is =
          (λ i. kept (up_same p x c cell v.function v.power_down (pin_follows c (plain.cells_plain p x c cell) q v named) f is i && not (in_type c cell v i))
          (output-same c (pins_read w B p x c) (pins_at d.structure A p x) (pins-same d one plain w own power gnd carries B A alike.same p x c cell) (regs p x) (Some f) i))
          ∙ ap (λ b. kept b (output_by c (pins_at d.structure A p x) (regs p x) (Some f))) (and_true (set_on d.network A (supply_at d p)))
        where
          and_true : (b : Bool) → (b && true) ≡ b
          and_true true = refl
          and_true false = refl

      pin_out : (c : CellView) → cell_at d.structure p x ≡ Some c → (v : Option PinView) → pin_named c q ≡ v
          → output_at w B regs p x c v ≡ kept (set_on d.network A (supply_at d p)) (output_by c (pins_at d.structure A p x) (regs p x) (option_and_then (λ (z : PinView). z.function) v))
      pin_out c cell None named = sym (kept-lost (set_on d.network A (supply_at d p)))
      pin_out c cell (Some v) named = function_out c cell v named v.function refl

      cell_out : (c : Option CellView) → cell_at d.structure p x ≡ c → cell_output_at w B regs p x q c ≡ kept (set_on d.network A (supply_at d p)) (output_of d.structure A regs p x q c)
      cell_out None cell = sym (kept-lost (set_on d.network A (supply_at d p)))
      cell_out (Some c) cell = pin_out c cell (pin_named c q) refl

    -- ---- nodes

    module _ (ev : Event) (pe : PinEvent) (inputs : ev.inputs ≡ pe.inputs) (regs : Registers) where
      from_port : (n : Name) (j : Option ℕ) → own (Outer n j) ≡ true → source_of d.structure (Outer n j) ≡ Some Environment → top_input w pe B n j (w.around.is_supply n) ≡ kept (set_on d.network A (start_rail d.structure d.intent (Outer n j))) (ev.inputs n j)
      from_port n j e is =
          ap (top_input w pe B n j) (carries.ports_own n j e)
          ∙ ((λ i. kept (pair_on (driver_ports d one plain w own power gnd carries B n i)) (sym inputs i n j))
          ∙ (ap (λ b. kept b (ev.inputs n j)) (on_same (driver_of d n) (plain.drivers_supplied n))
          ∙ ap (λ o. kept (set_on d.network A (source_supply d.intent (Outer n j) o)) (ev.inputs n j)) (sym is)))

      node_same : (k : Node) → own k ≡ true → (o : Option Source) → source_of d.structure k ≡ o → signal_equation w pe regs B k o ≡ node_equation d ev regs A k o
      node_same k e None is = refl
      node_same k e (Some (CellPin p x q)) is = ap (cell_output_at w B regs p x q) (carries.same_cell p x) ∙ cell_out regs p x q (cell_at d.structure p x) refl
      node_same k e (Some (SwitchedPin p x g)) is = refl
      node_same (Outer n j) e (Some Environment) is = from_port n j e is
      node_same (Inner n j p) e (Some Environment) is = refl
      node_same (Fixed b) e (Some Environment) is = refl
      node_same k e (Some (From way j)) is =
          alike.same j (carries.from_own k j way e is)
          ∙ ap (through d.network d.intent A (at A j)) (sym (plain.no_operator way (rail_of d j)))

      pub signal_same : (k : Node) → own k ≡ true → signal_equation w pe regs B k (source_of w.structure k) ≡ node_equation d ev regs A k (source_of d.structure k)
      signal_same k e = ap (signal_equation w pe regs B k) (carries.same_source k e) ∙ node_same k e (source_of d.structure k) refl

    -- ---- outputs

    abbrev IsOne : Option SetNumber → Type 0
    IsOne r = (set_at d.network r ≡ None) ⊎ (set_at d.network r ≡ Some one)

    rail_begun : (k : Node) (o : Option Source) → IsOne (source_supply d.intent k o)
    rail_begun k (Some (CellPin p x q)) = inr (plain.cells_supplied p)
    rail_begun (Outer n j) (Some Environment) = inr (plain.drivers_supplied n)
    rail_begun (Inner n j p) (Some Environment) = inl refl
    rail_begun (Fixed b) (Some Environment) = inl refl
    rail_begun k None = inl refl
    rail_begun k (Some (SwitchedPin p x g)) = inl refl
    rail_begun k (Some (From way j)) = inl refl

    rail_one : (k : Node) (back : List (Way × Node)) → IsOne (rail_along d.structure d.network d.intent (fuel_of d.structure) k back)
    rail_one k [] = rail_begun k (source_of d.structure k)
    rail_one k (step ∷ back) =
        subst (λ operators. IsOne (rail_after (rail_along d.structure d.network d.intent (fuel_of d.structure) step.1 back) operators))
        (sym (plain.no_operator step.0 (rail_along d.structure d.network d.intent (fuel_of d.structure) step.1 back)))
        (rail_one step.1 back)

    not_under : (r : Option SetNumber) → IsOne r → (n : Name) → is_under d.network A r (receiver_of d n) ≡ false
    not_under r (inl e) n = ap (λ s. sets_under d.network.margin A s (set_at d.network (receiver_of d n))) e
    not_under r (inr e) n =
        (λ i. sets_under d.network.margin A (e i) (plain.receivers_supplied n i))
        ∙ under_self (state_of A one.power) (state_of A one.gnd) d.network.margin

    pub output_same : (b : Name × Option ℕ) → own (Outer b.0 b.1) ≡ true → shown d A b ≡ shown_by_pins w B b
    output_same b e =
        ap (λ u. if u then X else at A (Outer b.0 b.1)) (not_under (rail_of d (Outer b.0 b.1)) (rail_one (Outer b.0 b.1) (trail d.structure (fuel_of d.structure) (Outer b.0 b.1))) b.0)
        ∙ sym (ap (read_by w B (Outer b.0 b.1)) (receiver_ports d one plain w own power gnd carries B b.0)
        ∙ (read_as_is d one plain w own power gnd carries B (Outer b.0 b.1) e
        ∙ alike.same (Outer b.0 b.1) e))
