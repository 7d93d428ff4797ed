-- The cell of an operator shows what the operator makes of the value at its data pin.
use Rattle.std.proofs.Common.{◌≡◌, ℕ, true, false, ◌&&◌, List, [], ◌∷◌, Option, Some, None, inl, inr, refl, sym, ap, ◌∙◌, subst, arith}
use Rattle.std.specs.Prelude.{option_and_then, slice_get}
use Rattle.std.proofs.lemmas.Option.{slice_get_within}
use Rattle.std.proofs.lemmas.Bool.{and_parts}
use Rattle.lp_tern.specs.declared.tern.Tern.{Tern}
use Rattle.lp_tern.specs.Values.{choose_of}
use Rattle.lp_model.specs.declared.library.PgKind.{PgKind}
use Rattle.lp_model.specs.declared.library.PgKind.TheVariants as kinds
use Rattle.lp_model.specs.NetlistView.{ModuleView}
use Rattle.lp_model.specs.LibraryView.{PgPinView, PinView}
use Rattle.lp_behaviour.specs.Signals.{known}
use Rattle.lp_spec_design.specs.Keys.{Node, Inner, Outer, Fixed, Source, CellPin, SwitchedPin, Environment, From}
use Rattle.lp_spec_design.specs.Netlists.{Structure}
use Rattle.lp_spec_design.specs.Instances.{Placed}
use Rattle.lp_spec_design.specs.Nodes.{fuel_of}
use Rattle.lp_spec_design.specs.Graph.{source_of}
use Rattle.lp_spec_design.specs.Intents.{SetNumber, Strategy}
use Rattle.lp_spec_design.specs.Chains.{Operator, Clamp, Shift}
use Rattle.lp_spec_design.specs.Winners.{IsIn}
use Rattle.lp_spec_design.specs.Settled.{Assignment, Event, Registers, state_of, set_on, kept, sensed, active_at, clamped, through, rail_of, node_at_pin}
use Rattle.lp_spec_pins.specs.Pins.{Powered, PinAssignment, Pair, begins, is_input_pin, is_data, driver_begun, driving, pin_supply_begun, driving_pin, input_value, pin_value, pins_read, cell_output_at, state_of_pg, state_from, is_unfit}
use Rattle.lp_spec_pins.specs.Supplied.{is_supplied}
use Rattle.lp_spec_network.specs.Pairs.{pairs_of}
use Rattle.lp_spec_fit.specs.Needs.{ClampNeed, ShifterNeed}
use Rattle.lp_spec_fit.specs.Joins.{shifter_joins}
use Rattle.lp_spec_fit.specs.Fits.{is_iso_data, is_iso_enable}
use Rattle.lp_spec_realises.specs.Projects.{Project, network_of, design_of}
use Rattle.lp_spec_realises.specs.ProjectNetlists.{netlist_of}
use Rattle.lp_spec_realises.specs.Operators.{OperatorAt, all_operators, chain_of, Placement, placed_operator}
use Rattle.lp_spec_realises.specs.Ends.{End, wire_end, some_end, end_at_pin, intended, output_end}
use Rattle.lp_spec_realises.specs.Surroundings.{powered_of}
use Rattle.lp_spec_realises.specs.Realises.{data_pin, data_intended, Realises}
use Rattle.lp_spec_cells.proofs.Operators.{clamp-shows, shifter-shows}
use Rattle.lp_spec_cells.proofs.RelatedPins.{clamp-relates}
use Rattle.lp_spec_cells.specs.Joined.{on_in}
use Rattle.lp_spec_cells.specs.Sound.{is_power_kind, is_kind_at, has_related}
use Rattle.lp_spec_voltages.specs.Powers.{is_supply_kind, is_supply_pin}
use Rattle.lp_spec_voltages.specs.Voltages.{IsFedWithin, power_state, IsNeverUnder, StandsShifter}
use Rattle.lp_spec_voltages.proofs.Chains.{shifter-rail, by-output}
use Rattle.lp_spec_voltages.proofs.Controls.{enable-not_under}
use Rattle.lp_spec_voltages.proofs.Readers.{clamp-not_under}
use Rattle.lp_spec_voltages.proofs.Readings.{power-is}
use Rattle.lp_spec_voltages.proofs.Shifters.{never-unfit, reads-data}
use Rattle.lp_spec_agreement.specs.Alike.{supply_of_end, pair_of_end, supply_behind_bit, LostWith}
use Rattle.lp_spec_agreement.specs.Cells.{Meet, value_there, OperatorsAgree}
use Rattle.lp_spec_agreement.specs.Faultless.{IsFaultless}
use Rattle.lp_spec_agreement.proofs.Apart.{all_in}
use Rattle.lp_spec_agreement.proofs.ByCells.{frame}
use Rattle.lp_spec_agreement.proofs.Chains.{operator_of, in_numbered, data_is}
use Rattle.lp_spec_agreement.proofs.Driven.{At, at_node, at_reach}
use Rattle.lp_spec_agreement.proofs.Framed.{pin_found, fuel}
use Rattle.lp_spec_agreement.proofs.Joined.{supply_is, driving_is}
use Rattle.lp_spec_agreement.proofs.OperatorCells.{only_in, clamp_cell, ShiftCell, shift_cell}
use Rattle.lp_spec_agreement.proofs.PinEnds.{data_end, enable_end}
use Rattle.lp_spec_agreement.proofs.PinsDriven.{ends_driven, pin_reads}
use Rattle.lp_spec_agreement.proofs.Reading.{comes, apart, fed_within}
use Rattle.lp_spec_agreement.proofs.SourceCells.{set_on_is}

pub no_commands : ℕ → ℕ
no_commands k = 0

module _ (p : Project) (good : IsFaultless p) (modules : List ModuleView) (real : Realises p modules) (supplied : is_supplied (powered_of p modules real.placement) ≡ true) (ev : Event) (regs : Registers) (A : Assignment) (B : PinAssignment) (m : Meet p modules real.placement ev A B) where
  abbrev place : Placement
  place = real.placement

  abbrev W : Structure
  W = netlist_of p modules

  abbrev w : Powered
  w = powered_of p modules real.placement

  abbrev Placed_at : End → Option ℕ → Type 0
  Placed_at e rail = At p good modules real.placement (frame p good modules real) B A e rail

  -- what reaches an operator
  data_placed : (o : OperatorAt) → IsIn o (all_operators p) → Placed_at (data_intended p W place o) (supply_behind_bit p o.bit o.number)
  data_placed o h =
      let of = operator_of p o h in
      let few = slice_get_within (chain_of p o.bit) o.number o.operator of.1 in
      subst (λ e. Placed_at e (supply_behind_bit p o.bit o.number)) (sym (data_is p W place o))
      (at_reach p good modules place (frame p good modules real) B A (ends_driven p good modules real supplied ev A B m) o.bit of.0 o.number (omega (arith, few)))

  clamp_gives : (o : OperatorAt) (h : IsIn o (all_operators p)) (t : ℕ) (i : SetNumber) → o.operator ≡ Clamp t i
      → value_there p modules place ev regs B (output_end W (placed_operator place o)) ≡ through (network_of p) p.intent A (m.alike.carried (data_intended p W place o)) (Clamp t i ∷ [])
  clamp_gives o h t i op =
      let s = clamp_cell p good modules real supplied o h t i op in
      let a = placed_operator place o in
      let need : ClampNeed = record { supply = s.pins.supply; place = s.pins.home; clamp = s.pins.strategy.clamp; high = s.pins.strategy.high; mapped = None } in
      let d = only_in (λ (q : PinView). is_input_pin q && is_iso_data q) s.cell.pins s.pins.d s.pins.is_d in
      let e = only_in (λ (q : PinView). is_input_pin q && is_iso_enable q) s.cell.pins s.pins.e s.pins.is_e in
      let fed = fed_within p good modules real ev A B m in
      let supply : power_state p A (Some i) ≡ state_of A s.pins.supply.power.0 = power-is p A (Some i) s.pins.supply s.pins.is_supply in
      let power_d = ap (λ (z : Pair). z.power) (clamp-relates need s.cell s.pins.fits w B a.path a.instance (comes p good modules real) (state_of A) s.joins m.alike.origins s.pins.d d.0) ∙ sym supply in
      let power_e = ap (λ (z : Pair). z.power) (clamp-relates need s.cell s.pins.fits w B a.path a.instance (comes p good modules real) (state_of A) s.joins m.alike.origins s.pins.e e.0) ∙ sym supply in
      let reads_d = pin_reads p good modules real supplied ev A B m a.path a.instance s.cell s.pins.d.name s.pins.d (pin_found s.cell s.sound s.pins.d d.0) (and_parts (is_input_pin s.pins.d) (is_iso_data s.pins.d) d.1).0
      (data_intended p W place o) (data_end p good modules real o h s.cell s.is_cell s.pins.d (ap (λ (z : Operator). data_pin z s.cell) op ∙ s.pins.is_d)) (supply_behind_bit p o.bit o.number) (data_placed o h)
      (subst (λ z. IsNeverUnder p.margin (power_state p A (supply_behind_bit p o.bit o.number)) z) (sym power_d) (clamp-not_under p ev A fed good.states good.levels o t i h op)) in
      let end = enable_end p good modules real o h t i op s.cell s.is_cell in
      let some_pin : Some s.pins.e ≡ Some end.pin = sym s.pins.is_e ∙ end.is_pin in
      let same_pin : end.pin ≡ s.pins.e = cc in
      let control : s.pins.strategy.control ≡ Some end.node = ap (option_and_then (λ (x : Strategy). x.control)) (sym s.pins.is_strategy) ∙ end.is_node in
      let reads_e = pin_reads p good modules real supplied ev A B m a.path a.instance s.cell s.pins.e.name s.pins.e (pin_found s.cell s.sound s.pins.e e.0) (and_parts (is_input_pin s.pins.e) (is_iso_enable s.pins.e) e.1).0
      (intended p W place end.node) (ap (λ (z : PinView). end_at_pin W (fuel_of W) a.path a.instance z.name) (sym same_pin) ∙ end.end) (rail_of (design_of p) end.node)
      (at_node p good modules place (frame p good modules real) B A (ends_driven p good modules real supplied ev A B m) end.node)
      (subst (λ z. IsNeverUnder p.margin (power_state p A (rail_of (design_of p) end.node)) z) (sym power_e) (enable-not_under p ev A fed good.states no_commands (good.control_levels no_commands) o t i s.pins.strategy end.node h op s.pins.is_strategy control)) in
      ap (value_there p modules place ev regs B) s.out
      ∙ (ap (cell_output_at w B regs a.path a.instance s.pins.y.name) s.is_cell
      ∙ (clamp-shows need s.cell s.pins.fits s.sound.sound s.pins.d s.pins.e s.pins.y s.pins.is_d s.pins.is_e s.pins.is_y w B a.path a.instance (comes p good modules real) (state_of A) s.joins (apart p good modules real) m.alike.origins regs
      ∙ ((λ r. kept (sym (set_on_is p A (Some i) s.pins.supply s.pins.is_supply) r) (choose_of (sensed s.pins.strategy.high ((reads_e ∙ m.alike.nodes end.node) r)) (known s.pins.strategy.clamp) (reads_d r)))
      ∙ ((λ r. kept (set_on (network_of p) A (Some i)) (choose_of (active_at A s.pins.strategy.high (sym control r)) (known s.pins.strategy.clamp) (m.alike.carried (data_intended p W place o))))
      ∙ ap (λ z. kept (set_on (network_of p) A (Some i)) (clamped A z (m.alike.carried (data_intended p W place o)))) (sym s.pins.is_strategy)))))

  -- ---- level shifters

  is_supply_kind_too : (k : PgKind) → is_power_kind k ≡ true → is_supply_kind k ≡ true
  is_supply_kind_too kinds.PrimaryPower e = refl
  is_supply_kind_too kinds.BackupPower e = refl
  is_supply_kind_too kinds.InternalPower e = refl
  is_supply_kind_too kinds.PrimaryGround e = e
  is_supply_kind_too kinds.BackupGround e = e
  is_supply_kind_too kinds.InternalGround e = e
  is_supply_kind_too kinds.Nwell e = e
  is_supply_kind_too kinds.Pwell e = e
  is_supply_kind_too kinds.Deepnwell e = e
  is_supply_kind_too kinds.Deeppwell e = e

  is_supply_at : (g : Option PgPinView) → is_kind_at is_power_kind g ≡ true → is_supply_pin g ≡ true
  is_supply_at None e = e
  is_supply_at (Some g) e = is_supply_kind_too g.kind e

  begun_drives : (r : Pair) (j : Node) (o : Option Source) → pin_supply_begun w B o ≡ Some r → driver_begun w B j o ≡ Some r
  begun_drives r j None e = absurd cc
  begun_drives r j (Some (SwitchedPin q x v)) e = absurd cc
  begun_drives r j (Some Environment) e = absurd cc
  begun_drives r j (Some (From way i)) e = absurd cc
  begun_drives r (Inner n i q) (Some (CellPin y x v)) e = e
  begun_drives r (Outer n i) (Some (CellPin y x v)) e = e
  begun_drives r (Fixed b) (Some (CellPin y x v)) e = e

  module _ (o : OperatorAt) (h : IsIn o (all_operators p)) (t : ℕ) (a b : SetNumber) (op : o.operator ≡ Shift t a b) (s : ShiftCell p good modules real supplied o a b) where
    abbrev stand : Placed
    stand = placed_operator real.placement o

    abbrev need : ShifterNeed
    need = record { input = s.pins.input; output = s.pins.output; pairs = pairs_of p.supplies s.pins.input.power.0 s.pins.output.power.0; margin = p.margin; mapped = None }

    joined_state : (k : ℕ) (g : PgPinView) (q : ℕ) → slice_get s.cell.pgs k ≡ Some g → shifter_joins s.pins.input s.pins.output s.pins.d s.pins.y k g ≡ Some q → state_of_pg w B stand.path stand.instance (Some g) ≡ state_of A q
    joined_state k g q e j =
        let at = s.joins.each k g (in_numbered 0 k g s.cell.pgs e k (omega arith)) in
        let some : Some q ≡ Some at.origin = sym j ∙ at.joins in
        let same : at.origin ≡ q = cc in
        ap (state_from B) (at.pin ∙ sym at.comes) ∙ (m.alike.origins at.origin ∙ ap (state_of A) same)

    stands : StandsShifter p A w B stand.path stand.instance s.cell s.pins.input s.pins.output s.pins.d s.pins.y
    stands =
        let d = only_in (λ (q : PinView). is_input_pin q && is_data q) s.cell.pins s.pins.d s.pins.is_d in
        record {
          input = a;
          output = b;
          input_set = s.pins.is_input;
          output_set = s.pins.is_output;
          fits = s.pins.fits;
          data_is = s.pins.is_d;
          output_is = s.pins.is_y;
          powered = is_supply_at (slice_get s.cell.pgs s.pins.d.power) (and_parts (is_kind_at is_power_kind (slice_get s.cell.pgs s.pins.d.power)) _ (all_in (has_related s.cell) s.pins.d s.cell.pins s.sound.sound.related d.0)).0;
          joined = joined_state;
        }

    data_at : end_at_pin W (fuel_of W) stand.path stand.instance s.pins.d.name ≡ data_intended p W place o
    data_at = data_end p good modules real o h s.cell s.is_cell s.pins.d (ap (λ (z : Operator). data_pin z s.cell) op ∙ s.pins.is_d)

    rail_at : supply_behind_bit p o.bit o.number ≡ Some a
    rail_at = shifter-rail p o t a b h op

    wire_at : (k : Node) → node_at_pin W stand.path stand.instance s.pins.d.name ≡ Some k → wire_end W (fuel_of W) k ≡ data_intended p W place o
    wire_at k e = sym (ap (some_end W (fuel_of W)) e) ∙ data_at

    data_power : (k : Node) → node_at_pin W stand.path stand.instance s.pins.d.name ≡ Some k → (r : Pair) → driving w B k ≡ Some r → r.power ≡ state_of A s.pins.input.power.0
    data_power k e r given =
        let at = data_placed o h in
        at.power r (ap (pair_of_end w B) (sym (wire_at k e)) ∙ (sym (driving_is w (fuel p good modules real) B k) ∙ given))
        ∙ (ap (power_state p A) rail_at ∙ power-is p A (Some a) s.pins.input s.pins.is_input)

    fed : IsFedWithin p ev A
    fed = fed_within p good modules real ev A B m

    never_outside : is_unfit w B stand.path stand.instance s.cell s.pins.y ≡ false
    never_outside = never-unfit p ev A fed good.states w B stand.path stand.instance s.cell s.pins.input s.pins.output s.pins.d s.pins.y stands (by (node_at_pin W stand.path stand.instance s.pins.d.name) refl)
      where
        by : (n : Option Node) → node_at_pin W stand.path stand.instance s.pins.d.name ≡ n → (r : Pair) → driving_pin w B (node_at_pin W stand.path stand.instance s.pins.d.name) ≡ Some r → r.power ≡ state_of A s.pins.input.power.0
        by None e r given = let none : None ≡ Some r = sym (ap (driving_pin w B) e) ∙ given in absurd cc
        by (Some k) e r given = data_power k e r (begun_drives r (begins w k) (source_of W (begins w k)) (sym (ap (driving_pin w B) e) ∙ given))

    reads : pins_read w B stand.path stand.instance s.cell s.pins.d.name ≡ m.alike.carried (data_intended p W place o)
    reads =
        let d = only_in (λ (q : PinView). is_input_pin q && is_data q) s.cell.pins s.pins.d s.pins.is_d in
        ap (λ z. pin_value w B stand.path stand.instance s.cell z (node_at_pin W stand.path stand.instance s.pins.d.name)) (pin_found s.cell s.sound s.pins.d d.0)
        ∙ by (and_parts (is_input_pin s.pins.d) (is_data s.pins.d) d.1).0 (node_at_pin W stand.path stand.instance s.pins.d.name) refl
      where
        by : is_input_pin s.pins.d ≡ true → (n : Option Node) → node_at_pin W stand.path stand.instance s.pins.d.name ≡ n → pin_value w B stand.path stand.instance s.cell (Some s.pins.d) n ≡ m.alike.carried (data_intended p W place o)
        by input None e = sym m.alike.nowhere ∙ ap m.alike.carried (sym (ap (some_end W (fuel_of W)) e) ∙ data_at)
        by input (Some k) e =
            ap (input_value w B stand.path stand.instance s.cell s.pins.d k) input
            ∙ (reads-data p ev A fed good.states w B stand.path stand.instance s.cell s.pins.input s.pins.output s.pins.d s.pins.y stands refl k (supply_is w (fuel p good modules real) k ∙ (ap (supply_of_end w) (wire_at k e) ∙ (data_placed o h).unsupplied)) (data_power k e)
            ∙ (m.alike.values k ∙ ap m.alike.carried (wire_at k e)))

    abbrev v : Tern
    v = m.alike.carried (data_intended p (netlist_of p modules) real.placement o)

    on_a : set_on (network_of p) A (Some a) ≡ on_in (state_of A) s.pins.input
    on_a = set_on_is p A (Some a) s.pins.input s.pins.is_input

    on_b : set_on (network_of p) A (Some b) ≡ on_in (state_of A) s.pins.output
    on_b = set_on_is p A (Some b) s.pins.output s.pins.is_output

    pub shift_gives : LostWith p A (supply_behind_bit p o.bit o.number) v → value_there p modules place ev regs B (output_end W stand) ≡ through (network_of p) p.intent A v (Shift t a b ∷ [])
    shift_gives lost =
        ap (value_there p modules place ev regs B) s.out
        ∙ (ap (cell_output_at w B regs stand.path stand.instance s.pins.y.name) s.is_cell
        ∙ elim (shifter-shows need s.cell s.pins.fits s.sound.sound s.pins.d s.pins.y s.pins.is_d s.pins.is_y w B stand.path stand.instance (comes p good modules real) (state_of A) s.joins (apart p good modules real) m.alike.origins never_outside regs) [
          | inl both ↦ both ∙ (λ i. kept (sym on_a i && sym on_b i) (reads i))
          | inr one ↦ one ∙ ((λ i. kept (sym on_b i) (reads i)) ∙ sym (by-output (network_of p) p.intent A v t a b (λ off. lost a rail_at off)))
        ])

  gives : (o : OperatorAt) → IsIn o (all_operators p) → LostWith p A (supply_behind_bit p o.bit o.number) (m.alike.carried (data_intended p W place o)) → (op : Operator) → o.operator ≡ op
      → value_there p modules place ev regs B (output_end W (placed_operator place o)) ≡ through (network_of p) p.intent A (m.alike.carried (data_intended p W place o)) (op ∷ [])
  gives o h lost (Clamp t i) is = clamp_gives o h t i is
  gives o h lost (Shift t a b) is = shift_gives o h t a b is (shift_cell p good modules real supplied o h t a b is) lost

  pub operator_gives : (o : OperatorAt) → IsIn o (all_operators p) → LostWith p A (supply_behind_bit p o.bit o.number) (m.alike.carried (data_intended p W place o))
      → value_there p modules place ev regs B (output_end W (placed_operator place o)) ≡ through (network_of p) p.intent A (m.alike.carried (data_intended p W place o)) (o.operator ∷ [])
  operator_gives o h lost = gives o h lost o.operator refl

pub operators_agree : (p : Project) (good : IsFaultless p) (modules : List ModuleView) (real : Realises p modules) → is_supplied (powered_of p modules real.placement) ≡ true → OperatorsAgree p modules real.placement
operators_agree p good modules real supplied ev regs A B m o h lost = operator_gives p good modules real supplied ev regs A B m o h lost
