-- The wire at each input pin of the netlist begins where a node of the source has to begin, at the output of an operator's cell, or nowhere.
use Rattle.std.proofs.Common.{◌≡◌, ◌⊎◌, ◌≤◌, ℕ, zero, suc, Bool, true, false, not, ◌&&◌, ◌==◌, List, [], ◌∷◌, length, Option, Some, None, inl, inr, refl, sym, ap, ◌∙◌, subst, arith}
use Rattle.std.specs.Prelude.{bytes_eq, filter, is_some, if◌then◌else◌, slice_get}
use Rattle.std.proofs.lemmas.Option.{slice_get_within}
use Rattle.std.proofs.lemmas.Bool.{and_parts, false≢true, eqb-true}
use Rattle.lp_model.specs.declared.library.Action.{Action}
use Rattle.lp_model.specs.declared.supply.SetOrigins.{SetOrigins}
use Rattle.lp_model.specs.declared.netlist.Direction.{Direction}
use Rattle.lp_model.specs.declared.netlist.Direction.TheVariants.{Input, Output}
use Rattle.lp_model.specs.NetlistView.{ModuleView}
use Rattle.lp_model.specs.LibraryView.{SwitchedView, PinView, CellView}
use Rattle.lp_spec_design.specs.Keys.{Name, Node, same_bool, same_node}
use Rattle.lp_spec_design.specs.Netlists.{Structure}
use Rattle.lp_spec_design.specs.Instances.{Placed, cell_instances}
use Rattle.lp_spec_design.specs.Nodes.{fuel_of}
use Rattle.lp_spec_design.specs.Graph.{is_output_pin}
use Rattle.lp_spec_design.specs.Intents.{Strategy}
use Rattle.lp_spec_design.specs.Domains.{BoundaryBit, boundary, node_before}
use Rattle.lp_spec_design.specs.Chains.{Operator, Clamp, Shift}
use Rattle.lp_spec_design.specs.Winners.{IsIn}
use Rattle.lp_spec_design.specs.Reads.{name-true}
use Rattle.lp_spec_design.specs.Registers.{retention}
use Rattle.lp_spec_design.specs.Settled.{pin_named, node_at_pin}
use Rattle.lp_spec_design.proofs.Members.{of-filter}
use Rattle.lp_spec_design.proofs.Sources.{first_in}
use Rattle.lp_spec_pins.specs.Pins.{is_input_pin, is_data, input_for, only}
use Rattle.lp_spec_network.specs.Pairs.{pairs_of}
use Rattle.lp_spec_fit.specs.Needs.{ClampNeed, ShifterNeed, SwitchCellNeed, RegisterNeed}
use Rattle.lp_spec_fit.specs.Joins.{Joins, clamp_joins}
use Rattle.lp_spec_fit.specs.Fits.{is_usable, only_isolates, only_shifts, only_retains, is_iso_data, is_iso_enable, is_switch_pin, is_retention_pin, plain_pins, one_output, fits_clamp, fits_with_pins, fits_shifter, shifts_with_pins, takes_pairs, switches_with, switched_pins, same_pin, has_pins_of, has_exactly_pins_of, fits_register}
use Rattle.lp_spec_realises.specs.Projects.{Project, functions_of, on_expression}
use Rattle.lp_spec_realises.specs.ProjectNetlists.{netlist_of}
use Rattle.lp_spec_realises.specs.Operators.{OperatorAt, all_operators, SwitchAt, all_switches, chain_of, Placement, placed_operator, placed_switch}
use Rattle.lp_spec_realises.specs.Ends.{End, Nowhere, end_at_pin, output_end, intended, some_intended}
use Rattle.lp_spec_realises.specs.Realises.{cell_of, primary_at, clamp_fits, shifter_fits, operator_fits, switch_fits, takes_place, register_fits, data_pin, data_intended, Realises}
use Rattle.lp_spec_agreement.specs.Faultless.{IsSoundCell, IsFaultless}
use Rattle.lp_spec_agreement.proofs.Apart.{all_in}
use Rattle.lp_spec_agreement.proofs.Chains.{get_there, operator_in, operator_of, reach, data_is}
use Rattle.lp_spec_agreement.proofs.Framed.{pin_found, operator_stands_at}
use Rattle.lp_spec_agreement.proofs.Placed.{passed_cell}
use Rattle.lp_spec_agreement.proofs.Roles.{Role, TakesPlace, takes, same_cell}
use Rattle.lp_spec_agreement.proofs.PinEnds.{only_one, data_or_enable, is_the_data, source_end, retention_end, data_end, enable_end, switch_control_end}
use Rattle.lp_spec_agreement.proofs.Supplied.{switch_cell, only_is}

-- ---- the pins of cells that fit

pub record ClampPins (a b : Option SetOrigins) (t : Option Strategy) (c : CellView) : Type 0 where
  pub supply : SetOrigins
  pub home : SetOrigins
  pub strategy : Strategy
  pub is_supply : a ≡ Some supply
  pub is_home : b ≡ Some home
  pub is_strategy : t ≡ Some strategy
  pub fits : fits_clamp (record { supply = supply; place = home; clamp = strategy.clamp; high = strategy.high; mapped = None }) c ≡ true
  pub d : PinView
  pub e : PinView
  pub y : PinView
  pub is_d : input_for is_iso_data c ≡ Some d
  pub is_e : input_for is_iso_enable c ≡ Some e
  pub is_y : one_output c ≡ Some y
  pub three : length c.pins ≡ 3

pub record ShifterPins (p : Project) (a b : Option SetOrigins) (c : CellView) : Type 0 where
  pub input : SetOrigins
  pub output : SetOrigins
  pub is_input : a ≡ Some input
  pub is_output : b ≡ Some output
  pub fits : fits_shifter (record { input = input; output = output; pairs = pairs_of p.supplies input.power.0 output.power.0; margin = p.margin; mapped = None }) c ≡ true
  pub d : PinView
  pub y : PinView
  pub is_d : input_for is_data c ≡ Some d
  pub is_y : one_output c ≡ Some y
  pub two : length c.pins ≡ 2

clamp_three : (n : ClampNeed) (c : CellView) (join : Joins) (d e y : Option PinView) → fits_with_pins n c join d e y ≡ true → (x : PinView) × (z : PinView) × (q : PinView) × (d ≡ Some x) × (e ≡ Some z) × (y ≡ Some q)
clamp_three n c join (Some d) (Some e) (Some y) h = (d, e, y, refl, refl, refl)
clamp_three n c join None e y h = absurd (false≢true h)
clamp_three n c join (Some d) None y h = absurd (false≢true h)
clamp_three n c join (Some d) (Some e) None h = absurd (false≢true h)

shifter_two : (n : ShifterNeed) (c : CellView) (d y : Option PinView) → shifts_with_pins n c d y ≡ true → (x : PinView) × (q : PinView) × (d ≡ Some x) × (y ≡ Some q)
shifter_two n c (Some d) (Some y) h = (d, y, refl, refl)
shifter_two n c None y h = absurd (false≢true h)
shifter_two n c (Some d) None h = absurd (false≢true h)

pub clamp_pins : (a b : Option SetOrigins) (t : Option Strategy) (c : CellView) → clamp_fits a b t c ≡ true → ClampPins a b t c
clamp_pins None b t c h = absurd (false≢true h)
clamp_pins (Some a) None t c h = absurd (false≢true h)
clamp_pins (Some a) (Some b) None c h = absurd (false≢true h)
clamp_pins (Some a) (Some b) (Some t) c h =
    let n : ClampNeed = record { supply = a; place = b; clamp = t.clamp; high = t.high; mapped = None } in
    let first = and_parts (is_usable c) _ h in
    let second = and_parts (only_isolates c.roles) _ first.1 in
    let third = and_parts (not (is_some c.state)) _ second.1 in
    let fourth = and_parts (length c.pins == 3) _ third.1 in
    let pins = clamp_three n c (clamp_joins a b c) (input_for is_iso_data c) (input_for is_iso_enable c) (one_output c) fourth.1 in
    record {
      supply = a;
      home = b;
      strategy = t;
      is_supply = refl;
      is_home = refl;
      is_strategy = refl;
      fits = h;
      d = pins.0;
      e = pins.1;
      y = pins.2;
      is_d = pins.3;
      is_e = pins.4;
      is_y = pins.5;
      three = eqb-true (length c.pins) 3 fourth.0;
    }

pub shifter_pins : (p : Project) (a b : Option SetOrigins) (c : CellView) → shifter_fits p a b c ≡ true → ShifterPins p a b c
shifter_pins p None b c h = absurd (false≢true h)
shifter_pins p (Some a) None c h = absurd (false≢true h)
shifter_pins p (Some a) (Some b) c h =
    let n : ShifterNeed = record { input = a; output = b; pairs = pairs_of p.supplies a.power.0 b.power.0; margin = p.margin; mapped = None } in
    let first = and_parts (is_usable c) _ h in
    let second = and_parts (only_shifts c.roles) _ first.1 in
    let third = and_parts (not (is_some c.state)) _ second.1 in
    let fourth = and_parts (length c.pins == 2) _ third.1 in
    let fifth = and_parts (takes_pairs n.pairs c.roles.shifter) _ fourth.1 in
    let pins = shifter_two n c (input_for is_data c) (one_output c) fifth.1 in
    record { input = a; output = b; is_input = refl; is_output = refl; fits = h; d = pins.0; y = pins.1; is_d = pins.2; is_y = pins.3; two = eqb-true (length c.pins) 2 fourth.0 }

pub record RegisterPins (source : CellView) (a b : Option SetOrigins) (save restore : Option (Node × Action)) (c : CellView) : Type 0 where
  pub need : RegisterNeed
  pub of_source : need.source ≡ source
  pub is_primary : a ≡ Some need.primary
  pub is_kept : b ≡ Some need.retention
  pub save_node : Node
  pub restore_node : Node
  pub is_save : save ≡ Some (save_node, need.save)
  pub is_restore : restore ≡ Some (restore_node, need.restore)
  pub one : need.one_signal ≡ same_node save_node restore_node
  pub fits : fits_register need c ≡ true
  pub exactly : has_exactly_pins_of source c ≡ true

pub register_pins : (source : CellView) (a b : Option SetOrigins) (save restore : Option (Node × Action)) (c : CellView) → register_fits source a b save restore c ≡ true → RegisterPins source a b save restore c
register_pins source None b save restore c h = absurd (false≢true h)
register_pins source (Some a) None save restore c h = absurd (false≢true h)
register_pins source (Some a) (Some b) None restore c h = absurd (false≢true h)
register_pins source (Some a) (Some b) (Some save) None c h = absurd (false≢true h)
register_pins source (Some a) (Some b) (Some save) (Some restore) c h =
    let n : RegisterNeed = record { source = source; primary = a; retention = b; save = save.1; restore = restore.1; one_signal = same_node save.0 restore.0; mapped = None } in
    let first = and_parts (is_usable c) _ h in
    let second = and_parts (only_retains c.roles) _ first.1 in
    let third = and_parts (has_exactly_pins_of source c) _ second.1 in
    record { need = n; of_source = refl; is_primary = refl; is_kept = refl; save_node = save.0; restore_node = restore.0; is_save = refl; is_restore = refl; one = refl; fits = h; exactly = third.0 }

-- a pin beside the retention pins is one of the source's, of one direction
pub record IsPinOf (source : CellView) (q : PinView) : Type 0 where
  pub pin : PinView
  pub among : IsIn pin source.pins
  pub name : pin.name ≡ q.name
  pub named : pin_named source q.name ≡ Some pin
  pub same : same_bool (is_output_pin pin) (is_output_pin q) ≡ true

in_filter : {A : Type 0} (t : A → Bool) (xs : List A) (x : A) → IsIn x xs → t x ≡ true → IsIn x (filter t xs)
in_filter t [] x h e = absurd h
in_filter t (y ∷ xs) x h e = by (t y) refl (λ r. in_filter t xs x r e)
  where
    by : (b : Bool) → t y ≡ b → (IsIn x xs → IsIn x (filter t xs)) → IsIn x (if b then y ∷ filter t xs else filter t xs)
    by true f more = elim h [ inl is ↦ inl is | inr r ↦ inr (more r) ]
    by false f more = elim h [ inl is ↦ absurd (false≢true (sym f ∙ ap t (sym is) ∙ e)) | inr r ↦ more r ]

some_is : {A : Type 0} (o : Option A) → is_some o ≡ true → (x : A) × (o ≡ Some x)
some_is None e = absurd (false≢true e)
some_is (Some x) e = (x, refl)

pub plain_pin : (source c : CellView) → has_exactly_pins_of source c ≡ true → IsSoundCell c → (q : PinView) → IsIn q c.pins → is_retention_pin q ≡ false → IsPinOf source q
plain_pin source c exactly sound q h plain =
    let both = and_parts (has_pins_of source c) _ exactly in
    let there = some_is (pin_named source q.name) (all_in (λ (r : PinView). is_some (pin_named source r.name)) q (plain_pins c) both.1 (in_filter (λ (r : PinView). not (is_retention_pin r)) c.pins q h (ap not plain))) in
    let found = first_in (λ (r : PinView). bytes_eq r.name q.name) source.pins there.0 there.1 in
    let name = name-true there.0.name q.name found.1 in
    let same : same_pin source c there.0 (pin_named c there.0.name) ≡ true = all_in (λ (r : PinView). same_pin source c r (pin_named c r.name)) there.0 source.pins both.0 found.0 in
    let here : same_pin source c there.0 (Some q) ≡ true = ap (same_pin source c there.0) (sym (ap (pin_named c) name ∙ pin_found c sound q h)) ∙ same in
    record { pin = there.0; among = found.0; name = name; named = there.1; same = (and_parts (same_bool (is_output_pin there.0) (is_output_pin q)) _ (and_parts (not (is_retention_pin q)) _ here).1).0 }

pub input_as : (r q : PinView) → same_bool (is_output_pin r) (is_output_pin q) ≡ true → is_input_pin q ≡ true → is_input_pin r ≡ true
input_as r q e h = by r.direction refl q.direction refl
  where
    by : (d : Direction) → r.direction ≡ d → (f : Direction) → q.direction ≡ f → is_input_pin r ≡ true
    by Input is f g = rw is refl
    by Output is Input g = absurd (false≢true (rw (is, g) at e))
    by Output is Output g = absurd (false≢true (rw g at h))

module _ (p : Project) (good : IsFaultless p) (modules : List ModuleView) (real : Realises p modules) where
  abbrev place : Placement
  place = real.placement

  abbrev W : Structure
  W = netlist_of p modules

  abbrev pub KnownEnd : End → Type 0
  KnownEnd e =
      ((k : Node) × (e ≡ intended p (netlist_of p modules) real.placement k))
      ⊎ (((o : OperatorAt) × IsIn o (all_operators p) × (e ≡ output_end (netlist_of p modules) (placed_operator real.placement o))) ⊎ (e ≡ Nowhere))

  known_some : (n : Option Node) (e : End) → e ≡ some_intended p W place n → KnownEnd e
  known_some None e is = inr (inr is)
  known_some (Some k) e is = inl (k, is)

  known_reach : (b : BoundaryBit) → IsIn b (boundary p.structure p.intent) → (k : ℕ) → k ≤ length (chain_of p b) → (e : End) → e ≡ reach p W place b k → KnownEnd e
  known_reach b h zero few e is = inl (node_before p.structure b, is)
  known_reach b h (suc k) few e is =
      let o = get_there (chain_of p b) k (omega (arith, few)) in
      inr (inl (record { bit = b; number = k; operator = o.0 }, operator_in p b h k o.0 o.1, is))

  known_data : (o : OperatorAt) → IsIn o (all_operators p) → (e : End) → e ≡ data_intended p W place o → KnownEnd e
  known_data o h e is =
      let of = operator_of p o h in
      let few = slice_get_within (chain_of p o.bit) o.number o.operator of.1 in
      known_reach o.bit of.0 o.number (omega (arith, few)) e (is ∙ data_is p W place o)

  -- ---- cells of the source

  abbrev at_end : Placed → Name → End
  at_end a v = end_at_pin (netlist_of p modules) (fuel_of (netlist_of p modules)) a.path a.instance v

  retained_end : (a : Placed) → IsIn a (cell_instances p.structure) → (c : CellView) → cell_of W a ≡ Some c → IsSoundCell c → (of : TakesPlace p good modules real a c) → is_some of.source.state ≡ true → (t : Strategy)
      → retention p.intent a.path a.instance ≡ Some t → RegisterPins of.source (primary_at p a.path) (functions_of p t.supply) t.save t.restore c → (q : PinView) → IsIn q c.pins → is_input_pin q ≡ true → (b : Bool) → is_retention_pin q ≡ b → KnownEnd (at_end a q.name)
  retained_end a h c e sound of state t rt reg q hq input true is =
      let end = retention_end p good modules real a h of.source of.is_source state t rt c e q hq is in
      let same : end.pin ≡ q = some_same end.is_pin in
      inl (end.node, ap (λ (r : PinView). at_end a r.name) (sym same) ∙ end.end)
    where
      some_same : {r : PinView} → Some q ≡ Some r → r ≡ q
      some_same f = cc
  retained_end a h c e sound of state t rt reg q hq input false is =
      let pin = plain_pin of.source c reg.exactly sound q hq is in
      known_some (node_at_pin p.structure a.path a.instance pin.pin.name) (at_end a q.name)
      (ap (at_end a) (sym pin.name) ∙ source_end p good modules real a h of.source of.is_source pin.pin pin.among (input_as pin.pin q pin.same input))

  same_end_of : (a : Placed) → IsIn a (cell_instances p.structure) → (c : CellView) → cell_of p.structure a ≡ Some c → (q : PinView) → IsIn q c.pins → is_input_pin q ≡ true → KnownEnd (at_end a q.name)
  same_end_of a h c e q hq input = known_some (node_at_pin p.structure a.path a.instance q.name) (at_end a q.name) (source_end p good modules real a h c e q hq input)

  source_known : (a : Placed) → IsIn a (cell_instances p.structure) → (c : CellView) → cell_of W a ≡ Some c → IsSoundCell c → (of : TakesPlace p good modules real a c) → (q : PinView) → IsIn q c.pins → is_input_pin q ≡ true
      → (t : Option Strategy) → retention p.intent a.path a.instance ≡ t → takes_place p a t (Some of.source) c ≡ true → KnownEnd (at_end a q.name)
  source_known a h c e sound of q hq input None rt taken =
      let same = same_cell p good modules real a of.source c of.is_source e taken in
      same_end_of a h c (of.is_source ∙ ap (λ z. Some z) same) q hq input
  source_known a h c e sound of q hq input (Some t) rt taken = by (is_some of.source.state) refl taken
    where
      by : (b : Bool) → is_some of.source.state ≡ b → (if b then register_fits of.source (primary_at p a.path) (functions_of p t.supply) t.save t.restore c else bytes_eq of.source.name c.name) ≡ true → KnownEnd (at_end a q.name)
      by true state g = retained_end a h c e sound of state t rt (register_pins of.source (primary_at p a.path) (functions_of p t.supply) t.save t.restore c g) q hq input (is_retention_pin q) refl
      by false state g = let same = same_cell p good modules real a of.source c of.is_source e g in same_end_of a h c (of.is_source ∙ ap (λ z. Some z) same) q hq input

  -- ---- operators and switches

  operator_known : (o : OperatorAt) → IsIn o (all_operators p) → (c : CellView) → cell_of W (placed_operator place o) ≡ Some c → (q : PinView) → IsIn q c.pins → is_input_pin q ≡ true
      → (op : Operator) → o.operator ≡ op → operator_fits p (placed_operator place o).path op c ≡ true → KnownEnd (at_end (placed_operator place o) q.name)
  operator_known o h c e q hq input (Clamp t i) is fits =
      let pins = clamp_pins (functions_of p (Some i)) (primary_at p (placed_operator place o).path) (slice_get p.intent.strategies t) c fits in
      elim (data_or_enable c q hq input pins.d pins.e pins.y pins.three pins.is_d pins.is_e pins.is_y) [
        | inl d ↦
            known_data o h (at_end (placed_operator place o) q.name)
            (ap (λ (r : PinView). at_end (placed_operator place o) r.name) d ∙ data_end p good modules real o h c e pins.d (ap (λ (z : Operator). data_pin z c) is ∙ pins.is_d))
        | inr en ↦
            let end = enable_end p good modules real o h t i is c e in
            let some : Some pins.e ≡ Some end.pin = sym pins.is_e ∙ end.is_pin in
            let same : pins.e ≡ end.pin = cc in
            inl (end.node, ap (λ (r : PinView). at_end (placed_operator place o) r.name) (en ∙ same) ∙ end.end)
      ]
  operator_known o h c e q hq input (Shift t a b) is fits =
      let pins = shifter_pins p (functions_of p (Some a)) (functions_of p (Some b)) c fits in
      let d = is_the_data c q hq input pins.d pins.y pins.two pins.is_d pins.is_y in
      known_data o h (at_end (placed_operator place o) q.name)
      (ap (λ (r : PinView). at_end (placed_operator place o) r.name) d ∙ data_end p good modules real o h c e pins.d (ap (λ (z : Operator). data_pin z c) is ∙ pins.is_d))

  one_input : (n : SwitchCellNeed) (c : CellView) (r : Option PinView) (s : Option SwitchedView) → switches_with n c r s ≡ true → (q : PinView) × (r ≡ Some q)
  one_input n c (Some q) s h = (q, refl)
  one_input n c None s h = absurd (false≢true h)

  switch_known : (x : SwitchAt) → IsIn x (all_switches p) → (c : CellView) → cell_of W (placed_switch place x) ≡ Some c → switch_fits x c ≡ true → (q : PinView) → IsIn q c.pins → is_input_pin q ≡ true → KnownEnd (at_end (placed_switch place x) q.name)
  switch_known x h c e fits q hq input =
      let n : SwitchCellNeed = record { on = on_expression x.high; mapped = None } in
      let first = and_parts (is_usable c) _ fits in
      let second = and_parts c.roles.switch _ first.1 in
      let third = and_parts (not (is_some c.state)) _ second.1 in
      let one = one_input n c (only (filter is_input_pin c.pins)) (only (switched_pins c)) third.1 in
      let end = switch_control_end p good modules real x h c e in
      let among : IsIn end.pin (filter (λ (r : PinView). is_input_pin r && is_switch_pin r) c.pins) = subst (λ ys. IsIn end.pin ys) (sym (only_is (filter (λ (r : PinView). is_input_pin r && is_switch_pin r) c.pins) end.pin end.is_pin)) (inl refl) in
      let kept = of-filter (λ (r : PinView). is_input_pin r && is_switch_pin r) end.pin c.pins among in
      let same : q ≡ end.pin = only_one is_input_pin c.pins one.0 q one.1 hq input ∙ sym (only_one is_input_pin c.pins one.0 end.pin one.1 kept.0 (and_parts (is_input_pin end.pin) (is_switch_pin end.pin) kept.1).0) in
      inl (end.node, ap (λ (r : PinView). at_end (placed_switch place x) r.name) same ∙ end.end)

  -- ---- all cells

  pub input_known : (a : Placed) (c : CellView) → cell_of W a ≡ Some c → IsSoundCell c → Role p good modules real a → (q : PinView) → IsIn q c.pins → is_input_pin q ≡ true → KnownEnd (at_end a q.name)
  input_known a c e sound (inl source) q hq input =
      let of = takes p good modules real a source c e in
      source_known a source c e sound of q hq input (retention p.intent a.path a.instance) refl of.takes
  input_known a c e sound (inr (inl operator)) q hq input =
      let o = operator.0 in
      let here : cell_of W (placed_operator place o) ≡ Some c = ap (cell_of W) (sym operator.2) ∙ e in
      let cell = passed_cell (operator_fits p (placed_operator place o).path o.operator) (cell_of W (placed_operator place o)) (operator_stands_at p good modules real o operator.1) in
      let some : Some cell.0 ≡ Some c = sym cell.1 ∙ here in
      let same : cell.0 ≡ c = cc in
      subst (λ (z : Placed). KnownEnd (at_end z q.name)) (sym operator.2)
      (operator_known o operator.1 c here q hq input o.operator refl (subst (λ d. operator_fits p (placed_operator place o).path o.operator d ≡ true) same cell.2))
  input_known a c e sound (inr (inr switch)) q hq input =
      let s = switch_cell p good modules real switch.0 switch.1 in
      let here : cell_of W (placed_switch place switch.0) ≡ Some c = ap (cell_of W) (sym switch.2) ∙ e in
      let some : Some s.cell ≡ Some c = sym s.is_cell ∙ here in
      let same : s.cell ≡ c = cc in
      subst (λ (z : Placed). KnownEnd (at_end z q.name)) (sym switch.2)
      (switch_known switch.0 switch.1 c here (subst (λ d. switch_fits switch.0 d ≡ true) same s.fits) q hq input)
