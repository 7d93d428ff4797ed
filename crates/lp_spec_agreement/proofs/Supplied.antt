-- Where the power and ground pins of a netlist that realises a project come from, and in which states its supply nodes are.
use Rattle.std.proofs.Common.{◌≡◌, ℕ, ◌+◌, Bool, true, not, ◌&&◌, ◌||◌, List, [], ◌∷◌, Option, Some, None, inl, inr, refl, sym, ap, ◌∙◌}
use Rattle.std.specs.Prelude.{filter, is_some, option_and_then, slice_get, unwrap_or}
use Rattle.std.specs.List.{list_all}
use Rattle.std.proofs.lemmas.Bool.{and_parts, false≢true}
use Rattle.lp_tern.specs.declared.supply.SupplyState.TheVariants.{Unknown}
use Rattle.lp_model.specs.declared.supply.SetOrigins.{SetOrigins}
use Rattle.lp_model.specs.declared.library.PgKind.{PgKind}
use Rattle.lp_model.specs.declared.library.PgKind.TheVariants as kinds
use Rattle.lp_model.specs.declared.reason.Reason.{Reason}
use Rattle.lp_model.specs.NetlistView.{InstanceView, ModuleView}
use Rattle.lp_model.specs.LibraryView.{SwitchedView, PgPinView, CellView}
use Rattle.lp_spec_design.specs.Keys.{Name, Path, Node, Fixed}
use Rattle.lp_spec_design.specs.Netlists.{Structure, first, cell_named, instance_named, module_at, cell_at}
use Rattle.lp_spec_design.specs.Instances.{Placed, cell_instances}
use Rattle.lp_spec_design.specs.Nodes.{fuel_of}
use Rattle.lp_spec_design.specs.Graph.{numbered}
use Rattle.lp_spec_design.specs.Intents.{SupplySet, Origin, FromPort, FromSwitch}
use Rattle.lp_spec_design.specs.Winners.{IsIn}
use Rattle.lp_spec_design.specs.Settled.{Assignment, state_of, is_on, both_on, node_at_pin}
use Rattle.lp_spec_design.proofs.Sources.{then_is}
use Rattle.lp_spec_pins.specs.Pins.{Powered, PinAssignment, pair_on, state_from, state_at, state_pair, supply_of_node, supply_of_pin, source_of_pg, is_input_pin, only}
use Rattle.lp_spec_fit.specs.Joins.{Joins, switch_joins}
use Rattle.lp_spec_fit.specs.Needs.{SwitchCellNeed}
use Rattle.lp_spec_fit.specs.Fits.{is_usable, switched_pins}
use Rattle.lp_spec_realises.specs.Projects.{Project, network_of, on_expression}
use Rattle.lp_spec_realises.specs.ProjectNetlists.{netlist_of}
use Rattle.lp_spec_realises.specs.Operators.{OperatorAt, all_operators, SwitchAt, all_switches, Placement, placed_operator, placed_switch}
use Rattle.lp_spec_realises.specs.Ends.{AtSwitched, Nowhere, same_end, some_end, end_at_pin, switched_pin, switched_end}
use Rattle.lp_spec_realises.specs.Surroundings.{switched_node, node_of_origin, supply_node, nodes_of_set, powered_of}
use Rattle.lp_spec_realises.specs.Realises.{cell_of, primary_at, switch_fits, origin_end, pg_begins, cell_joined, joins_of_source, joins_of_operator, joins_of_switch, source_joined, operator_joined, switch_joined, Realises}
use Rattle.lp_spec_realises.proofs.Ports.{supply_at_port}
use Rattle.lp_spec_agreement.specs.Alike.{supply_of_end}
use Rattle.lp_spec_agreement.specs.Faultless.{is_internal, IsSoundCell, IsFaultless}
use Rattle.lp_spec_agreement.proofs.Apart.{all_in}
use Rattle.lp_spec_agreement.proofs.Joined.{end-true, supply_is}
use Rattle.lp_spec_agreement.proofs.Placed.{switch_in, passed_cell, some_switched}
use Rattle.lp_spec_agreement.proofs.Ways.{fixed_end}
use Rattle.lp_spec_agreement.proofs.Framed.{cell_in, fuel, switch_stands_at, no_origin, port_origin, is_port}

-- ---- the one switched pin of a cell

pub only_is : {A : Type 0} (xs : List A) (x : A) → only xs ≡ Some x → xs ≡ x ∷ []
only_is [] x e = absurd cc
only_is (y ∷ []) x e = let is : y ≡ x = cc in ap (λ z. z ∷ []) is
only_is (y ∷ z ∷ rest) x e = absurd cc

pub record IsSwitched (gs : List PgPinView) (v : SwitchedView) : Type 0 where
  pub pg : PgPinView
  pub among : IsIn pg gs
  pub found : first (λ (g : PgPinView). is_some g.switched) gs ≡ Some pg
  pub switched : pg.switched ≡ Some v

first_switched : (c : CellView) (gs : List PgPinView) (v : SwitchedView) (more : List SwitchedView) → switched_pins (record c { pgs = gs }) ≡ v ∷ more → IsSwitched gs v
first_switched c [] v more h = absurd cc
first_switched c (g ∷ gs) v more h = by g.switched refl (first_switched c gs v more)
  where
    by : (o : Option SwitchedView) → g.switched ≡ o → (switched_pins (record c { pgs = gs }) ≡ v ∷ more → IsSwitched gs v) → IsSwitched (g ∷ gs) v
    by None e rest =
        let there = rest (rw e at h) in
        record { pg = there.pg; among = inr there.among; found = rw e there.found; switched = there.switched }
    by (Some s) e rest =
        let here : s ∷ switched_pins (record c { pgs = gs }) ≡ v ∷ more = rw e at h in
        let is : s ≡ v = cc in
        record { pg = g; among = inl refl; found = rw e refl; switched = e ∙ ap (λ z. Some z) is }

pub numbered_in : {A : Type 0} (n : ℕ) (a : A) (xs : List A) → IsIn a xs → (k : ℕ) × IsIn (k, a) (numbered n xs)
numbered_in n a [] h = absurd h
numbered_in n a (x ∷ xs) (inl is) = (n, inl (ap (λ z. (n, z)) is))
numbered_in n a (x ∷ xs) (inr h) = let more = numbered_in (n + 1) a xs h in (more.0, inr more.1)

internal_by : (g : PgPinView) (k : PgKind) → g.kind ≡ k → is_internal g ≡ true → k ≡ kinds.InternalPower
internal_by g kinds.InternalPower e h = refl
internal_by g kinds.PrimaryPower e h = absurd (false≢true (rw e at h))
internal_by g kinds.PrimaryGround e h = absurd (false≢true (rw e at h))
internal_by g kinds.BackupPower e h = absurd (false≢true (rw e at h))
internal_by g kinds.BackupGround e h = absurd (false≢true (rw e at h))
internal_by g kinds.InternalGround e h = absurd (false≢true (rw e at h))
internal_by g kinds.Nwell e h = absurd (false≢true (rw e at h))
internal_by g kinds.Pwell e h = absurd (false≢true (rw e at h))
internal_by g kinds.Deepnwell e h = absurd (false≢true (rw e at h))
internal_by g kinds.Deeppwell e h = absurd (false≢true (rw e at h))

pub switched_kind : (c : CellView) → IsSoundCell c → (g : PgPinView) → IsIn g c.pgs → (v : SwitchedView) → g.switched ≡ Some v → g.kind ≡ kinds.InternalPower
switched_kind c sound g h v e =
    let test : (not (is_some g.switched) || is_internal g) ≡ true = all_in (λ (x : PgPinView). not (is_some x.switched) || is_internal x) g c.pgs sound.switched h in
    internal_by g g.kind refl (rw e at test)

to_output : (x : SwitchAt) (gnd : ℕ) (v : SwitchedView) (k : ℕ) (g : PgPinView) → g.kind ≡ kinds.InternalPower → g.switched ≡ Some v → switch_joins x.input x.origin gnd v.passes k g ≡ Some x.origin
to_output x gnd v k g kind e = rw (kind, e) refl

-- the cell of an instance is one of the library
pub cell_at_in : (s : Structure) (q : Path) (x : Name) (c : CellView) → cell_at s q x ≡ Some c → IsIn c s.cells
cell_at_in s q x c e =
    let above = then_is (λ (m : ModuleView). option_and_then (λ (y : InstanceView). cell_named s y.target) (instance_named m x)) (module_at s q) c e in
    let inst = then_is (λ (y : InstanceView). cell_named s y.target) (instance_named above.0 x) c above.2 in
    cell_in s inst.0.target c inst.2

pub usable : (c : CellView) → is_usable c ≡ true → c.unusable ≡ None
usable c e = by c.unusable refl
  where
    by : (o : Option Reason) → c.unusable ≡ o → o ≡ None
    by None is = refl
    by (Some r) is = absurd (false≢true (ap (λ z. not (is_some z)) (sym is) ∙ e))

module _ (p : Project) (good : IsFaultless p) (modules : List ModuleView) (real : Realises p modules) where
  abbrev place : Placement
  place = real.placement

  abbrev W : Structure
  W = netlist_of p modules

  abbrev w : Powered
  w = powered_of p modules real.placement

  abbrev steps : ℕ
  steps = fuel_of (netlist_of p modules)

  -- ---- power and ground pins

  -- a power or ground pin begins where the origin of its join comes in
  pub record Begins (a : Placed) (join : Joins) (k : ℕ) (g : PgPinView) : Type 0 where
    pub origin : ℕ
    pub joins : join k g ≡ Some origin
    pub end : end_at_pin (netlist_of p modules) (fuel_of (netlist_of p modules)) a.path a.instance g.name ≡ origin_end p (netlist_of p modules) real.placement origin

  pg_begins_at : (a : Placed) (join : Joins) (k : ℕ) (g : PgPinView) (o : Option ℕ) → join k g ≡ o → pg_begins p W place steps a join (k, g) ≡ true → Begins a join k g
  pg_begins_at a join k g None e h = absurd (false≢true (rw e at h))
  pg_begins_at a join k g (Some o) e h =
      let same : same_end (end_at_pin W steps a.path a.instance g.name) (origin_end p W place o) ≡ true = rw e at h in
      record { origin = o; joins = e; end = end-true (end_at_pin W steps a.path a.instance g.name) (origin_end p W place o) same }

  pub record IsJoinedAt (a : Placed) (c : CellView) (joins : CellView → Option Joins) : Type 0 where
    pub join : Joins
    pub is_join : joins c ≡ Some join
    pub each : (k : ℕ) (g : PgPinView) → IsIn (k, g) (numbered 0 c.pgs) → Begins a join k g

  joined_by : (a : Placed) (c : CellView) (joins : CellView → Option Joins) (o : Option Joins) → joins c ≡ o → cell_joined p W place steps a joins (Some c) ≡ true → IsJoinedAt a c joins
  joined_by a c joins None e h = absurd (false≢true (rw e at h))
  joined_by a c joins (Some join) e h =
      let all : list_all (pg_begins p W place steps a join) (numbered 0 c.pgs) ≡ true = rw e at h in
      record { join = join; is_join = e; each = λ k g there. pg_begins_at a join k g (join k g) refl (all_in (pg_begins p W place steps a join) (k, g) (numbered 0 c.pgs) all there) }

  abbrev all_sources : Bool
  all_sources = list_all (source_joined p W place steps) (cell_instances p.structure)

  abbrev all_operators_joined : Bool
  all_operators_joined = list_all (operator_joined p W place steps) (all_operators p)

  abbrev all_switches_joined : Bool
  all_switches_joined = list_all (switch_joined p W place steps) (all_switches p)

  pub source_joins_at : (a : Placed) → IsIn a (cell_instances p.structure) → (c : CellView) → cell_of W a ≡ Some c → IsJoinedAt a c (joins_of_source p a)
  source_joins_at a h c e =
      joined_by a c (joins_of_source p a) (joins_of_source p a c) refl
      (ap (cell_joined p W place steps a (joins_of_source p a)) (sym e) ∙ all_in (source_joined p W place steps) a (cell_instances p.structure) (and_parts all_sources _ real.supplies).0 h)

  pub operator_joins_at : (o : OperatorAt) → IsIn o (all_operators p) → (c : CellView) → cell_of W (placed_operator place o) ≡ Some c → IsJoinedAt (placed_operator place o) c (joins_of_operator p (placed_operator place o).path o.operator)
  operator_joins_at o h c e =
      let joins = joins_of_operator p (placed_operator place o).path o.operator in
      joined_by (placed_operator place o) c joins (joins c) refl
      (ap (cell_joined p W place steps (placed_operator place o) joins) (sym e) ∙ all_in (operator_joined p W place steps) o (all_operators p) (and_parts all_operators_joined _ (and_parts all_sources _ real.supplies).1).0 h)

  pub switch_joins_at : (x : SwitchAt) → IsIn x (all_switches p) → (c : CellView) → cell_of W (placed_switch place x) ≡ Some c → IsJoinedAt (placed_switch place x) c (joins_of_switch p x)
  switch_joins_at x h c e =
      joined_by (placed_switch place x) c (joins_of_switch p x) (joins_of_switch p x c) refl
      (ap (cell_joined p W place steps (placed_switch place x) (joins_of_switch p x)) (sym e)
      ∙ all_in (switch_joined p W place steps) x (all_switches p) (and_parts all_switches_joined _ (and_parts all_operators_joined _ (and_parts all_sources _ real.supplies).1).1).0 h)

  -- its source is that of the origin
  pin_source : (q : Path) (x g : Name) (o : Option Node) → node_at_pin W q x g ≡ o → supply_of_pin w q x g ≡ supply_of_end w (end_at_pin W steps q x g)
  pin_source q x g None e = ap (option_and_then (supply_of_node w)) e ∙ sym (ap (λ z. supply_of_end w (some_end W steps z)) e)
  pin_source q x g (Some k) e = ap (option_and_then (supply_of_node w)) e ∙ (supply_is w (fuel p good modules real) k ∙ sym (ap (λ z. supply_of_end w (some_end W steps z)) e))

  pub pg_source : (a : Placed) (join : Joins) (k : ℕ) (g : PgPinView) (b : Begins a join k g) → source_of_pg w a.path a.instance (Some g) ≡ supply_of_end w (origin_end p W place b.origin)
  pg_source a join k g b = pin_source a.path a.instance g.name (node_at_pin W a.path a.instance g.name) refl ∙ ap (supply_of_end w) b.end

  -- ---- switches

  pub record IsSwitchCell (x : SwitchAt) : Type 0 where
    pub cell : CellView
    pub is_cell : cell_of (netlist_of p modules) (placed_switch real.placement x) ≡ Some cell
    pub fits : switch_fits x cell ≡ true
    pub sound : IsSoundCell cell
    pub view : SwitchedView
    pub one : only (switched_pins cell) ≡ Some view
    pub pin : IsSwitched cell.pgs view

  switch_view : (x : SwitchAt) (c : CellView) → switch_fits x c ≡ true → (v : SwitchedView) × (only (switched_pins c) ≡ Some v)
  switch_view x c h =
      let n : SwitchCellNeed = record { on = on_expression x.high; mapped = None } in
      let one = and_parts (is_usable c) _ h in
      let two = and_parts c.roles.switch _ one.1 in
      let three = and_parts (not (is_some c.state)) _ two.1 in
      some_switched c (only (filter is_input_pin c.pins)) (only (switched_pins c)) n three.1

  pub switch_cell : (x : SwitchAt) → IsIn x (all_switches p) → IsSwitchCell x
  switch_cell x h =
      let cell = passed_cell (switch_fits x) (cell_of W (placed_switch place x)) (switch_stands_at p good modules real x h) in
      let view = switch_view x cell.0 cell.2 in
      record {
        cell = cell.0;
        is_cell = cell.1;
        fits = cell.2;
        sound = good.library cell.0 (cell_at_in W (placed_switch place x).path (placed_switch place x).instance cell.0 cell.1) (usable cell.0 (and_parts (is_usable cell.0) _ cell.2).0);
        view = view.0;
        one = view.1;
        pin = first_switched cell.0 cell.0.pgs view.0 [] (only_is (switched_pins cell.0) view.0 view.1);
      }

  switched_at : (a : Placed) (c : CellView) (v : SwitchedView) (s : IsSwitched c.pgs v) → cell_of W a ≡ Some c → switched_pin W a ≡ Some s.pg
  switched_at a c v s e = ap (λ o. option_and_then (λ (d : CellView). first (λ (g : PgPinView). is_some g.switched) d.pgs) o) e ∙ s.found

  switched_end_by : (a : Placed) (g : PgPinView) → switched_pin W a ≡ Some g → switched_end W a ≡ AtSwitched a.path a.instance g.name
  switched_end_by a g e = rw e refl

  pub switch_end : (x : SwitchAt) (h : IsIn x (all_switches p)) → switched_end W (placed_switch place x) ≡ AtSwitched (placed_switch place x).path (placed_switch place x).instance (switch_cell x h).pin.pg.name
  switch_end x h = let s = switch_cell x h in switched_end_by (placed_switch place x) s.pin.pg (switched_at (placed_switch place x) s.cell s.view s.pin s.is_cell)

  pub switch_origin_end : (o i : ℕ) (c : Node) (high : Bool) → slice_get (network_of p).origins o ≡ Some (FromSwitch i c high) → origin_end p W place o ≡ switched_end W (place.switch o)
  switch_origin_end o i c high e = rw e refl

  pub join_of_switch : (x : SwitchAt) (c : CellView) (v : SwitchedView) → only (switched_pins c) ≡ Some v → (o : Option SetOrigins) → primary_at p [] ≡ o → (join : Joins) → joins_of_switch p x c ≡ Some join → (gnd : ℕ) × (join ≡ switch_joins x.input x.origin gnd v.passes)
  join_of_switch x c v one None e join is = let none : None ≡ Some join = rw e at is in absurd cc
  join_of_switch x c v one (Some s) e join is = let some : Some (switch_joins x.input x.origin s.gnd.0 v.passes) ≡ Some join = rw (e, one) at is in let same : join ≡ switch_joins x.input x.origin s.gnd.0 v.passes = cc in (s.gnd.0, same)

  -- the wire at the switched pin begins there
  switched_begins : (x : SwitchAt) (h : IsIn x (all_switches p)) → end_at_pin W steps (placed_switch place x).path (placed_switch place x).instance (switch_cell x h).pin.pg.name ≡ origin_end p W place x.origin
  switched_begins x h =
      let s = switch_cell x h in
      let at = switch_joins_at x h s.cell s.is_cell in
      let join = join_of_switch x s.cell s.view s.one (primary_at p []) refl at.join at.is_join in
      let number = numbered_in 0 s.pin.pg s.cell.pgs s.pin.among in
      let begins = at.each number.0 s.pin.pg number.1 in
      let kind = switched_kind s.cell s.sound s.pin.pg s.pin.among s.view s.pin.switched in
      let here : at.join number.0 s.pin.pg ≡ Some x.origin = ap (λ (j : Joins). j number.0 s.pin.pg) join.1 ∙ to_output x join.0 s.view number.0 s.pin.pg kind s.pin.switched in
      let some : Some x.origin ≡ Some begins.origin = sym here ∙ begins.joins in
      let same : begins.origin ≡ x.origin = cc in
      begins.end ∙ ap (origin_end p W place) same

  -- ---- the states of supply nodes

  module _ (A : Assignment) (B : PinAssignment) (origins : (o : ℕ) → state_from B (supply_of_end w (origin_end p W place o)) ≡ state_of A o) where
    pub fixed_state : (b : Bool) → state_at w B (Fixed b) ≡ Unknown
    fixed_state b = ap (state_from B) (supply_is w (fuel p good modules real) (Fixed b) ∙ ap (supply_of_end w) (fixed_end W (fuel p good modules real) b))

    node_by : (o : ℕ) (x : Option Origin) → slice_get (network_of p).origins o ≡ x → state_at w B (unwrap_or (node_of_origin p W place x o) (Fixed true)) ≡ state_of A o
    node_by o None e = fixed_state true ∙ (sym (ap (λ z. state_from B (supply_of_end w z)) (no_origin p good modules real o e)) ∙ origins o)
    node_by o (Some FromPort) e = ap (state_from B) (supply_at_port p modules real.netlist place o (is_port p good modules real o e) ∙ sym (port_origin p good modules real o e)) ∙ origins o
    node_by o (Some (FromSwitch i c high)) e =
        let x : SwitchAt = record { origin = o; input = i; control = c; high = high } in
        let h = switch_in p o i c high e in
        let s = switch_cell x h in
        let at = ap (λ z. option_and_then (λ (g : PgPinView). node_at_pin W (place.switch o).path (place.switch o).instance g.name) z) (switched_at (placed_switch place x) s.cell s.view s.pin s.is_cell) in
        by (switch_cell x h).pin.pg.name at (switched_begins x h) (switch_end x h) (node_at_pin W (place.switch o).path (place.switch o).instance (switch_cell x h).pin.pg.name) refl
      where
        by : (g : Name) → switched_node W (place.switch o) ≡ node_at_pin W (place.switch o).path (place.switch o).instance g → end_at_pin W steps (place.switch o).path (place.switch o).instance g ≡ origin_end p W place o
            → switched_end W (place.switch o) ≡ AtSwitched (place.switch o).path (place.switch o).instance g
            → (n : Option Node) → node_at_pin W (place.switch o).path (place.switch o).instance g ≡ n → state_at w B (unwrap_or (switched_node W (place.switch o)) (Fixed true)) ≡ state_of A o
        by g node begins end None is =
            let none : Nowhere ≡ AtSwitched (place.switch o).path (place.switch o).instance g = sym (ap (some_end W steps) is) ∙ (begins ∙ (switch_origin_end o i c high e ∙ end)) in absurd cc
        by g node begins end (Some k) is =
            ap (λ z. state_at w B (unwrap_or z (Fixed true))) (node ∙ is)
            ∙ (ap (state_from B) (supply_is w (fuel p good modules real) k ∙ ap (supply_of_end w) (sym (ap (some_end W steps) is) ∙ begins)) ∙ origins o)

    pub node_state : (o : ℕ) → state_at w B (supply_node p W place o) ≡ state_of A o
    node_state o = node_by o (slice_get (network_of p).origins o) refl

    pub nodes_on : (s : Option SupplySet) → pair_on (state_pair w B (nodes_of_set p W place s)) ≡ both_on A s
    nodes_on None = ap (λ x. is_on x && is_on x) (fixed_state true)
    nodes_on (Some s) = λ i. is_on (node_state s.power i) && is_on (node_state s.gnd i)
