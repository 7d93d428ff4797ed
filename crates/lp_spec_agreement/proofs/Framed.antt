-- A netlist that realises a project without faults has what the way from cells to runs asks.
use Rattle.std.proofs.Common.{◌≡◌, ◌≤◌, ℕ, Bool, true, false, ◌&&◌, ◌==◌, List, [], ◌∷◌, map, length, Option, Some, None, inl, inr, refl, sym, ap, ◌∙◌, subst, arith}
use Rattle.std.specs.Prelude.{bytes_eq, is_some, if◌then◌else◌, option_and_then, slice_get}
use Rattle.std.specs.List.{list_any, list_all}
use Rattle.std.proofs.lemmas.Bool.{and_parts, false≢true, eq-eqb}
use Rattle.lp_model.specs.declared.reason.Reason.{Reason}
use Rattle.lp_model.specs.declared.fault.netlist.NetlistLimit.TheVariants as limits
use Rattle.lp_model.specs.NetlistView.{InstanceView, ModuleView}
use Rattle.lp_model.specs.LibraryView.{PgPinView, PinView, CellView}
use Rattle.lp_spec_design.specs.Keys.{Name, Path, Node, CellPin}
use Rattle.lp_spec_design.specs.Netlists.{Structure, first, module_named, cell_named, module_at}
use Rattle.lp_spec_design.specs.Instances.{Placed, cell_instances}
use Rattle.lp_spec_design.specs.Nodes.{HasFuel, DeclaresBits}
use Rattle.lp_spec_design.specs.Graph.{and_more, source_of, some_of, numbered}
use Rattle.lp_spec_design.specs.Intents.{FromPort}
use Rattle.lp_spec_design.specs.Winners.{IsIn}
use Rattle.lp_spec_design.specs.Settled.{Event, pin_named}
use Rattle.lp_spec_design.proofs.Members.{in-left, in-map, in-flat, any-in}
use Rattle.lp_spec_design.proofs.Looped.{no_loop_fuel}
use Rattle.lp_spec_design.proofs.Sources.{sources_known, first_in}
use Rattle.lp_spec_pins.specs.Pins.{FromTop, Powered}
use Rattle.lp_spec_realises.specs.Projects.{Project, network_of, port_of_origin}
use Rattle.lp_spec_realises.specs.ProjectNetlists.{netlist_of, if_port, port_origins}
use Rattle.lp_spec_realises.specs.Operators.{OperatorAt, all_operators, SwitchAt, all_switches, Placement, placed_operator, placed_switch}
use Rattle.lp_spec_realises.specs.Ends.{AtTop, Nowhere}
use Rattle.lp_spec_realises.specs.Surroundings.{powered_of, event_at_pins}
use Rattle.lp_spec_realises.specs.Realises.{has_placed, are_distinct, switch_stands, operator_stands, source_cell_stands, added, expected_cells, origin_end, Realises}
use Rattle.lp_spec_realises.proofs.Fuels.{has_fuel}
use Rattle.lp_spec_realises.proofs.Ports.{origin_found, state_at_port}
use Rattle.lp_spec_faults.specs.Lines.{Line, first_of, HasFirst}
use Rattle.lp_spec_faults.specs.Modules.{InstanceAt, instances_of, all_instances, unfit_reason, unfit_cell, netlist_limits}
use Rattle.lp_spec_faults.specs.Wires.{wire_loop}
use Rattle.lp_spec_faults.proofs.Depth.{shallow}
use Rattle.lp_spec_faults.proofs.Loops.{has_first}
use Rattle.lp_spec_agreement.specs.Alike.{supply_of_end}
use Rattle.lp_spec_agreement.specs.Faultless.{IsSoundCell, IsFaultless}
use Rattle.lp_spec_agreement.proofs.Apart.{all_in, apart_left, found_named, module_in}
use Rattle.lp_spec_agreement.proofs.Chains.{in_numbered}
use Rattle.lp_spec_agreement.proofs.Found.{cell_there, driver_is, driver_cell}
use Rattle.lp_spec_agreement.proofs.Frame.{Drives}
use Rattle.lp_spec_agreement.proofs.Placed.{standing, distinct_left, distinct_right, distinct_apart, none_standing, found_standing}

-- ---- lines without a fault

pub none_passes : {A : Type 0} (t : A → Bool) (a : A) (xs : List A) → list_any t xs ≡ false → IsIn a xs → t a ≡ false
none_passes t a xs none h = by (t a) refl
  where
    by : (b : Bool) → t a ≡ b → b ≡ false
    by false e = refl
    by true e = absurd (false≢true (sym none ∙ any-in t a xs h e))

pub no_fault : {A : Type 0} (l : Line A) → first_of l ≡ None → (x : A) → IsIn x l.places → l.test x ≡ false
no_fault l e x h = none_passes l.test x l.places (subst (HasFirst l) e (has_first l)) h

in_some_of : {A B : Type 0} (f : A → Option B) (a : A) (b : B) (xs : List A) → IsIn a xs → f a ≡ Some b → IsIn b (some_of f xs)
in_some_of f a b [] h e = absurd h
in_some_of f a b (x ∷ xs) h e = by (f x) refl h (λ r. in_some_of f a b xs r e)
  where
    by : (o : Option _) → f x ≡ o → IsIn a (x ∷ xs) → (IsIn a xs → IsIn b (some_of f xs)) → IsIn b (and_more o (some_of f xs))
    by None is (inl here) more = let none : None ≡ Some b = sym is ∙ ap f (sym here) ∙ e in absurd cc
    by None is (inr rest) more = more rest
    by (Some y) is (inl here) more = let same : Some y ≡ Some b = sym is ∙ ap f (sym here) ∙ e in let eq : b ≡ y = cc in inl eq
    by (Some y) is (inr rest) more = inr (more rest)

unusable_by : (c : CellView) (o : Option Reason) → c.unusable ≡ o → is_some (unfit_reason c) ≡ false → o ≡ None
unusable_by c None e h = refl
unusable_by c (Some r) e h = absurd (false≢true (sym h ∙ rw e refl))

pub cell_in : (s : Structure) (n : Name) (c : CellView) → cell_named s n ≡ Some c → IsIn c s.cells
cell_in s n c e = by (module_named s n) refl
  where
    by : (o : Option ModuleView) → module_named s n ≡ o → IsIn c s.cells
    by None is = (first_in (λ (d : CellView). bytes_eq d.name n) s.cells c (sym (ap (λ (o : Option ModuleView). if is_some o then None else first (λ (d : CellView). bytes_eq d.name n) s.cells) is) ∙ e)).0
    by (Some m) is = let none : None ≡ Some c = sym (ap (λ (o : Option ModuleView). if is_some o then None else first (λ (d : CellView). bytes_eq d.name n) s.cells) is) ∙ e in absurd cc

-- the pin of a name, where names are apart
pub pin_found : (c : CellView) → IsSoundCell c → (q : PinView) → IsIn q c.pins → pin_named c q.name ≡ Some q
pin_found c sound q h = found_named (λ (r : PinView). r.name) c.pins (apart_left (map (λ (r : PinView). r.name) c.pins) (map (λ (g : PgPinView). g.name) c.pgs) sound.names) q h

module _ (p : Project) (good : IsFaultless p) where
  pub source_shallow : (q : Path) → 64 ≤ length q → module_at p.structure q ≡ None
  source_shallow q long = shallow p.structure (no_fault (netlist_limits p.structure) good.within_limits limits.Depth (inr (inr (inl refl)))) q long

  source_declares : DeclaresBits p.structure
  source_declares = record { declared = good.declared; shallow = source_shallow }

  pub source_fuel : HasFuel p.structure
  source_fuel = no_loop_fuel p.structure (sources_known p.structure source_declares) (subst (HasFirst (wire_loop p.structure)) good.no_wire_loop (has_first (wire_loop p.structure)))

  -- ---- cells of the source

  pub source_usable : (m : ModuleView) → IsIn m p.structure.modules → (x : InstanceView) → IsIn x m.instances → (c : CellView) → cell_named p.structure x.target ≡ Some c → c.unusable ≡ None
  source_usable m hm x hx c e =
      let place : InstanceAt = record { parent = m; instance = x } in
      let there : IsIn place (all_instances p.structure) = in-flat instances_of m place p.structure.modules hm (in-map (λ i. record { parent = m; instance = i }) x m.instances hx) in
      unusable_by c c.unusable refl (ap (λ o. is_some (option_and_then unfit_reason o)) (sym e) ∙ no_fault (unfit_cell p.structure) good.cells_fit place there)

  pub drives : (k : Node) (q : Path) (x v : Name) → source_of p.structure k ≡ Some (CellPin q x v) → Drives p q x v
  drives k q x v e =
      let of = driver_is p.structure q x v k e in
      let at = driver_cell p.structure good.names_apart q x v of in
      let sound = good.library of.cell (cell_in p.structure of.instance.target of.cell of.target) (source_usable of.owner (module_in p.structure good.names_apart q of.owner of.there) of.instance of.among of.cell of.target) in
      record {
        placed = cell_there p.structure source_shallow q x of.cell at;
        cell = of.cell;
        is_cell = at;
        output = (of.pin, ap (pin_named of.cell) (sym of.pin_named) ∙ pin_found of.cell sound of.pin of.pin_in, of.output);
      }

  module _ (modules : List ModuleView) (real : Realises p modules) where
    abbrev place : Placement
    place = real.placement

    abbrev W : Structure
    W = netlist_of p modules

    abbrev w : Powered
    w = powered_of p modules real.placement

    pub fuel : HasFuel W
    fuel = has_fuel p modules real.netlist

    -- ---- the cells of the netlist

    abbrev sources_stand : Bool
    sources_stand = list_all (source_cell_stands p W) (cell_instances p.structure)

    abbrev operators_stand : Bool
    operators_stand = list_all (operator_stands p W place) (all_operators p)

    abbrev switches_stand : Bool
    switches_stand = list_all (switch_stands W place) (all_switches p)

    after_sources : (operators_stand && (switches_stand && (are_distinct (expected_cells p place) && list_all (has_placed (expected_cells p place)) (cell_instances W)))) ≡ true
    after_sources = (and_parts sources_stand _ real.cells).1

    after_operators : (switches_stand && (are_distinct (expected_cells p place) && list_all (has_placed (expected_cells p place)) (cell_instances W))) ≡ true
    after_operators = (and_parts operators_stand _ after_sources).1

    pub source_stands : (a : Placed) → IsIn a (cell_instances p.structure) → source_cell_stands p W a ≡ true
    source_stands a h = all_in (source_cell_stands p W) a (cell_instances p.structure) (and_parts sources_stand _ real.cells).0 h

    pub operator_stands_at : (o : OperatorAt) → IsIn o (all_operators p) → operator_stands p W place o ≡ true
    operator_stands_at o h = all_in (operator_stands p W place) o (all_operators p) (and_parts operators_stand _ after_sources).0 h

    pub switch_stands_at : (x : SwitchAt) → IsIn x (all_switches p) → switch_stands W place x ≡ true
    switch_stands_at x h = all_in (switch_stands W place) x (all_switches p) (and_parts switches_stand _ after_operators).0 h

    pub distinct : are_distinct (expected_cells p place) ≡ true
    distinct = (and_parts (are_distinct (expected_cells p place)) _ (and_parts switches_stand _ after_operators).1).0

    pub all_expected : list_all (has_placed (expected_cells p place)) (cell_instances W) ≡ true
    all_expected = (and_parts (are_distinct (expected_cells p place)) _ (and_parts switches_stand _ after_operators).1).1

    added_distinct : are_distinct (added p place) ≡ true
    added_distinct = distinct_right (cell_instances p.structure) (added p place) distinct

    pub operator_there : (o : OperatorAt) → IsIn o (all_operators p) → standing (placed_operator place) (all_operators p) (placed_operator place o) ≡ Some o
    operator_there o h = found_standing (placed_operator place) (all_operators p) (distinct_left (map (placed_operator place) (all_operators p)) (map (placed_switch place) (all_switches p)) added_distinct) o h

    pub source_there : (a : Placed) → IsIn a (cell_instances p.structure) → standing (placed_operator place) (all_operators p) a ≡ None
    source_there a h =
        none_standing (placed_operator place) (all_operators p) a
        (λ g. distinct_apart (cell_instances p.structure) (added p place) distinct a h (in-left a (map (placed_operator place) (all_operators p)) (map (placed_switch place) (all_switches p)) g))

    pub switch_there : (x : SwitchAt) → IsIn x (all_switches p) → standing (placed_switch place) (all_switches p) (placed_switch place x) ≡ Some x
    switch_there x h = found_standing (placed_switch place) (all_switches p) (distinct_right (map (placed_operator place) (all_operators p)) (map (placed_switch place) (all_switches p)) added_distinct) x h

    -- ---- origins

    pub no_origin : (o : ℕ) → slice_get (network_of p).origins o ≡ None → origin_end p W place o ≡ Nowhere
    no_origin o e = rw e refl

    pub is_port : (o : ℕ) → slice_get (network_of p).origins o ≡ Some FromPort → list_any (λ k. k == o) (port_origins p) ≡ true
    is_port o e =
        any-in (λ k. k == o) o (port_origins p)
        (in_some_of (λ x. if_port x.0 x.1) (o, FromPort) o (numbered 0 (network_of p).origins) (in_numbered 0 o FromPort (network_of p).origins e o (omega arith)) refl)
        (eq-eqb o o refl)

    port_end : (o : ℕ) → slice_get (network_of p).origins o ≡ Some FromPort → origin_end p W place o ≡ AtTop (port_of_origin p o) None
    port_end o e = rw e refl

    pub port_origin : (o : ℕ) → slice_get (network_of p).origins o ≡ Some FromPort → supply_of_end w (origin_end p W place o) ≡ Some (FromTop (port_of_origin p o))
    port_origin o e =
        ap (supply_of_end w) (port_end o e)
        ∙ ap (λ k. if is_some k then Some (FromTop (port_of_origin p o)) else None) (origin_found p real.netlist.origins_apart o (is_port o e))

    pub port_state : (ev : Event) (o : ℕ) → slice_get (network_of p).origins o ≡ Some FromPort → (event_at_pins p W ev).supplies (port_of_origin p o) ≡ ev.supplies o
    port_state ev o e = state_at_port p real.netlist.origins_apart o (is_port o e) W ev
