-- A netlist that realises a project without faults is supplied: each power and ground pin begins where an origin comes in, and no other source stands on its wire.
use Rattle.std.specs.Prelude.{slice_get, is_some, nat_le, option_map}
use Rattle.std.specs.List.{list_all}
use Rattle.std.proofs.Common.{◌≡◌, ◌<◌, ℕ, zero, suc, true, List, [], ◌∷◌, map, length, Option, Some, None, inl, inr, refl, sym, ap, ◌∙◌, subst, arith}
use Rattle.std.proofs.lemmas.Bool.{and_from, leb-true, false≢true}
use Rattle.std.proofs.lemmas.Option.{slice_get_cases, slice_get-map}
use Rattle.lp_model.specs.declared.supply.Origin as model
use Rattle.lp_model.specs.NetlistView.{ModuleView}
use Rattle.lp_model.specs.LibraryView.{PgPinView, CellView}
use Rattle.lp_spec_design.specs.Keys.{Way, Node, Inner, Outer, Fixed, Source, CellPin, SwitchedPin, Environment, From}
use Rattle.lp_spec_design.specs.Netlists.{Structure, cell_at}
use Rattle.lp_spec_design.specs.Instances.{Placed, cell_instances}
use Rattle.lp_spec_design.specs.Nodes.{nodes_of, fuel_of, HasItsNodes}
use Rattle.lp_spec_design.specs.Graph.{sources_of, source_of, way_in, going_back, trail, beginning}
use Rattle.lp_spec_design.specs.Intents.{Origin, FromPort, FromSwitch}
use Rattle.lp_spec_design.specs.Settled.{node_at_pin}
use Rattle.lp_spec_design.specs.Winners.{IsIn}
use Rattle.lp_spec_design.proofs.Looped.{source_by}
use Rattle.lp_spec_design.proofs.Members.{of-map, of-flat}
use Rattle.lp_spec_network.specs.Views.{kind_view}
use Rattle.lp_spec_pins.specs.Pins.{SupplySource, FromTop, FromSwitched, Powered, only, is_joined, supply_of_pin}
use Rattle.lp_spec_pins.specs.Supplied.{PgPinAt, pg_pins_of, pg_pins, has_one_source, is_single, has_one_supply, is_supplied}
use Rattle.lp_spec_fit.specs.Joins.{Joins}
use Rattle.lp_spec_realises.specs.Projects.{Project, network_of, numbered_node, port_of_origin}
use Rattle.lp_spec_realises.specs.ProjectNetlists.{netlist_of, has_single_source}
use Rattle.lp_spec_realises.specs.Operators.{Placement, placed_operator}
use Rattle.lp_spec_realises.specs.Ends.{own_end, some_end, end_at_pin}
use Rattle.lp_spec_realises.specs.Surroundings.{powered_of}
use Rattle.lp_spec_realises.specs.Realises.{cell_of, joins_of_source, joins_of_operator, joins_of_switch, origin_end, Realises}
use Rattle.lp_spec_realises.proofs.Fuels.{has_nodes}
use Rattle.lp_spec_agreement.specs.Alike.{supply_of_end}
use Rattle.lp_spec_agreement.specs.Faultless.{IsFaultless}
use Rattle.lp_spec_agreement.proofs.Apart.{all_in}
use Rattle.lp_spec_agreement.proofs.ByCells.{frame}
use Rattle.lp_spec_agreement.proofs.Roles.{Role, role}
use Rattle.lp_spec_agreement.proofs.Supplied.{IsJoinedAt, numbered_in, source_joins_at, operator_joins_at, switch_joins_at, pg_source}
use Rattle.lp_spec_proper.proofs.Free.{all_from}
use Rattle.lp_spec_proper.proofs.JoinedOrigins.{IsBelow, AreBelow, source_below, operator_below, switch_below}
use Rattle.lp_spec_together.specs.Laws.{RealisedIsSupplied}

-- ---- the nodes of a wire

module _ (w : Structure) (known : HasItsNodes w) (single : list_all (has_single_source w) (nodes_of w) ≡ true) where
  -- a node with a source has no other one
  one_source : (k : Node) → is_some (source_of w k) ≡ true → has_one_source w k ≡ true
  one_source k some = by (source_of w k) refl some
    where
      one : (x : Source) (xs : List Source) → sources_of w k ≡ xs → nat_le (length xs) 1 ≡ true → source_of w k ≡ Some x → is_some (only xs) ≡ true
      one x [] is few e = let none : None ≡ Some x = sym (source_by w k [] is) ∙ e in absurd cc
      one x (y ∷ []) is few e = refl
      one x (y ∷ z ∷ rest) is few e = let less = leb-true (length (y ∷ z ∷ rest)) 1 few in absurd (omega (arith, less))

      by : (o : Option Source) → source_of w k ≡ o → is_some o ≡ true → has_one_source w k ≡ true
      by None e h = absurd (false≢true h)
      by (Some x) e h = one x (sources_of w k) refl (all_in (has_single_source w) k (nodes_of w) single (known k x e)) e

  -- and so each node of a wire that begins at one with a source
  wire_single : (fuel : ℕ) (k : Node) → is_some (source_of w (beginning k (trail w fuel k))) ≡ true → list_all (has_one_source w) (k ∷ map (λ (step : Way × Node). step.1) (trail w fuel k)) ≡ true
  wire_single zero k some = and_from (has_one_source w k) true (one_source k some) refl
  wire_single (suc fuel) k some = by (source_of w k) refl (wire_single fuel) some
    where
      alone : is_some (source_of w k) ≡ true → list_all (has_one_source w) (k ∷ []) ≡ true
      alone h = and_from (has_one_source w k) true (one_source k h) refl

      by : (o : Option Source) → source_of w k ≡ o
          → ((j : Node) → is_some (source_of w (beginning j (trail w fuel j))) ≡ true → list_all (has_one_source w) (j ∷ map (λ (step : Way × Node). step.1) (trail w fuel j)) ≡ true)
          → is_some (source_of w (beginning k (going_back (λ j. trail w fuel j) (way_in o)))) ≡ true
          → list_all (has_one_source w) (k ∷ map (λ (step : Way × Node). step.1) (going_back (λ j. trail w fuel j) (way_in o))) ≡ true
      by None e more h = alone h
      by (Some (CellPin q x v)) e more h = alone h
      by (Some (SwitchedPin q x v)) e more h = alone h
      by (Some Environment) e more h = alone h
      by (Some (From way j)) e more h =
          and_from (has_one_source w k) (list_all (has_one_source w) (j ∷ map (λ (step : Way × Node). step.1) (trail w fuel j))) (one_source k (ap is_some e)) (more j h)

-- a wire that comes from a supply begins at a node with a source
has_source : (w : Powered) (k : Node) (o : Option Source) (s : SupplySource) → supply_of_end w (own_end k o) ≡ Some s → is_some o ≡ true
has_source w k (Some x) s e = refl
has_source w (Inner n i q) None s e = absurd cc
has_source w (Outer n i) None s e = absurd cc
has_source w (Fixed b) None s e = absurd cc

module _ (p : Project) (good : IsFaultless p) (modules : List ModuleView) (real : Realises p modules) where
  abbrev place : Placement
  place = real.placement

  abbrev W : Structure
  W = netlist_of p modules

  abbrev w : Powered
  w = powered_of p modules real.placement

  abbrev count : ℕ
  count = length p.supplies.origins

  -- ---- origins

  abbrev Comes : ℕ → Type 0
  Comes o = (s : SupplySource) × (supply_of_end (powered_of p modules real.placement) (origin_end p (netlist_of p modules) real.placement o) ≡ Some s)

  comes_by : (o : ℕ) (x : Origin) → slice_get (network_of p).origins o ≡ Some x → Comes o
  comes_by o FromPort e = (FromTop (port_of_origin p o), (frame p good modules real).port_origin o e)
  comes_by o (FromSwitch i c high) e =
      let entry = (frame p good modules real).switch_origin o i c high e in
      (FromSwitched (place.switch o).path (place.switch o).instance entry.pin, ap (supply_of_end w) entry.origin)

  comes : (o : ℕ) → o < count → Comes o
  comes o within = elim (slice_get_cases p.supplies.origins o).1 [
    | inl there ↦ comes_by o (kind_view (numbered_node p.structure) there.0.kind) (slice_get-map (λ (x : model.Origin). kind_view (numbered_node p.structure) x.kind) p.supplies.origins o ∙ ap (λ z. option_map (λ (x : model.Origin). kind_view (numbered_node p.structure) x.kind) z) there.2)
    | inr past ↦ absurd (omega (arith, within, past.0))
  ]

  -- ---- pins

  record IsJoined (a : Placed) (c : CellView) : Type 0 where
    pub joins : CellView → Option Joins
    pub at : IsJoinedAt p good modules real a c joins
    pub below : AreBelow (length p.supplies.origins) (joins c)

  by_role : (a : Placed) → Role p good modules real a → (c : CellView) → cell_of W a ≡ Some c → IsJoined a c
  by_role a (inl source) c e = record { joins = joins_of_source p a; at = source_joins_at p good modules real a source c e; below = source_below p good.network a c }
  by_role a (inr (inl operator)) c e =
      subst (λ b. cell_of W b ≡ Some c → IsJoined b c) (sym operator.2)
      (λ f. record {
        joins = joins_of_operator p (placed_operator place operator.0).path operator.0.operator;
        at = operator_joins_at p good modules real operator.0 operator.1 c f;
        below = operator_below p good.network (placed_operator place operator.0).path operator.0.operator c;
      })
      e
  by_role a (inr (inr switch)) c e =
      subst (λ b. cell_of W b ≡ Some c → IsJoined b c) (sym switch.2)
      (λ f. record { joins = joins_of_switch p switch.0; at = switch_joins_at p good modules real switch.0 switch.1 c f; below = switch_below p good.network switch.0 switch.1 c })
      e

  -- the wire at a pin that comes from a supply
  pin_single : (o : Option Node) (s : SupplySource) → supply_of_end w (some_end W (fuel_of W) o) ≡ Some s → is_single w o ≡ true
  pin_single None s e = absurd cc
  pin_single (Some k) s e =
      wire_single W (has_nodes p modules real.netlist) real.netlist.one_source (fuel_of W) k
      (has_source w (beginning k (trail W (fuel_of W) k)) (source_of W (beginning k (trail W (fuel_of W) k))) s e)

  pin_supplied : (a : Placed) → IsIn a (cell_instances W) → (c : CellView) → cell_of W a ≡ Some c → (g : PgPinView) → IsIn g c.pgs → has_one_supply w (record { path = a.path; instance = a.instance; pin = g.name }) ≡ true
  pin_supplied a h c e g among =
      let j = by_role a (role p good modules real a h) c e in
      let number = numbered_in 0 g c.pgs among in
      let begins = j.at.each number.0 g number.1 in
      let below : AreBelow count (Some j.at.join) = subst (AreBelow count) j.at.is_join j.below in
      let origin : IsBelow count (Some begins.origin) = subst (IsBelow count) begins.joins (below number.0 g) in
      let from = comes begins.origin origin in
      let source : supply_of_pin w a.path a.instance g.name ≡ Some from.0 = pg_source p good modules real a j.at.join number.0 g begins ∙ from.1 in
      let end : supply_of_end w (end_at_pin W (fuel_of W) a.path a.instance g.name) ≡ Some from.0 = ap (supply_of_end w) begins.end ∙ from.1 in
      and_from (is_joined (supply_of_pin w a.path a.instance g.name)) (is_single w (node_at_pin W a.path a.instance g.name)) (ap is_joined source)
      (pin_single (node_at_pin W a.path a.instance g.name) from.0 end)

  each_supplied : (x : PgPinAt) → IsIn x (pg_pins w) → has_one_supply w x ≡ true
  each_supplied x h = let a = of-flat (λ (b : Placed). pg_pins_of b (cell_at W b.path b.instance)) x (cell_instances W) h in by a.0 a.1 (cell_at W a.0.path a.0.instance) refl a.2
    where
      by : (a : Placed) → IsIn a (cell_instances W) → (o : Option CellView) → cell_at W a.path a.instance ≡ o → IsIn x (pg_pins_of a o) → has_one_supply w x ≡ true
      by a among None e there = absurd there
      by a among (Some c) e there =
          let g = of-map (λ (q : PgPinView). record { path = a.path; instance = a.instance; pin = q.name }) x c.pgs there in
          ap (has_one_supply w) g.2 ∙ pin_supplied a among c e g.0 g.1

  supplied : is_supplied w ≡ true
  supplied = all_from (has_one_supply w) (pg_pins w) each_supplied

pub realised_is_supplied : RealisedIsSupplied
realised_is_supplied p good modules real = supplied p good modules real
