-- What a reader of the netlist takes from a wire: the value of the node of the source that has to begin there, since no supply is there and the power of its driver is that of the node's rail.
use Rattle.std.proofs.Common.{◌≡◌, ℕ, ◌+◌, Bool, true, ◌==◌, List, [], ◌∷◌, Option, Some, None, inl, inr, refl, sym, ap, ◌∙◌, subst}
use Rattle.std.specs.Prelude.{slice_get}
use Rattle.std.proofs.lemmas.Bool.{and_parts, false≢true, eqb-true}
use Rattle.lp_model.specs.NetlistView.{ModuleView}
use Rattle.lp_model.specs.LibraryView.{PgPinView, CellView}
use Rattle.lp_spec_design.specs.Keys.{Node}
use Rattle.lp_spec_design.specs.Netlists.{Structure, cell_at}
use Rattle.lp_spec_design.specs.Instances.{Placed, cell_instances}
use Rattle.lp_spec_design.specs.Graph.{numbered}
use Rattle.lp_spec_design.specs.Intents.{FromPort, FromSwitch, Origin}
use Rattle.lp_spec_design.specs.Winners.{IsIn}
use Rattle.lp_spec_design.specs.Settled.{Assignment, Event}
use Rattle.lp_spec_design.proofs.Members.{in-map, in-flat, of-any}
use Rattle.lp_spec_pins.specs.Pins.{SupplySource, FromTop, FromSwitched, Powered, PinAssignment, source_of_pg, is_joined, state_from}
use Rattle.lp_spec_pins.specs.Supplied.{PgPinAt, pg_pins_of, pg_pins, has_one_supply, is_supplied}
use Rattle.lp_spec_fit.specs.Joins.{Joins}
use Rattle.lp_spec_realises.specs.Projects.{Project, network_of, port_of_origin}
use Rattle.lp_spec_realises.specs.ProjectNetlists.{netlist_of, port_origins}
use Rattle.lp_spec_realises.specs.Operators.{SwitchAt, all_switches, Placement, placed_switch}
use Rattle.lp_spec_realises.specs.Surroundings.{powered_of}
use Rattle.lp_spec_realises.specs.Realises.{cell_of, origin_end, Realises}
use Rattle.lp_spec_cells.specs.Joined.{IsJoinedBy, Apart}
use Rattle.lp_spec_voltages.specs.Voltages.{IsFedWithin}
use Rattle.lp_spec_agreement.specs.Alike.{supply_of_end}
use Rattle.lp_spec_agreement.specs.Cells.{Meet}
use Rattle.lp_spec_agreement.specs.Faultless.{IsFaultless}
use Rattle.lp_spec_agreement.proofs.Apart.{all_in, same_named}
use Rattle.lp_spec_agreement.proofs.ByCells.{frame}
use Rattle.lp_spec_agreement.proofs.Found.{cell_there}
use Rattle.lp_spec_agreement.proofs.Framed.{is_port, switch_there}
use Rattle.lp_spec_agreement.proofs.Placed.{standing, switch_in}
use Rattle.lp_spec_agreement.proofs.Roles.{none_deeper}
use Rattle.lp_spec_agreement.proofs.Supplied.{IsJoinedAt, pg_source}

module _ (p : Project) (good : IsFaultless p) (modules : List ModuleView) (real : Realises p modules) where
  abbrev place : Placement
  place = real.placement

  abbrev W : Structure
  W = netlist_of p modules

  abbrev w : Powered
  w = powered_of p modules real.placement

  -- where each origin comes in
  abbrev pub comes : ℕ → Option SupplySource
  comes o = supply_of_end (powered_of p modules real.placement) (origin_end p (netlist_of p modules) real.placement o)

  -- ---- no two origins come in at one place

  came_port : (a : ℕ) → slice_get (network_of p).origins a ≡ Some FromPort → comes a ≡ Some (FromTop (port_of_origin p a))
  came_port a e = (frame p good modules real).port_origin a e

  came_switch : (a i : ℕ) (c : Node) (high : Bool) (e : slice_get (network_of p).origins a ≡ Some (FromSwitch i c high)) → comes a ≡ Some (FromSwitched (place.switch a).path (place.switch a).instance ((frame p good modules real).switch_origin a i c high e).pin)
  came_switch a i c high e = ap (supply_of_end w) ((frame p good modules real).switch_origin a i c high e).origin

  none_came : (a : ℕ) → slice_get (network_of p).origins a ≡ None → comes a ≡ None
  none_came a e = ap (supply_of_end w) ((frame p good modules real).no_origin a e)

  port_among : (a : ℕ) → slice_get (network_of p).origins a ≡ Some FromPort → IsIn a (port_origins p)
  port_among a e = let found = of-any (λ k. k == a) (port_origins p) (is_port p good modules real a e) in subst (λ k. IsIn k (port_origins p)) (eqb-true found.0 a found.2) found.1

  apart_by : (a b : ℕ) (s : SupplySource) (x : Option Origin) → slice_get (network_of p).origins a ≡ x → (y : Option Origin) → slice_get (network_of p).origins b ≡ y → comes a ≡ Some s → comes b ≡ Some s → a ≡ b
  apart_by a b s None e y f g h = let none : None ≡ Some s = sym (none_came a e) ∙ g in absurd cc
  apart_by a b s (Some x) e None f g h = let none : None ≡ Some s = sym (none_came b f) ∙ h in absurd cc
  apart_by a b s (Some FromPort) e (Some FromPort) f g h =
      let both : Some (FromTop (port_of_origin p a)) ≡ Some (FromTop (port_of_origin p b)) = sym (came_port a e) ∙ (g ∙ (sym h ∙ came_port b f)) in
      let name : port_of_origin p a ≡ port_of_origin p b = cc in
      same_named (port_of_origin p) (port_origins p) (and_parts _ _ real.netlist.origins_apart).0 a b (port_among a e) (port_among b f) name
  apart_by a b s (Some FromPort) e (Some (FromSwitch i c high)) f g h =
      let both : Some (FromTop (port_of_origin p a)) ≡ Some (FromSwitched (place.switch b).path (place.switch b).instance ((frame p good modules real).switch_origin b i c high f).pin) = sym (came_port a e) ∙ (g ∙ (sym h ∙ came_switch b i c high f)) in absurd cc
  apart_by a b s (Some (FromSwitch i c high)) e (Some FromPort) f g h =
      let both : Some (FromTop (port_of_origin p b)) ≡ Some (FromSwitched (place.switch a).path (place.switch a).instance ((frame p good modules real).switch_origin a i c high e).pin) = sym (came_port b f) ∙ (h ∙ (sym g ∙ came_switch a i c high e)) in absurd cc
  apart_by a b s (Some (FromSwitch i c high)) e (Some (FromSwitch j d low)) f g h =
      let both : Some (FromSwitched (place.switch a).path (place.switch a).instance ((frame p good modules real).switch_origin a i c high e).pin) ≡ Some (FromSwitched (place.switch b).path (place.switch b).instance ((frame p good modules real).switch_origin b j d low f).pin) = sym (came_switch a i c high e) ∙ (g ∙ (sym h ∙ came_switch b j d low f)) in
      let path : (place.switch a).path ≡ (place.switch b).path = cc in
      let instance : (place.switch a).instance ≡ (place.switch b).instance = cc in
      let placed : place.switch a ≡ place.switch b = λ r. record { path = path r; instance = instance r } in
      let x : SwitchAt = record { origin = a; input = i; control = c; high = high } in
      let y : SwitchAt = record { origin = b; input = j; control = d; high = low } in
      let one : Some x ≡ Some y = sym (switch_there p good modules real x (switch_in p a i c high e)) ∙ (ap (λ z. standing (placed_switch place) (all_switches p) z) placed ∙ switch_there p good modules real y (switch_in p b j d low f)) in
      let same : x ≡ y = cc in
      ap (λ (z : SwitchAt). z.origin) same

  pub apart : Apart comes
  apart a b s g h = apart_by a b s (slice_get (network_of p).origins a) refl (slice_get (network_of p).origins b) refl g h

  -- ---- supplies are fed

  pub fed_within : (ev : Event) (A : Assignment) (B : PinAssignment) → Meet p modules real.placement ev A B → IsFedWithin p ev A
  fed_within ev A B m = record {
    network = good.network;
    within = m.within;
    ports = m.fed.ports;
    switches = m.fed.switches;
    others = λ o e. sym (m.alike.origins o) ∙ ap (state_from B) (none_came o e);
  }

  -- ---- power and ground pins

  module _ (supplied : is_supplied w ≡ true) where
    some_joined : (o : Option SupplySource) → is_joined o ≡ true → (s : SupplySource) × (o ≡ Some s)
    some_joined None e = absurd (false≢true e)
    some_joined (Some s) e = (s, refl)

    pub pg_supplied : (a : Placed) (c : CellView) → cell_of W a ≡ Some c → (g : PgPinView) → IsIn g c.pgs → (s : SupplySource) × (source_of_pg w a.path a.instance (Some g) ≡ Some s)
    pg_supplied a c e g h =
        let pin : PgPinAt = record { path = a.path; instance = a.instance; pin = g.name } in
        let placed = cell_there W (none_deeper W real.netlist.shallow) a.path a.instance c e in
        let here : IsIn pin (pg_pins_of a (cell_of W a)) = subst (λ o. IsIn pin (pg_pins_of a o)) (sym e) (in-map (λ (x : PgPinView). record { path = a.path; instance = a.instance; pin = x.name }) g c.pgs h) in
        let there : IsIn pin (pg_pins w) = in-flat (λ (b : Placed). pg_pins_of b (cell_at W b.path b.instance)) a pin (cell_instances W) placed here in
        some_joined (source_of_pg w a.path a.instance (Some g)) (and_parts _ _ (all_in (has_one_supply w) pin (pg_pins w) supplied there)).0

    number_in : {A : Type 0} (n : ℕ) (x : ℕ × A) (xs : List A) → IsIn x (numbered n xs) → IsIn x.1 xs
    number_in n x [] h = absurd h
    number_in n x (y ∷ ys) h = elim h [ inl is ↦ inl (ap (λ z. z.1) is) | inr r ↦ inr (number_in (n + 1) x ys r) ]

    pub joined : (a : Placed) (c : CellView) → cell_of W a ≡ Some c → (joins : CellView → Option Joins) (at : IsJoinedAt p good modules real a c joins) → IsJoinedBy w a.path a.instance c comes at.join
    joined a c e joins at = record {
      each = λ k g h.
          let begins = at.each k g h in
          let from = pg_supplied a c e g (number_in 0 (k, g) c.pgs h) in
          record { origin = begins.origin; supply = from.0; joins = begins.joins; comes = sym (pg_source p good modules real a at.join k g begins) ∙ from.1; pin = from.1 };
    }
