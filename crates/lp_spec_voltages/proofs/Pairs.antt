-- The powers of related supplies, and of those at the top.
use Rattle.std.proofs.Common.{◌≡◌, ℕ, zero, suc, Bool, true, [], List, Option, Some, None, refl, ap}
use Rattle.std.specs.Prelude.{slice_get, option_and_then}
use Rattle.lp_tern.specs.declared.supply.SupplyState.{SupplyState}
use Rattle.lp_tern.specs.declared.supply.SupplyState.TheVariants.{Unknown}
use Rattle.lp_model.specs.NetlistView.{ModuleView}
use Rattle.lp_model.specs.LibraryView.{PgPinView, PinView, CellView}
use Rattle.lp_spec_design.specs.Keys.{Name, Path, Outer, Fixed, Environment, Node}
use Rattle.lp_spec_design.specs.Netlists.{Structure}
use Rattle.lp_spec_design.specs.Nodes.{fuel_of}
use Rattle.lp_spec_design.specs.Graph.{TopOutput, source_of, trail, beginning}
use Rattle.lp_spec_design.specs.Intents.{SetNumber, SupplySet}
use Rattle.lp_spec_design.specs.Domains.{source_supply, reader_supply}
use Rattle.lp_spec_design.specs.Settled.{Assignment, state_of}
use Rattle.lp_spec_pins.specs.Pins.{Powered, PinAssignment, state_from, supply_begun, state_of_pg, state_at, state_pair, related, Pair, signal_at, supply_of_node, driving, read_by}
use Rattle.lp_spec_fit.specs.Joins.{Joins}
use Rattle.lp_spec_realises.specs.Projects.{Project, network_of}
use Rattle.lp_spec_realises.specs.ProjectNetlists.{netlist_of}
use Rattle.lp_spec_realises.specs.Operators.{Placement}
use Rattle.lp_spec_realises.specs.Surroundings.{powered_of, supply_node, nodes_of_set, set_of}
use Rattle.lp_spec_voltages.specs.Powers.{power_origin}
use Rattle.lp_spec_voltages.proofs.Readings.{reads-node}
use Rattle.lp_spec_voltages.specs.Voltages.{state_if, power_state, IsNeverUnder}

pub pin-power : (w : Powered) (B : PinAssignment) (path : Path) (x : Name) (c : CellView) (join : Joins) (st : ℕ → SupplyState)
    → ((k : ℕ) (g : PgPinView) (o : ℕ) → slice_get c.pgs k ≡ Some g → join k g ≡ Some o → state_of_pg w B path x (Some g) ≡ st o)
    → (q : PinView) (o : ℕ) → power_origin c join q ≡ Some o → (related w B path x c q).power ≡ st o
pin-power w B path x c join st stands q o is = by (slice_get c.pgs q.power) refl is
  where
    by : (found : Option PgPinView) → slice_get c.pgs q.power ≡ found → option_and_then (join q.power) found ≡ Some o → state_of_pg w B path x found ≡ st o
    by None at e = absurd cc
    by (Some g) at e = stands q.power g o at e

pub pin-reads : (w : Powered) (B : PinAssignment) (path : Path) (x : Name) (c : CellView) (join : Joins) (st : ℕ → SupplyState)
    → ((k : ℕ) (g : PgPinView) (o : ℕ) → slice_get c.pgs k ≡ Some g → join k g ≡ Some o → state_of_pg w B path x (Some g) ≡ st o)
    → (q : PinView) (o : ℕ) → power_origin c join q ≡ Some o → (k : Node) (a : SupplyState) → IsNeverUnder w.around.margin a (st o)
    → supply_of_node w k ≡ None → ((r : Pair) → driving w B k ≡ Some r → r.power ≡ a) → read_by w B k (related w B path x c q) ≡ signal_at B k
pin-reads w B path x c join st stands q o is k a never no_supply driver =
    reads-node w B k (related w B path x c q) a (st o) never no_supply driver (pin-power w B path x c join st stands q o is)

-- a constant is joined to no supply
fixed-trail : (s : Structure) (steps : ℕ) (b : Bool) → trail s steps (Fixed b) ≡ []
fixed-trail s zero b = refl
fixed-trail s (suc steps) b = refl

fixed-unknown : (w : Powered) (B : PinAssignment) (b : Bool) → state_at w B (Fixed b) ≡ Unknown
fixed-unknown w B b = ap (λ way. state_from B (supply_begun w (beginning (Fixed b) way) (source_of w.structure (beginning (Fixed b) way)))) (fixed-trail w.structure (fuel_of w.structure) b)

module _ (p : Project) (modules : List ModuleView) (place : Placement) (A : Assignment) (B : PinAssignment)
    (stands : (o : ℕ) → state_at (powered_of p modules place) B (supply_node p (netlist_of p modules) place o) ≡ state_of A o) where
  pair-power : (found : Option SupplySet)
      → (state_pair (powered_of p modules place) B (nodes_of_set p (netlist_of p modules) place found)).power ≡ state_if A (option_and_then (λ (s : SupplySet). Some s.power) found)
  pair-power None = fixed-unknown (powered_of p modules place) B true
  pair-power (Some s) = stands s.power

  set-power : (k : Option SetNumber)
      → (state_pair (powered_of p modules place) B (nodes_of_set p (netlist_of p modules) place (set_of p k))).power ≡ power_state p A k
  set-power None = pair-power None
  set-power (Some k) = pair-power (slice_get (network_of p).sets k)

  pub top-powers : (n : Name)
      → ((state_pair (powered_of p modules place) B ((powered_of p modules place).around.driver n)).power ≡ power_state p A (source_supply p.intent (Outer n None) (Some Environment)))
      × ((state_pair (powered_of p modules place) B ((powered_of p modules place).around.receiver n)).power ≡ power_state p A (reader_supply p.intent (TopOutput n None)))
  top-powers n = (set-power (source_supply p.intent (Outer n None) (Some Environment)), set-power (reader_supply p.intent (TopOutput n None)))
