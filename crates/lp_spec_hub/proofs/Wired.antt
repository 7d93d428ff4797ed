-- In a netlist whose net bits stand for the wires, their ends are what begins at the wires.
use Rattle.std.proofs.Common.{◌≡◌, ℕ, Bool, true, zero, suc, List, [], Option, Some, None, refl, sym, ap, ◌∙◌, subst}
use Rattle.lp_spec_design.specs.Keys.{Node, Outer, Way}
use Rattle.lp_spec_design.specs.Netlists.{Structure}
use Rattle.lp_spec_design.specs.Nodes.{fuel_of, HasFuel}
use Rattle.lp_spec_design.specs.Graph.{source_of, trail, way_in, going_back, beginning}
use Rattle.lp_spec_realises.specs.Projects.{Project, port_of_origin}
use Rattle.lp_spec_realises.specs.Operators.{Placement}
use Rattle.lp_spec_realises.specs.Ends.{End, own_end, wire_end}
use Rattle.lp_spec_hub.specs.Spots.{Spot, OfNode, Behind, Before, Lead, Carried, Routed, Drive, AsSource, ByOperator, BySwitch, ByPort, FromSpot}
use Rattle.lp_spec_hub.specs.Begins.{Begin, InNode, InOperator, InSwitch, InPort, begins_by, own_begin, EndsIn, EndsAt, end_of, StartsAt, StartsOwn, LeadsTo, IsWired, IsClosed}

inside : {e d : Begin} → Some d ≡ Some e → d ≡ e
inside is = cc

module _ (w : Structure) where
  stops : (fuel : ℕ) (k : Node) → way_in (source_of w k) ≡ None → trail w fuel k ≡ []
  stops zero k e = refl
  stops (suc fuel) k e = ap (going_back (λ j. trail w fuel j)) e

  abbrev end_along : Node → List (Way × Node) → End
  end_along k t = own_end (beginning k t) (source_of w (beginning k t))

  starts-end : (fuel : ℕ) (k : Node) (e : End) → StartsAt w k e → wire_end w fuel k ≡ e
  starts-end fuel k e h = ap (end_along k) (stops fuel k h.first) ∙ h.own

  module _ (enough : HasFuel w) where
    leads-end : (j k : Node) → LeadsTo w j k → wire_end w (fuel_of w) k ≡ wire_end w (fuel_of w) j
    leads-end j k h = ap (end_along k) (sym (enough k) ∙ ap (λ o. going_back (λ i. trail w (fuel_of w) i) (way_in o)) h.source)

    module _ (p : Project) (at : Placement) (name : Spot → Node) where
      own-end : (x : Spot) (e : Begin) → own_begin x ≡ Some e → StartsOwn p w name x → wire_end w (fuel_of w) (name x) ≡ end_of p w at e
      own-end (OfNode k) e is h = starts-end (fuel_of w) (name (OfNode k)) (end_of p w at (InNode k)) h ∙ ap (end_of p w at) (inside is)
      own-end (Behind v n) e is h = absurd cc
      own-end (Before v n) e is h = absurd cc
      own-end (Lead v) e is h = absurd cc
      own-end (Carried o y) e is h = absurd cc
      own-end (Routed t) e is h = absurd cc

      here-end : (x : Spot) (e : Begin) (d : Option Drive) → begins_by d x ≡ Some e → IsWired p w at name x d → wire_end w (fuel_of w) (name x) ≡ end_of p w at e
      here-end x e None is h = own-end x e is h
      here-end x e (Some (AsSource y)) is h = own-end x e is h
      here-end x e (Some (ByOperator v k)) is h = starts-end (fuel_of w) (name x) (end_of p w at (InOperator v k)) h ∙ ap (end_of p w at) (inside is)
      here-end x e (Some (BySwitch o)) is h = starts-end (fuel_of w) (name x) (end_of p w at (InSwitch o)) h ∙ ap (end_of p w at) (inside is)
      here-end x e (Some (ByPort o)) is h =
          leads-end (Outer (port_of_origin p o) None) (name x) h.leads
          ∙ (starts-end (fuel_of w) (Outer (port_of_origin p o) None) (end_of p w at (InPort o)) h.starts ∙ ap (end_of p w at) (inside is))
      here-end x e (Some (FromSpot y)) is h = absurd cc

      -- only the wires that are there are asked for
      module _ (driven : Spot → Option Drive) (there : Spot → Bool) (wired : (x : Spot) → there x ≡ true → IsWired p w at name x (driven x)) (closed : IsClosed driven there) where
        wired-by : (x : Spot) (d : Option Drive) → driven x ≡ d → IsWired p w at name x (driven x) → IsWired p w at name x d
        wired-by x d is h = subst (λ o. IsWired p w at name x o) is h

        ends-in : (n : ℕ) (x : Spot) (e : Begin) → there x ≡ true → EndsIn driven n x e → wire_end w (fuel_of w) (name x) ≡ end_of p w at e
        ends-in zero x e t h = here-end x e (driven x) h (wired x t)
        ends-in (suc n) x e t h = leads-end (name h.0) (name x) (wired-by x (Some (FromSpot h.0)) h.1 (wired x t)) ∙ ends-in n h.0 e (closed x h.0 t h.1) h.2

        pub wired-ends : (x : Spot) (e : Begin) → there x ≡ true → EndsAt driven x e → wire_end w (fuel_of w) (name x) ≡ end_of p w at e
        wired-ends x e t h = ends-in h.0 x e t h.1
