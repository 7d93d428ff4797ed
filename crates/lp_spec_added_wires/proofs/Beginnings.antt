-- Where no way of the source comes back, each wire begins somewhere.
use Rattle.std.proofs.Common.{◌≡◌, ◌<◌, ℕ, zero, suc, Bool, true, false, not, cond, List, [], ◌∷◌, Option, Some, None, refl, sym, ap, ◌∙◌, arith}
use Rattle.std.specs.Prelude.{is_some, slice_get}
use Rattle.std.proofs.lemmas.Bool.{false≢true}
use Rattle.lp_spec_design.specs.Keys.{Path, same_path, Node, Way, Source}
use Rattle.lp_spec_design.specs.Nodes.{HasFuel}
use Rattle.lp_spec_design.specs.Registers.{is_above}
use Rattle.lp_spec_design.specs.Intents.{Origin, FromPort, FromSwitch}
use Rattle.lp_spec_realises.specs.Projects.{Project, network_of}
use Rattle.lp_spec_realises.specs.Implements.{parent_of}
use Rattle.lp_spec_written.specs.Places.{Standing, Switching}
use Rattle.lp_spec_written.specs.Supplies.{switch_of, has_port_of}
use Rattle.lp_spec_written.specs.Routes.{has_part}
use Rattle.lp_spec_written.specs.Written.{Additions}
use Rattle.lp_spec_hub.specs.Spots.{Spot, OfNode, Behind, Before, Lead, Carried, Routed, Drive, AsSource, ByOperator, BySwitch, ByPort, FromSpot, on_way, is_behind}
use Rattle.lp_spec_hub.specs.Drives.{behind_last, passed, drive_behind, drive_before, is_led, toward, port_from, switch_from, has_switch, drive_switch, drive_origin, part_from, drive}
use Rattle.lp_spec_hub.specs.Begins.{Begin, InNode, InOperator, InSwitch, InPort, begins_by, EndsAt}
use Rattle.lp_spec_wired.specs.Laws.{done_of}
use Rattle.lp_spec_driven.specs.Sound.{IsProper}
use Rattle.lp_spec_wires.specs.Standing.{is_wire, HasPlaces}
use Rattle.lp_spec_added_wires.specs.Laws.{WiresBegin}
use Rattle.lp_spec_added_wires.proofs.Places.{is-when}
use Rattle.lp_spec_added_wires.proofs.Ranks.{rank}
use Rattle.lp_spec_added_wires.proofs.Closed.{step}

-- ---- only net bits of the source have sources of the design

passed-source : (here : List Standing) (w : Way) (j : Node) (n : ℕ) (z : Source) → passed here w j n ≡ AsSource z → ⊥
passed-source here w j zero z e = absurd cc
passed-source here w j (suc k) z e = by (slice_get here k) e
  where
    last : (b : Bool) → cond b (ByOperator w k) (FromSpot (Behind w k)) ≡ AsSource z → ⊥
    last true g = absurd cc
    last false g = absurd cc

    by : (o : Option Standing) → behind_last w k o ≡ AsSource z → ⊥
    by None g = absurd cc
    by (Some o) g = last (is_behind o) g

module _ (p : Project) (a : Additions) (from : Way → Node) (z : Source) where
  abbrev ops : Way → List Standing
  ops w = on_way a.plan.operators w

  behind-source : (w : Way) (k : ℕ) (o : Option Standing) → drive_behind w k o ≡ Some (AsSource z) → ⊥
  behind-source w k None e = absurd cc
  behind-source w k (Some o) e = let is = (is-when (not (is_behind o)) (ByOperator w k) (AsSource z) e).1 in absurd cc

  before-source : (w : Way) (k : ℕ) (o : Option Standing) → drive_before (ops w) w (from w) k o ≡ Some (AsSource z) → ⊥
  before-source w k None e = absurd cc
  before-source w k (Some o) e = passed-source (ops w) w (from w) k z (is-when (is_behind o) (passed (ops w) w (from w) k) (AsSource z) e).1

  switch-source : (o : ℕ) (x : Path) (r : Switching) (b c : Bool) → cond c (BySwitch o) (FromSpot (Carried o (cond b (toward r.path x) (parent_of x)))) ≡ AsSource z → ⊥
  switch-source o x r b true e = absurd cc
  switch-source o x r b false e = absurd cc

  by-switch : (o : ℕ) (x : Path) (r : Option Switching) → drive_switch a.uses o x r ≡ Some (AsSource z) → ⊥
  by-switch o x None e = absurd cc
  by-switch o x (Some r) e = switch-source o x r (is_above x r.path) (same_path x r.path) (is-when (has_switch a.uses r x) (switch_from o r.path x) (AsSource z) e).1

  port-source : (o : ℕ) (x : Path) → port_from o x ≡ AsSource z → ⊥
  port-source o [] e = absurd cc
  port-source o (i ∷ x) e = absurd cc

  by-origin : (o : ℕ) (x : Path) (k : Option Origin) → drive_origin (done_of a) a.uses o x k ≡ Some (AsSource z) → ⊥
  by-origin o x None e = absurd cc
  by-origin o x (Some FromPort) e = port-source o x (is-when (has_port_of a.uses o x) (port_from o x) (AsSource z) e).1
  by-origin o x (Some (FromSwitch input control high)) e = by-switch o x (switch_of a.plan o) e

  of-node : (x : Spot) → drive p (done_of a) from x ≡ Some (AsSource z) → (k : Node) × (x ≡ OfNode k)
  of-node (OfNode k) e = (k, refl)
  of-node (Behind w k) e = absurd (behind-source w k (slice_get (ops w) k) e)
  of-node (Before w k) e = absurd (before-source w k (slice_get (ops w) k) e)
  of-node (Lead w) e = let is = (is-when (is_led (from w) (slice_get (ops w) 0)) (FromSpot (OfNode (from w))) (AsSource z) e).1 in absurd cc
  of-node (Carried o x) e = absurd (by-origin o x (slice_get (network_of p).origins o) e)
  of-node (Routed t) e = let is = (is-when (has_part a.controls t) (FromSpot (part_from a.controls t.control t.path t.kind)) (AsSource z) e).1 in absurd cc

module _ (p : Project) (a : Additions) (from : Way → Node) (proper : IsProper p a from) (places : HasPlaces p a) (fuel : HasFuel p.structure) where
  abbrev driven : Spot → Option Drive
  driven x = drive p (done_of a) from x

  abbrev Begins : Spot → Type 0
  Begins x = (e : Begin) × EndsAt driven x e

  -- what nothing drives is a net bit of the source
  undriven : (x : Spot) → driven x ≡ None → is_wire p a from x ≡ true → Begins x
  undriven (OfNode k) e there = (InNode k, (zero, ap (λ d. begins_by d (OfNode k)) e))
  undriven (Behind w k) e there = absurd (false≢true (sym (ap is_some e) ∙ there))
  undriven (Before w k) e there = absurd (false≢true (sym (ap is_some e) ∙ there))
  undriven (Lead w) e there = absurd (false≢true (sym (ap is_some e) ∙ there))
  undriven (Carried o x) e there = absurd (false≢true (sym (ap is_some e) ∙ there))
  undriven (Routed t) e there = absurd (false≢true (sym (ap is_some e) ∙ there))

  by-rank : (n : ℕ) (x : Spot) → rank p a from x < n → is_wire p a from x ≡ true → Begins x
  by-rank zero x less there = absurd (omega (arith, less))
  by-rank (suc n) x less there = by (driven x) refl (λ y h g. by-rank n y h g)
    where
      by : (d : Option Drive) → driven x ≡ d → ((y : Spot) → rank p a from y < n → is_wire p a from y ≡ true → Begins y) → Begins x
      by None e more = undriven x e there
      by (Some (AsSource z)) e more =
          let node = of-node p a from z x e in
          (InNode node.0, (zero, ap (λ d. begins_by d x) e ∙ ap (begins_by (Some (AsSource z))) node.1))
      by (Some (ByOperator w k)) e more = (InOperator w k, (zero, ap (λ d. begins_by d x) e))
      by (Some (BySwitch o)) e more = (InSwitch o, (zero, ap (λ d. begins_by d x) e))
      by (Some (ByPort o)) e more = (InPort o, (zero, ap (λ d. begins_by d x) e))
      by (Some (FromSpot y)) e more =
          let back = step p a from proper places x y e in
          let falls = back.falls fuel in
          let rest = more y (omega (arith, less, falls)) back.wire in
          (rest.0, (suc rest.1.0, (y, e, rest.1.1)))

  pub wire-begins : (x : Spot) → is_wire p a from x ≡ true → Begins x
  wire-begins x there = by-rank (suc (rank p a from x)) x (omega arith) there

pub wires-begin : WiresBegin
wires-begin p a from proper places fuel x there = wire-begins p a from proper places fuel x there
