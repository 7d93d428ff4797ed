-- What two sources of the net bit of one wire have in common.
use Rattle.std.proofs.Common.{◌≡◌, ℕ, zero, suc, Bool, true, false, not, cond, List, [], ◌∷◌, Option, Some, None, refl, sym, ◌∙◌, ap}
use Rattle.std.specs.Prelude.{slice_get}
use Rattle.lp_spec_design.specs.Keys.{Name, Path, Node, Inner, Outer, Way, Source, CellPin, SwitchedPin, Environment, From, same_path}
use Rattle.lp_spec_design.specs.Netlists.{Structure}
use Rattle.lp_spec_design.specs.Graph.{when, source_of, way_in}
use Rattle.lp_spec_design.specs.Intents.{Origin, FromPort, FromSwitch}
use Rattle.lp_spec_design.specs.Registers.{is_above}
use Rattle.lp_spec_realises.specs.Projects.{Project, network_of, port_of_origin}
use Rattle.lp_spec_realises.specs.Operators.{Placement}
use Rattle.lp_spec_realises.specs.Ends.{AtPin, AtSwitched, Nowhere, own_end}
use Rattle.lp_spec_realises.specs.Implements.{parent_of}
use Rattle.lp_spec_written.specs.Places.{Standing, Switching}
use Rattle.lp_spec_written.specs.Supplies.{has_port_of, switch_of}
use Rattle.lp_spec_written.specs.Routes.{has_part}
use Rattle.lp_spec_written.specs.Written.{Additions}
use Rattle.lp_spec_hub.specs.Spots.{Spot, OfNode, Behind, Before, Lead, Carried, Routed, Drive, AsSource, ByOperator, BySwitch, ByPort, FromSpot, on_way, is_behind}
use Rattle.lp_spec_hub.specs.Drives.{drive, passed, behind_last, drive_behind, drive_before, is_led, toward, part_from, port_from, switch_from, has_switch, drive_switch, drive_origin}
use Rattle.lp_spec_hub.specs.Begins.{IsWired}
use Rattle.lp_spec_wired.specs.Laws.{done_of}
use Rattle.lp_spec_driven.specs.Wires.{Gives}
use Rattle.lp_spec_driven.proofs.Sources.{of-when-is}

-- both begin there with the same end, or both are ways from one node
pub data Alike (k : Node) (y z : Source) : Type 0 where
  Begin : way_in (Some y) ≡ None → way_in (Some z) ≡ None → own_end k (Some y) ≡ own_end k (Some z) → Alike k y z
  Come : (j : Node) (v u : Way) → y ≡ From v j → z ≡ From u j → Alike k y z

-- ---- only net bits of the source have sources of the design

passed-source : (here : List Standing) (w : Way) (j : Node) (n : ℕ) (z : Source) → passed here w j n ≡ AsSource z → ⊥
passed-source here w j zero z e = absurd cc
passed-source here w j (suc k) z e = by (slice_get here k) e
  where
    last : (b : Bool) → cond b (ByOperator w k) (FromSpot (Behind w k)) ≡ AsSource z → ⊥
    last true g = absurd cc
    last false g = absurd cc

    by : (o : Option Standing) → behind_last w k o ≡ AsSource z → ⊥
    by None g = absurd cc
    by (Some o) g = last (is_behind o) g

module _ (p : Project) (a : Additions) (from : Way → Node) (z : Source) where
  abbrev ops : Way → List Standing
  ops w = on_way a.plan.operators w

  was : (b : Bool) (d : Drive) → when b d ≡ Some (AsSource z) → d ≡ AsSource z
  was b d e = sym (of-when-is b d (AsSource z) e)

  behind-source : (w : Way) (k : ℕ) (o : Option Standing) → drive_behind w k o ≡ Some (AsSource z) → ⊥
  behind-source w k None e = absurd cc
  behind-source w k (Some o) e = let is = was (not (is_behind o)) (ByOperator w k) e in absurd cc

  before-source : (w : Way) (k : ℕ) (o : Option Standing) → drive_before (ops w) w (from w) k o ≡ Some (AsSource z) → ⊥
  before-source w k None e = absurd cc
  before-source w k (Some o) e = passed-source (ops w) w (from w) k z (was (is_behind o) (passed (ops w) w (from w) k) e)

  switch-source : (o : ℕ) (x : Path) (r : Switching) (b c : Bool) → cond c (BySwitch o) (FromSpot (Carried o (cond b (toward r.path x) (parent_of x)))) ≡ AsSource z → ⊥
  switch-source o x r b true e = absurd cc
  switch-source o x r b false e = absurd cc

  by-switch : (o : ℕ) (x : Path) (r : Option Switching) → drive_switch a.uses o x r ≡ Some (AsSource z) → ⊥
  by-switch o x None e = absurd cc
  by-switch o x (Some r) e = switch-source o x r (is_above x r.path) (same_path x r.path) (was (has_switch a.uses r x) (switch_from o r.path x) e)

  port-source : (o : ℕ) (x : Path) → port_from o x ≡ AsSource z → ⊥
  port-source o [] e = absurd cc
  port-source o (i ∷ x) e = absurd cc

  by-origin : (o : ℕ) (x : Path) (k : Option Origin) → drive_origin (done_of a) a.uses o x k ≡ Some (AsSource z) → ⊥
  by-origin o x None e = absurd cc
  by-origin o x (Some FromPort) e = port-source o x (was (has_port_of a.uses o x) (port_from o x) e)
  by-origin o x (Some (FromSwitch input control high)) e = by-switch o x (switch_of a.plan o) e

  abbrev IsOther : Spot → Type 0
  IsOther (OfNode k) = ⊥
  IsOther _ = Unit {0}

  pub no-source : (x : Spot) → IsOther x → drive p (done_of a) from x ≡ Some (AsSource z) → ⊥
  no-source (OfNode k) other e = other
  no-source (Behind w k) other e = behind-source w k (slice_get (ops w) k) e
  no-source (Before w k) other e = before-source w k (slice_get (ops w) k) e
  no-source (Lead w) other e = let is = was (is_led (from w) (slice_get (ops w) 0)) (FromSpot (OfNode (from w))) e in absurd cc
  no-source (Carried o x) other e = by-origin o x (slice_get (network_of p).origins o) e
  no-source (Routed t) other e = let is = was (has_part a.controls t) (FromSpot (part_from a.controls t.control t.path t.kind)) e in absurd cc

-- ---- two sources of one wire

-- the source of a net bit that is driven as the wire
pub given : (p : Project) (w : Structure) (at : Placement) (name : Spot → Node) (x : Spot) (d : Drive) (y : Source) → source_of w (name x) ≡ Some y → IsWired p w at name x (Some d) → Gives p w at name x d y
given p w at name (OfNode k) (AsSource z) y e g = record { first = ap way_in (sym e) ∙ g.first; own = ap (own_end (name (OfNode k))) (sym e) ∙ g.own }
given p w at name (Behind v k) (AsSource z) y e g = tt
given p w at name (Before v k) (AsSource z) y e g = tt
given p w at name (Lead v) (AsSource z) y e g = tt
given p w at name (Carried o u) (AsSource z) y e g = tt
given p w at name (Routed t) (AsSource z) y e g = tt
given p w at name x (ByOperator way k) y e g = record { first = ap way_in (sym e) ∙ g.first; own = ap (own_end (name x)) (sym e) ∙ g.own }
given p w at name x (BySwitch o) y e g = record { first = ap way_in (sym e) ∙ g.first; own = ap (own_end (name x)) (sym e) ∙ g.own }
given p w at name x (ByPort o) y e g = record { leads = record { way = g.leads.way; is = only y (From g.leads.way (Outer (port_of_origin p o) None)) (sym e ∙ g.leads.source) }; starts = g.starts }
  where
    only : (y z : Source) → Some y ≡ Some z → y ≡ z
    only y z same = cc
given p w at name x (FromSpot z) y e g = record { way = g.way; is = only y (From g.way (name z)) (sym e ∙ g.source) }
  where
    only : (y z : Source) → Some y ≡ Some z → y ≡ z
    only y z same = cc

pub alike : (p : Project) (a : Additions) (w : Structure) (at : Placement) (from : Way → Node) (name : Spot → Node) (x : Spot) (d : Drive) (y z : Source)
    → drive p (done_of a) from x ≡ Some d → Gives p w at name x d y → Gives p w at name x d z → Alike (name x) y z
alike p a w at from name (OfNode k) (AsSource s) y z e g h = Begin g.first h.first (g.own ∙ sym h.own)
alike p a w at from name (Behind v k) (AsSource s) y z e g h = absurd (no-source p a from s (Behind v k) tt e)
alike p a w at from name (Before v k) (AsSource s) y z e g h = absurd (no-source p a from s (Before v k) tt e)
alike p a w at from name (Lead v) (AsSource s) y z e g h = absurd (no-source p a from s (Lead v) tt e)
alike p a w at from name (Carried o u) (AsSource s) y z e g h = absurd (no-source p a from s (Carried o u) tt e)
alike p a w at from name (Routed t) (AsSource s) y z e g h = absurd (no-source p a from s (Routed t) tt e)
alike p a w at from name x (ByOperator way k) y z e g h = Begin g.first h.first (g.own ∙ sym h.own)
alike p a w at from name x (BySwitch o) y z e g h = Begin g.first h.first (g.own ∙ sym h.own)
alike p a w at from name x (ByPort o) y z e g h = Come (Outer (port_of_origin p o) None) g.leads.way h.leads.way g.leads.is h.leads.is
alike p a w at from name x (FromSpot s) y z e g h = Come (name s) g.way h.way g.is h.is

-- two that begin at a net bit with one end are one
pub begin-same : (n : Name) (i : Option ℕ) (x : Path) (y z : Source) → way_in (Some y) ≡ None → way_in (Some z) ≡ None → own_end (Inner n i x) (Some y) ≡ own_end (Inner n i x) (Some z) → y ≡ z
begin-same n i x (From v j) z f g e = absurd cc
begin-same n i x (CellPin q b c) (From v j) f g e = absurd cc
begin-same n i x (SwitchedPin q b c) (From v j) f g e = absurd cc
begin-same n i x Environment (From v j) f g e = absurd cc
begin-same n i x (CellPin q b c) (CellPin r d s) f g e = let ends : AtPin q b c ≡ AtPin r d s = e in cc
begin-same n i x (CellPin q b c) (SwitchedPin r d s) f g e = let ends : AtPin q b c ≡ AtSwitched r d s = e in absurd cc
begin-same n i x (CellPin q b c) Environment f g e = let ends : AtPin q b c ≡ Nowhere = e in absurd cc
begin-same n i x (SwitchedPin q b c) (CellPin r d s) f g e = let ends : AtSwitched q b c ≡ AtPin r d s = e in absurd cc
begin-same n i x (SwitchedPin q b c) (SwitchedPin r d s) f g e = let ends : AtSwitched q b c ≡ AtSwitched r d s = e in cc
begin-same n i x (SwitchedPin q b c) Environment f g e = let ends : AtSwitched q b c ≡ Nowhere = e in absurd cc
begin-same n i x Environment (CellPin r d s) f g e = let ends : Nowhere ≡ AtPin r d s = e in absurd cc
begin-same n i x Environment (SwitchedPin r d s) f g e = let ends : Nowhere ≡ AtSwitched r d s = e in absurd cc
begin-same n i x Environment Environment f g e = refl
