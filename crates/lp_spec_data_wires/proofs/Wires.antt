-- Each wire of data stands in the written netlist.
use Rattle.std.proofs.Common.{◌≡◌, ℕ, Bool, true, false, not, List, Option, Some, None, refl, sym, ◌∙◌, ap, subst}
use Rattle.std.specs.Prelude.{is_some, slice_get}
use Rattle.std.proofs.lemmas.Bool.{false≢true, not-true}
use Rattle.lp_spec_design.specs.Keys.{Node, Way}
use Rattle.lp_spec_design.specs.Netlists.{Structure}
use Rattle.lp_spec_design.specs.Graph.{when}
use Rattle.lp_spec_design.specs.Reads.{one, other}
use Rattle.lp_spec_realises.specs.Projects.{Project}
use Rattle.lp_spec_written.specs.Places.{Standing}
use Rattle.lp_spec_written.specs.Written.{Additions}
use Rattle.lp_spec_hub.specs.Spots.{Spot, OfNode, Behind, Before, Lead, Carried, Routed, FromSpot, on_way, is_behind}
use Rattle.lp_spec_hub.specs.Drives.{passed, drive_behind, drive_before, is_fixed, is_led}
use Rattle.lp_spec_wired.specs.Contents.{IsWrittenAt}
use Rattle.lp_spec_wired.specs.Names.{placement_by}
use Rattle.lp_spec_wired.specs.Laws.{StandsFor}
use Rattle.lp_spec_driven.specs.Sound.{IsProper}
use Rattle.lp_spec_driven.proofs.Operators.{slice-in}
use Rattle.lp_spec_driven.proofs.Begun.{constant-nets-stand}
use Rattle.lp_spec_data_wires.specs.Laws.{DataWiresStand}
use Rattle.lp_spec_data_wires.proofs.Ports as ports
use Rattle.lp_spec_data_wires.proofs.Nodes.{node-stands}
use Rattle.lp_spec_data_wires.proofs.Readings.{reading, leads-a-constant}

when-some : {A : Type 0} (b : Bool) (x : A) → is_some (when b x) ≡ true → b ≡ true
when-some true x e = refl
when-some false x e = absurd (false≢true e)

module _ (p : Project) (a : Additions) (w : Structure) (from : Way → Node) (written : IsWrittenAt p a w) (proper : IsProper p a from) where
  abbrev Stands : Spot → Type 0
  Stands k = StandsFor p a w (placement_by p a) from k

  module _ (v : Way) where
    abbrev here : List Standing
    here = on_way a.plan.operators v

    behind : (k : ℕ) (o : Option Standing) → slice_get here k ≡ o → is_some (drive_behind v k o) ≡ true → Stands (Behind v k)
    behind k None f h = absurd (false≢true h)
    behind k (Some o) f h = (ports.stands p a w from written proper v k o f).before (not-true (is_behind o) (when-some (not (is_behind o)) _ h))

    before : (k : ℕ) (o : Option Standing) → slice_get here k ≡ o → is_some (drive_before here v (from v) k o) ≡ true → Stands (Before v k)
    before k None f h = absurd (false≢true h)
    before k (Some o) f h =
        let on = ports.on-plan p a w from written proper v o (slice-in here k o f) in
        subst (λ u. Stands (Before u k)) on.1
        (reading p a w from written proper o on.0 k (ap (λ u. slice_get (on_way a.plan.operators u) k) on.1 ∙ f) (when-some (is_behind o) (passed here v (from v) k) h))

    lead : (o : Option Standing) → slice_get here 0 ≡ o → is_led (from v) o ≡ true → Stands (Lead v)
    lead None f h = absurd (false≢true h)
    lead (Some o) f h =
        let on = ports.on-plan p a w from written proper v o (slice-in here 0 o f) in
        let m = ports.module-of p a w from written proper o on.0 in
        let side = not-true (is_behind o) (one (not (is_behind o)) (is_fixed (from v)) h) in
        let fixed = ap is_fixed (sym (ap from (sym on.1) ∙ proper.comes o on.0)) ∙ other (not (is_behind o)) (is_fixed (from v)) h in
        constant-nets-stand p a w from written proper v o f (leads-a-constant p a w from written proper o on.0 side fixed) m.0 m.1

pub data-wires-stand : DataWiresStand
data-wires-stand p a w from written proper (OfNode k) data_wire h = node-stands p a w from written proper k h
data-wires-stand p a w from written proper (Behind v k) data_wire h = behind p a w from written proper v k (slice_get (on_way a.plan.operators v) k) refl h
data-wires-stand p a w from written proper (Before v k) data_wire h = before p a w from written proper v k (slice_get (on_way a.plan.operators v) k) refl h
data-wires-stand p a w from written proper (Lead v) data_wire h =
    lead p a w from written proper v (slice_get (on_way a.plan.operators v) 0) refl (when-some (is_led (from v) (slice_get (on_way a.plan.operators v) 0)) (FromSpot (OfNode (from v))) h)
data-wires-stand p a w from written proper (Carried o x) data_wire h = absurd (false≢true data_wire)
data-wires-stand p a w from written proper (Routed t) data_wire h = absurd (false≢true data_wire)
