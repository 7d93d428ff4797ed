-- Each supply that comes to an instance is driven there as the hub says.
use Rattle.std.proofs.Common.{◌≡◌, ℕ, Bool, true, false, ◌==◌, [], ◌∷◌, Option, Some, None, refl, sym, subst}
use Rattle.std.specs.Prelude.{is_some, slice_get}
use Rattle.std.proofs.lemmas.Bool.{both_ways, false≢true, eqb-true}
use Rattle.lp_spec_design.specs.Keys.{Path, same_path, Node, Way}
use Rattle.lp_spec_design.specs.Netlists.{Structure, module_at}
use Rattle.lp_spec_design.specs.Reads.{one, path-true}
use Rattle.lp_spec_design.specs.Registers.{is_above}
use Rattle.lp_spec_design.specs.Winners.{IsIn}
use Rattle.lp_spec_design.specs.Intents.{Origin, FromPort, FromSwitch}
use Rattle.lp_spec_design.proofs.Sources.{first_in}
use Rattle.lp_spec_realises.specs.Projects.{Project, network_of}
use Rattle.lp_spec_written.specs.Places.{instances, Switching}
use Rattle.lp_spec_written.specs.Supplies.{is_used, switch_of, has_port_of, goes_out}
use Rattle.lp_spec_written.specs.Written.{Additions}
use Rattle.lp_spec_hub.specs.Spots.{Spot, Carried}
use Rattle.lp_spec_hub.specs.Drives.{port_from, switch_from, has_switch, drive_switch, drive_origin}
use Rattle.lp_spec_hub.proofs.Paths.{top-above, step-to, not-same}
use Rattle.lp_spec_wired.specs.Contents.{IsWrittenAt}
use Rattle.lp_spec_wired.specs.Names.{placement_by}
use Rattle.lp_spec_wired.specs.Laws.{done_of, StandsFor}
use Rattle.lp_spec_wired.proofs.Supplies.{ports-come-down, switches-come-down}
use Rattle.lp_spec_written_at.proofs.Paths.{some-is}
use Rattle.lp_spec_driven.specs.Sound.{IsProper}
use Rattle.lp_spec_driven.proofs.Begun.{switch-outputs-stand}
use Rattle.lp_spec_driven.proofs.Up.{supplies-go-up}
use Rattle.lp_spec_wires.specs.Standing.{HasPlaces}
use Rattle.lp_spec_added_wires.specs.Laws.{SupplyWiresStand}
use Rattle.lp_spec_added_wires.proofs.Places.{child, above-there, module-there, some-when}
use Rattle.lp_spec_added_wires.proofs.Homes.{user, has-in, has-out}

module _ (p : Project) (a : Additions) (w : Structure) (from : Way → Node) (written : IsWrittenAt p a w) (proper : IsProper p a from) (places : HasPlaces p a) where
  abbrev s : Structure
  s = p.structure

  abbrev Stands : Spot → Type 0
  Stands x = StandsFor p a w (placement_by p a) from x

  there : (x : Path) → IsIn x (instances p) → is_some (module_at s x) ≡ true
  there x h = module-there p proper.fit.free places.top x h

  used-there : (o : ℕ) (x : Path) → is_used a.uses o x ≡ true → is_some (module_at s x) ≡ true
  used-there o x h = let u = user a.uses o x h in above-there s x u.use_of.0 u.below (there u.use_of.0 (places.users u.use_of u.listed))

  port-there : (o : ℕ) (x : Path) → has_port_of a.uses o x ≡ true → is_some (module_at s x) ≡ true
  port-there o [] h = places.top
  port-there o (i ∷ x) h = used-there o (i ∷ x) h

  -- ---- a switch

  module _ (o input : ℕ) (control : Node) (high : Bool) (kind : slice_get (network_of p).origins o ≡ Some (FromSwitch input control high)) (r : Switching) (its : switch_of a.plan o ≡ Some r) where
    listed : IsIn r a.plan.switches × ((r.asked.origin == o) ≡ true)
    listed = first_in (λ (v : Switching). v.asked.origin == o) a.plan.switches r its

    scope-there : is_some (module_at s r.path) ≡ true
    scope-there = there r.path (places.switches r listed.0)

    at-scope : (x : Path) → same_path x r.path ≡ true → Stands (Carried o x)
    at-scope x h =
        let m = some-is (module_at s r.path) scope-there in
        subst (λ q. Stands (Carried q x)) (eqb-true r.asked.origin o listed.1)
        (subst (λ y. Stands (Carried r.asked.origin y)) (sym (path-true x r.path h)) (switch-outputs-stand p a w from written proper r listed.0 m.0 m.1))

    from-below : (x : Path) → is_above x r.path ≡ true → same_path x r.path ≡ false → has_switch a.uses r x ≡ true → Stands (Carried o x)
    from-below x over differ has =
        let step = step-to x r.path over (not-same x r.path differ) in
        let inner = some-is (module_at s (step.name ∷ x)) (above-there s (step.name ∷ x) r.path step.above scope-there) in
        let c = child s step.name x inner.0 inner.1 in
        supplies-go-up p a w from written proper x c.outer c.at c.instance inner.0 c.listed c.target o input control high kind r its
        (subst (λ n. goes_out a.uses r (n ∷ x) ≡ true) (sym c.name) (has-out a.uses r x step.name over step.above has))

    from-above : (x : Path) → is_above x r.path ≡ false → has_switch a.uses r x ≡ true → Stands (Carried o x)
    from-above [] away has = absurd (both_ways (is_above [] r.path) away (top-above r.path))
    from-above (i ∷ x) away has =
        let into = has-in a.uses r (i ∷ x) away has in
        let m = some-is (module_at s (i ∷ x)) (used-there r.asked.origin (i ∷ x) (one (is_used a.uses r.asked.origin (i ∷ x)) _ into)) in
        switches-come-down p a w (placement_by p a) from written proper.plain.leaves o input control high kind r its i x m.0 m.1 into

    by-place : (x : Path) (b c : Bool) → is_above x r.path ≡ b → same_path x r.path ≡ c → has_switch a.uses r x ≡ true → Stands (Carried o x)
    by-place x b true over same has = at-scope x same
    by-place x true false over differ has = from-below x over differ has
    by-place x false false away differ has = from-above x away has

  -- ---- any origin

  by-switch : (o input : ℕ) (control : Node) (high : Bool) → slice_get (network_of p).origins o ≡ Some (FromSwitch input control high)
      → (x : Path) (r : Option Switching) → switch_of a.plan o ≡ r → is_some (drive_switch a.uses o x r) ≡ true → Stands (Carried o x)
  by-switch o input control high kind x None its h = absurd (false≢true h)
  by-switch o input control high kind x (Some r) its h = by-place o input control high kind r its x (is_above x r.path) (same_path x r.path) refl refl (some-when (has_switch a.uses r x) (switch_from o r.path x) h)

  by-origin : (o : ℕ) (x : Path) (k : Option Origin) → slice_get (network_of p).origins o ≡ k → is_some (drive_origin (done_of a) a.uses o x k) ≡ true → Stands (Carried o x)
  by-origin o x None kind h = absurd (false≢true h)
  by-origin o x (Some FromPort) kind h =
      let m = some-is (module_at s x) (port-there o x (some-when (has_port_of a.uses o x) (port_from o x) h)) in
      ports-come-down p a w (placement_by p a) from written proper.plain.leaves o kind x m.0 m.1
  by-origin o x (Some (FromSwitch input control high)) kind h = by-switch o input control high kind x (switch_of a.plan o) refl h

pub supply-wires-stand : SupplyWiresStand
supply-wires-stand p a w from written proper places o x h = by-origin p a w from written proper places o x (slice_get (network_of p).origins o) refl h
