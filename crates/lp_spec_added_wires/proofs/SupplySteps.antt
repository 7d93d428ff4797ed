-- What drives supplies are wires.
use Rattle.std.proofs.Common.{◌≡◌, ◌<◌, ℕ, suc, ◌+◌, ◌-◌, Bool, true, false, cond, [], ◌∷◌, length, Option, Some, None, refl, sym, ap, ◌∙◌, subst, arith}
use Rattle.std.specs.Prelude.{is_some, slice_get}
use Rattle.std.proofs.lemmas.Bool.{both_ways}
use Rattle.lp_spec_design.specs.Keys.{Name, Path, same_path, Node, Way}
use Rattle.lp_spec_design.specs.Graph.{when}
use Rattle.lp_spec_design.specs.Registers.{is_above}
use Rattle.lp_spec_design.specs.Intents.{Origin, FromPort, FromSwitch}
use Rattle.lp_spec_realises.specs.Projects.{Project, network_of}
use Rattle.lp_spec_realises.specs.Implements.{parent_of}
use Rattle.lp_spec_written.specs.Places.{Switching}
use Rattle.lp_spec_written.specs.Supplies.{is_used, switch_of, has_port_of}
use Rattle.lp_spec_written.specs.Written.{Additions}
use Rattle.lp_spec_hub.specs.Spots.{Spot, Carried, Drive, BySwitch, FromSpot}
use Rattle.lp_spec_hub.specs.Drives.{toward, port_from, switch_from, has_switch, drive_switch, drive_origin, drive}
use Rattle.lp_spec_hub.proofs.Paths.{top-above, step-to, not-same, above-length}
use Rattle.lp_spec_wired.specs.Laws.{done_of}
use Rattle.lp_spec_wires.specs.Standing.{is_wire}
use Rattle.lp_spec_added_wires.proofs.Places.{is-when}
use Rattle.lp_spec_added_wires.proofs.Homes.{used-parent, has-in, has-out, out-has, parent-has}
use Rattle.lp_spec_added_wires.proofs.Ranks.{supply_rank, rank, Step}

the-spot : (x y : Spot) → FromSpot x ≡ FromSpot y → x ≡ y
the-spot x y e = cc

module _ (p : Project) (a : Additions) (from : Way → Node) (o : ℕ) where
  -- ---- a port origin

  module _ (kind : slice_get (network_of p).origins o ≡ Some FromPort) where
    above : (i : Name) (x : Path) → is_used a.uses o (i ∷ x) ≡ true → has_port_of a.uses o x ≡ true
    above i [] h = refl
    above i (j ∷ x) h = used-parent a.uses o i (j ∷ x) h

    port-wire : (x : Path) → has_port_of a.uses o x ≡ true → is_wire p a from (Carried o x) ≡ true
    port-wire x h = ap (λ k. is_some (drive_origin (done_of a) a.uses o x k)) kind ∙ ap (λ b. is_some (when b (port_from o x))) h

    port-rank : (x : Path) → rank p a from (Carried o x) ≡ length x
    port-rank x = ap (λ k. supply_rank k (switch_of a.plan o) x) kind

    port-step : (x : Path) (y : Spot) → when (has_port_of a.uses o x) (port_from o x) ≡ Some (FromSpot y) → Step p a from (Carried o x) y
    port-step [] y h = let is = (is-when (has_port_of a.uses o []) (port_from o []) (FromSpot y) h).1 in absurd cc
    port-step (i ∷ x) y h =
        let drives = is-when (has_port_of a.uses o (i ∷ x)) (port_from o (i ∷ x)) (FromSpot y) h in
        let is = the-spot (Carried o x) y drives.1 in
        record {
          wire = subst (λ z. is_wire p a from z ≡ true) is (port-wire x (above i x drives.0));
          falls = λ fuel. subst (λ z. rank p a from z < rank p a from (Carried o (i ∷ x))) is (let here = port-rank x in let low = port-rank (i ∷ x) in omega (arith, here, low));
        }

  -- ---- a switch

  module _ (input : ℕ) (control : Node) (high : Bool) (kind : slice_get (network_of p).origins o ≡ Some (FromSwitch input control high)) (r : Switching) (its : switch_of a.plan o ≡ Some r) where
    switch-wire : (x : Path) → has_switch a.uses r x ≡ true → is_wire p a from (Carried o x) ≡ true
    switch-wire x h =
        ap (λ k. is_some (drive_origin (done_of a) a.uses o x k)) kind
        ∙ (ap (λ v. is_some (drive_switch a.uses o x v)) its ∙ ap (λ b. is_some (when b (switch_from o r.path x))) h)

    its-rank : (x : Path) (b : Bool) → is_above x r.path ≡ b → rank p a from (Carried o x) ≡ cond b (length r.path - length x) (suc (length r.path + length x))
    its-rank x b e =
        ap (λ k. supply_rank k (switch_of a.plan o) x) kind
        ∙ (ap (λ v. supply_rank (Some (FromSwitch input control high)) v x) its ∙ ap (λ c. cond c (length r.path - length x) (suc (length r.path + length x))) e)

    parent-rank : (x : Path) (i : Name) → rank p a from (Carried o x) < suc (length r.path + length (i ∷ x))
    parent-rank x i = by (is_above x r.path) refl
      where
        by : (b : Bool) → is_above x r.path ≡ b → rank p a from (Carried o x) < suc (length r.path + length (i ∷ x))
        by true e = let is = its-rank x true e in omega (arith, is)
        by false e = let is = its-rank x false e in omega (arith, is)

    from-below : (x : Path) (y : Spot) → is_above x r.path ≡ true → same_path x r.path ≡ false → has_switch a.uses r x ≡ true → Carried o (toward r.path x) ≡ y → Step p a from (Carried o x) y
    from-below x y over differ has is =
        let step = step-to x r.path over (not-same x r.path differ) in
        let to : Carried o (step.name ∷ x) ≡ y = ap (Carried o) (sym step.is) ∙ is in
        record {
          wire = subst (λ z. is_wire p a from z ≡ true) to (switch-wire (step.name ∷ x) (out-has a.uses r (step.name ∷ x) (has-out a.uses r x step.name over step.above has)));
          falls = λ fuel. subst (λ z. rank p a from z < rank p a from (Carried o x)) to
              (let high = its-rank x true over in let low = its-rank (step.name ∷ x) true step.above in let short = above-length (step.name ∷ x) r.path step.above in omega (arith, high, low, short));
        }

    from-above : (x : Path) (y : Spot) → is_above x r.path ≡ false → has_switch a.uses r x ≡ true → Carried o (parent_of x) ≡ y → Step p a from (Carried o x) y
    from-above [] y away has is = absurd (both_ways (is_above [] r.path) away (top-above r.path))
    from-above (i ∷ x) y away has is = record {
      wire = subst (λ z. is_wire p a from z ≡ true) is (switch-wire x (parent-has a.uses r i x (has-in a.uses r (i ∷ x) away has)));
      falls = λ fuel. subst (λ z. rank p a from z < rank p a from (Carried o (i ∷ x))) is (let low = its-rank (i ∷ x) false away in let less = parent-rank x i in omega (arith, low, less));
    }

    abbrev goes : Path → Bool → Bool → Drive
    goes x c b = cond c (BySwitch o) (FromSpot (Carried o (cond b (toward r.path x) (parent_of x))))

    by-place : (x : Path) (y : Spot) (c b : Bool) → same_path x r.path ≡ c → is_above x r.path ≡ b → has_switch a.uses r x ≡ true → goes x c b ≡ FromSpot y → Step p a from (Carried o x) y
    by-place x y true b same over has g = absurd cc
    by-place x y false true differ over has g = from-below x y over differ has (the-spot (Carried o (toward r.path x)) y g)
    by-place x y false false differ away has g = from-above x y away has (the-spot (Carried o (parent_of x)) y g)

    switch-step : (x : Path) (y : Spot) → when (has_switch a.uses r x) (switch_from o r.path x) ≡ Some (FromSpot y) → Step p a from (Carried o x) y
    switch-step x y h =
        let drives = is-when (has_switch a.uses r x) (switch_from o r.path x) (FromSpot y) h in
        by-place x y (same_path x r.path) (is_above x r.path) refl refl drives.0 drives.1

  by-switch : (x : Path) (y : Spot) (input : ℕ) (control : Node) (high : Bool) → slice_get (network_of p).origins o ≡ Some (FromSwitch input control high) → (r : Option Switching) → switch_of a.plan o ≡ r → drive_switch a.uses o x r ≡ Some (FromSpot y) → Step p a from (Carried o x) y
  by-switch x y input control high kind None its h = absurd cc
  by-switch x y input control high kind (Some r) its h = switch-step input control high kind r its x y h

  by-origin : (x : Path) (y : Spot) (k : Option Origin) → slice_get (network_of p).origins o ≡ k → drive_origin (done_of a) a.uses o x k ≡ Some (FromSpot y) → Step p a from (Carried o x) y
  by-origin x y None kind h = absurd cc
  by-origin x y (Some FromPort) kind h = port-step kind x y h
  by-origin x y (Some (FromSwitch input control high)) kind h = by-switch x y input control high kind (switch_of a.plan o) refl h

  pub supply-step : (x : Path) (y : Spot) → drive p (done_of a) from (Carried o x) ≡ Some (FromSpot y) → Step p a from (Carried o x) y
  supply-step x y h = by-origin x y (slice_get (network_of p).origins o) refl h
