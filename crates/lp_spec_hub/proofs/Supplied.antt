-- Supply origins begin at their ports and switches in each instance that uses them.
use Rattle.std.proofs.Common.{◌≡◌, ◌≤◌, ℕ, zero, suc, ◌+◌, Bool, true, false, cond, not, ◌&&◌, ◌||◌, ◌==◌, List, [], ◌∷◌, map, length, Option, Some, None, inl, inr, refl, sym, ap, ◌∙◌, subst, arith}
use Rattle.std.specs.Prelude.{filter, is_some, slice_get}
use Rattle.std.proofs.lemmas.Bool.{true≢false, false≢true, eqb-true, eq-eqb}
use Rattle.lp_spec_design.specs.Keys.{Name, Path, same_path, Node, Way}
use Rattle.lp_spec_design.specs.Netlists.{Structure, first}
use Rattle.lp_spec_design.specs.Reads.{one, other, both, path-self}
use Rattle.lp_spec_design.specs.Graph.{when}
use Rattle.lp_spec_design.specs.Winners.{IsIn}
use Rattle.lp_spec_design.specs.Intents.{Origin, FromPort, FromSwitch}
use Rattle.lp_spec_design.specs.Registers.{is_above}
use Rattle.lp_spec_realises.specs.Projects.{Project, network_of}
use Rattle.lp_spec_realises.specs.Operators.{Placement}
use Rattle.lp_spec_realises.specs.Realises.{origin_end}
use Rattle.lp_spec_realises.specs.Implements.{parent_of}
use Rattle.lp_spec_written.specs.Places.{Switching}
use Rattle.lp_spec_written.specs.Supplies.{Use, is_used, common, common_of, home, has_port_of, goes_out, goes_in, switch_of}
use Rattle.lp_spec_hub.specs.Spots.{Carried, BySwitch, FromSpot, Done}
use Rattle.lp_spec_hub.specs.Drives.{toward, switch_from, has_switch, drive_switch, drive_origin, drive_supply, drive}
use Rattle.lp_spec_hub.specs.Begins.{InSwitch, InPort, begins_by, EndsAt, end_of}
use Rattle.lp_spec_hub.specs.Entries.{origin_begin, is_there}
use Rattle.lp_spec_hub.proofs.Ends.{step-back}
use Rattle.lp_spec_hub.proofs.Paths.{paths-differ, not-same, above-self, above-step, above-trans, above-parent, above-less, above-level, above-both, top-above, step-to, common-left, common-right}
use Rattle.lp_spec_hub.proofs.Routes.{or-left, or-right, or-either}

-- ---- users

used-mono : (all : List Use) (o : ℕ) (x y : Path) → ((z : Path) → is_above x z ≡ true → is_above y z ≡ true) → is_used all o x ≡ true → is_used all o y ≡ true
used-mono [] o x y more h = absurd (false≢true h)
used-mono (u ∷ all) o x y more h = elim (or-either ((u.1 == o) && is_above x u.0) (is_used all o x) h) [
  | inl here ↦ or-left ((u.1 == o) && is_above y u.0) (is_used all o y) (both (u.1 == o) (is_above y u.0) (one (u.1 == o) (is_above x u.0) here) (more u.0 (other (u.1 == o) (is_above x u.0) here)))
  | inr rest ↦ or-right ((u.1 == o) && is_above y u.0) (is_used all o y) (used-mono all o x y more rest)
]

used-parent : (all : List Use) (o : ℕ) (i : Name) (x : Path) → is_used all o (i ∷ x) ≡ true → is_used all o x ≡ true
used-parent all o i x h = used-mono all o (i ∷ x) x (λ z above. above-parent x i z above) h

used-here : (all : List Use) (o : ℕ) (x : Path) → IsIn (x, o) all → is_used all o x ≡ true
used-here [] o x h = absurd h
used-here (u ∷ all) o x (inl is) = or-left ((u.1 == o) && is_above x u.0) (is_used all o x) (ap (λ (v : Use). (v.1 == o) && is_above x v.0) (sym is) ∙ both (o == o) (is_above x x) (eq-eqb o o refl) (above-self x))
used-here (u ∷ all) o x (inr h) = or-right ((u.1 == o) && is_above x u.0) (is_used all o x) (used-here all o x h)

-- ---- the home of a switch's output

common-of-first : (ys : List Path) (z : Path) → is_above (common_of z ys) z ≡ true
common-of-first [] z = above-self z
common-of-first (y ∷ ys) z = above-trans (common_of (common z y) ys) (common z y) z (common-of-first ys (common z y)) (common-left z y)

common-of-each : (ys : List Path) (z y : Path) → IsIn y ys → is_above (common_of z ys) y ≡ true
common-of-each [] z y h = absurd h
common-of-each (x ∷ ys) z y (inl is) = subst (λ r. is_above (common_of (common z x) ys) r ≡ true) (sym is) (above-trans (common_of (common z x) ys) (common z x) x (common-of-first ys (common z x)) (common-right z x))
common-of-each (x ∷ ys) z y (inr h) = common-of-each ys (common z x) y h

users-in : (all : List Use) (o q : ℕ) (x : Path) → (o == q) ≡ true → IsIn (x, o) all → IsIn x (map (λ (u : Use). u.0) (filter (λ (u : Use). u.1 == q) all))
users-in [] o q x same h = absurd h
users-in (u ∷ all) o q x same (inl is) = subst (λ b. IsIn x (map (λ (v : Use). v.0) (cond b (u ∷ filter (λ (v : Use). v.1 == q) all) (filter (λ (v : Use). v.1 == q) all)))) (sym (ap (λ (v : Use). v.1 == q) (sym is) ∙ same)) (inl (ap (λ (v : Use). v.0) is))
users-in (u ∷ all) o q x same (inr h) = by (u.1 == q) (users-in all o q x same h)
  where
    by : (b : Bool) → IsIn x (map (λ (v : Use). v.0) (filter (λ (v : Use). v.1 == q) all)) → IsIn x (map (λ (v : Use). v.0) (cond b (u ∷ filter (λ (v : Use). v.1 == q) all) (filter (λ (v : Use). v.1 == q) all)))
    by true more = inr more
    by false more = more

first-true : {A : Type 0} (t : A → Bool) (x : A) (xs : List A) → first t xs ≡ Some x → t x ≡ true
first-true t x [] e = absurd cc
first-true t x (y ∷ ys) e = by (t y) refl e (first-true t x ys)
  where
    by : (b : Bool) → t y ≡ b → cond b (Some y) (first t ys) ≡ Some x → (first t ys ≡ Some x → t x ≡ true) → t x ≡ true
    by true is found more = let same : y ≡ x = cc in ap t (sym same) ∙ is
    by false is found more = more found

module _ (p : Project) (a : Done) (from : Way → Node) (all : List Use) (carried : a.uses ≡ Some all) (o : ℕ) where
  drives : (x : Path) (origin : Origin) → slice_get (network_of p).origins o ≡ Some origin → drive p a from (Carried o x) ≡ drive_origin a all o x (Some origin)
  drives x origin is = ap (drive_supply p a o x) carried ∙ ap (drive_origin a all o x) is

  -- ---- ports

  module _ (is : slice_get (network_of p).origins o ≡ Some FromPort) where
    port-ends : (x : Path) → has_port_of all o x ≡ true → EndsAt (drive p a from) (Carried o x) (InPort o)
    port-ends [] h = (zero, ap (λ d. begins_by d (Carried o [])) (drives [] FromPort is))
    port-ends (i ∷ x) h =
        step-back (drive p a from) (Carried o (i ∷ x)) (Carried o x) (InPort o)
        (drives (i ∷ x) FromPort is ∙ ap (λ b. when b (FromSpot (Carried o x))) h)
        (port-ends x (above x h))
      where
        above : (y : Path) → is_used all o (i ∷ y) ≡ true → has_port_of all o y ≡ true
        above [] h = refl
        above (j ∷ y) h = used-parent all o i (j ∷ y) h

  -- ---- switches

  module _ (input : ℕ) (control : Node) (high : Bool) (is : slice_get (network_of p).origins o ≡ Some (FromSwitch input control high)) (w : Switching) (at : switch_of a.plan o ≡ Some w) where
    switch-drives : (x : Path) → has_switch all w x ≡ true → drive p a from (Carried o x) ≡ Some (switch_from o w.path x)
    switch-drives x h = drives x (FromSwitch input control high) is ∙ (ap (drive_switch all o x) at ∙ ap (λ b. when b (switch_from o w.path x)) h)

    at-switch : (x : Path) → has_switch all w x ≡ true → same_path x w.path ≡ true → EndsAt (drive p a from) (Carried o x) (InSwitch o)
    at-switch x h same = (zero, ap (λ d. begins_by d (Carried o x)) (switch-drives x h ∙ ap (λ b. Some (cond b (BySwitch o) (FromSpot (Carried o (cond (is_above x w.path) (toward w.path x) (parent_of x)))))) same))

    from-other : (x : Path) (b : Bool) → has_switch all w x ≡ true → same_path x w.path ≡ false → is_above x w.path ≡ b → drive p a from (Carried o x) ≡ Some (FromSpot (Carried o (cond b (toward w.path x) (parent_of x))))
    from-other x b h differ above =
        switch-drives x h
        ∙ (ap (λ c. Some (cond c (BySwitch o) (FromSpot (Carried o (cond (is_above x w.path) (toward w.path x) (parent_of x)))))) differ
        ∙ ap (λ c. Some (FromSpot (Carried o (cond c (toward w.path x) (parent_of x))))) above)

    -- an instance between the home and the switch
    up-there : (x : Path) → is_above x w.path ≡ true → is_above (home all w) x ≡ true → has_switch all w x ≡ true
    up-there x over under = by (same_path (home all w) x) refl
      where
        by : (b : Bool) → same_path (home all w) x ≡ b → (b || (goes_out all w x || goes_in all w x)) ≡ true
        by true same = refl
        by false differ = or-left (goes_out all w x) (goes_in all w x) (both (is_above x w.path) (not (is_above x (home all w))) over (ap not (below (is_above x (home all w)) refl)))
          where
            below : (b : Bool) → is_above x (home all w) ≡ b → b ≡ false
            below true e = absurd (not-same (home all w) x differ (above-both x (home all w) e under))
            below false e = refl

    up-ends : (n : ℕ) (x : Path) → length w.path ≤ length x + n → is_above x w.path ≡ true → is_above (home all w) x ≡ true → EndsAt (drive p a from) (Carried o x) (InSwitch o)
    up-ends zero x near over under = at-switch x (up-there x over under) (by (above-level x w.path over (omega (arith, near))))
      where
        by : w.path ≡ x → same_path x w.path ≡ true
        by e = ap (same_path x) e ∙ path-self x
    up-ends (suc n) x near over under = by (same_path x w.path) refl (λ y h g f. up-ends n y h g f)
      where
        by : (b : Bool) → same_path x w.path ≡ b
            → ((y : Path) → length w.path ≤ length y + n → is_above y w.path ≡ true → is_above (home all w) y ≡ true → EndsAt (drive p a from) (Carried o y) (InSwitch o))
            → EndsAt (drive p a from) (Carried o x) (InSwitch o)
        by true same more = at-switch x (up-there x over under) same
        by false differ more =
            let step = step-to x w.path over (λ e. not-same x w.path differ e) in
            step-back (drive p a from) (Carried o x) (Carried o (toward w.path x)) (InSwitch o) (from-other x true (up-there x over under) differ over)
            (subst (λ y. EndsAt (drive p a from) (Carried o y) (InSwitch o)) (sym step.is)
            (more (step.name ∷ x) (omega (arith, near)) step.above (above-step (home all w) step.name x under)))

    all-up : (x : Path) → is_above x w.path ≡ true → is_above (home all w) x ≡ true → EndsAt (drive p a from) (Carried o x) (InSwitch o)
    all-up x over under = up-ends (length w.path) x (omega arith) over under

    home-above : is_above (home all w) w.path ≡ true
    home-above = common-of-first (map (λ (u : Use). u.0) (filter (λ (u : Use). u.1 == w.asked.origin) all)) w.path

    down-there : (x : Path) → is_above x w.path ≡ false → is_used all w.asked.origin x ≡ true → has_switch all w x ≡ true
    down-there x away h = or-right (same_path (home all w) x) (goes_out all w x || goes_in all w x) (or-right (goes_out all w x) (goes_in all w x) (both (is_used all w.asked.origin x) (not (is_above x w.path)) h (ap not away)))

    no-scope : (x : Path) → is_above x w.path ≡ false → same_path x w.path ≡ false
    no-scope x away = paths-differ x w.path (λ e. true≢false (sym (above-self w.path) ∙ (ap (λ y. is_above y w.path) (sym e) ∙ away)))

    down-ends : (x : Path) (b : Bool) → is_above x w.path ≡ b → is_used all w.asked.origin x ≡ true → is_above (home all w) x ≡ true → EndsAt (drive p a from) (Carried o x) (InSwitch o)
    down-ends x true over h under = all-up x over under
    down-ends [] false away h under = absurd (true≢false (sym (top-above w.path) ∙ away))
    down-ends (i ∷ x) false away h under =
        step-back (drive p a from) (Carried o (i ∷ x)) (Carried o x) (InSwitch o) (from-other (i ∷ x) false (down-there (i ∷ x) away h) (no-scope (i ∷ x) away) away)
        (down-ends x (is_above x w.path) refl (used-parent all w.asked.origin i x h)
        (above-less (home all w) i x under (λ e. true≢false (sym home-above ∙ (ap (λ y. is_above y w.path) e ∙ away)))))

    switch-ends : (x : Path) → IsIn (x, o) all → EndsAt (drive p a from) (Carried o x) (InSwitch o)
    switch-ends x h =
        let same = first-true (λ (v : Switching). v.asked.origin == o) w a.plan.switches at in
        let equal : w.asked.origin ≡ o = eqb-true w.asked.origin o same in
        down-ends x (is_above x w.path) refl (subst (λ q. is_used all q x ≡ true) (sym equal) (used-here all o x h))
        (common-of-each (map (λ (u : Use). u.0) (filter (λ (u : Use). u.1 == w.asked.origin) all)) w.path x (users-in all o w.asked.origin x (eq-eqb o w.asked.origin (sym equal)) h))

  by-switch : (input : ℕ) (control : Node) (high : Bool) → slice_get (network_of p).origins o ≡ Some (FromSwitch input control high) → (s : Option Switching) → switch_of a.plan o ≡ s → is_some s ≡ true → (x : Path) → IsIn (x, o) all → EndsAt (drive p a from) (Carried o x) (InSwitch o)
  by-switch input control high is None at there x h = absurd (false≢true there)
  by-switch input control high is (Some w) at there x h = switch-ends input control high is w at x h

  port-there : (x : Path) → IsIn (x, o) all → has_port_of all o x ≡ true
  port-there [] h = refl
  port-there (i ∷ x) h = used-here all o (i ∷ x) h

  pub supply-ends : (x : Path) (origin : Origin) → slice_get (network_of p).origins o ≡ Some origin → is_there a.plan o origin ≡ true → IsIn (x, o) all → EndsAt (drive p a from) (Carried o x) (origin_begin o origin)
  supply-ends x FromPort is there h = port-ends is x (port-there x h)
  supply-ends x (FromSwitch input control high) is there h = by-switch input control high is (switch_of a.plan o) refl there x h

pub origin-as-intended : (p : Project) (w : Structure) (at : Placement) (o : ℕ) (origin : Origin) → slice_get (network_of p).origins o ≡ Some origin → end_of p w at (origin_begin o origin) ≡ origin_end p w at o
origin-as-intended p w at o FromPort is = rw is refl
origin-as-intended p w at o (FromSwitch input control high) is = rw is refl
