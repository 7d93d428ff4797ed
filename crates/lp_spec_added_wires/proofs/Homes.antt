-- The home of a switch's output, and the instances that have it.
use Rattle.std.proofs.Common.{◌≡◌, ℕ, Bool, true, false, not, ◌&&◌, ◌||◌, ◌==◌, List, [], ◌∷◌, map, inl, inr, refl, sym, ap, subst, arith}
use Rattle.std.specs.Prelude.{filter}
use Rattle.std.proofs.lemmas.Bool.{both_ways, not-true}
use Rattle.lp_spec_design.specs.Keys.{Name, Path, same_path}
use Rattle.lp_spec_design.specs.Reads.{one, other, both, path-true}
use Rattle.lp_spec_design.specs.Registers.{is_above}
use Rattle.lp_spec_design.specs.Winners.{IsIn}
use Rattle.lp_spec_design.proofs.Members.{any-in, of-any}
use Rattle.lp_spec_written.specs.Places.{Switching}
use Rattle.lp_spec_written.specs.Supplies.{Use, is_used, common, common_of, home, goes_out, goes_in}
use Rattle.lp_spec_hub.specs.Drives.{has_switch}
use Rattle.lp_spec_hub.proofs.Paths.{above-self, above-trans, above-parent, above-less, above-length, above-both, above-line, not-same, common-left, common-right}
use Rattle.lp_spec_wired.proofs.Chains.{in-filter}
use Rattle.lp_spec_added_wires.proofs.Places.{or-left, or-right, or-either}

common-of-first : (ys : List Path) (z : Path) → is_above (common_of z ys) z ≡ true
common-of-first [] z = above-self z
common-of-first (y ∷ ys) z = above-trans (common_of (common z y) ys) (common z y) z (common-of-first ys (common z y)) (common-left z y)

common-of-each : (ys : List Path) (z y : Path) → IsIn y ys → is_above (common_of z ys) y ≡ true
common-of-each [] z y h = absurd h
common-of-each (x ∷ ys) z y (inl is) = subst (λ r. is_above (common_of (common z x) ys) r ≡ true) (sym is) (above-trans (common_of (common z x) ys) (common z x) x (common-of-first ys (common z x)) (common-right z x))
common-of-each (x ∷ ys) z y (inr h) = common-of-each ys (common z x) y h

in-paths : (u : Use) (all : List Use) → IsIn u all → IsIn u.0 (map (λ (v : Use). v.0) all)
in-paths u [] h = absurd h
in-paths u (v ∷ all) h = elim h [ inl is ↦ inl (ap (λ (t : Use). t.0) is) | inr r ↦ inr (in-paths u all r) ]

-- a user in an instance or below it
pub record User (all : List Use) (o : ℕ) (x : Path) : Type 0 where
  pub use_of : Use
  pub listed : IsIn use_of all
  pub origin : (use_of.1 == o) ≡ true
  pub below : is_above x use_of.0 ≡ true

pub user : (all : List Use) (o : ℕ) (x : Path) → is_used all o x ≡ true → User all o x
user all o x h =
    let found = of-any (λ (u : Use). (u.1 == o) && is_above x u.0) all h in
    record { use_of = found.0; listed = found.1; origin = one (found.0.1 == o) (is_above x found.0.0) found.2; below = other (found.0.1 == o) (is_above x found.0.0) found.2 }

pub used-parent : (all : List Use) (o : ℕ) (i : Name) (x : Path) → is_used all o (i ∷ x) ≡ true → is_used all o x ≡ true
used-parent all o i x h =
    let u = user all o (i ∷ x) h in
    any-in (λ (v : Use). (v.1 == o) && is_above x v.0) u.use_of all u.listed (both (u.use_of.1 == o) (is_above x u.use_of.0) u.origin (above-parent x i u.use_of.0 u.below))

module _ (all : List Use) (r : Switching) where
  abbrev middle : Path
  middle = home all r

  pub home-above : is_above middle r.path ≡ true
  home-above = common-of-first (map (λ (u : Use). u.0) (filter (λ (u : Use). u.1 == r.asked.origin) all)) r.path

  home-user : (x : Path) (u : User all r.asked.origin x) → is_above middle u.use_of.0 ≡ true
  home-user x u =
      common-of-each (map (λ (v : Use). v.0) (filter (λ (v : Use). v.1 == r.asked.origin) all)) r.path u.use_of.0
      (in-paths u.use_of (filter (λ (v : Use). v.1 == r.asked.origin) all) (in-filter (λ (v : Use). v.1 == r.asked.origin) all u.use_of u.listed u.origin))

  -- ---- what an instance has by what it is

  pub data Has (x : Path) : Type 0 where
    Home : same_path middle x ≡ true → Has x
    Out : goes_out all r x ≡ true → Has x
    Into : goes_in all r x ≡ true → Has x

  has : (x : Path) → has_switch all r x ≡ true → Has x
  has x h = elim (or-either (same_path middle x) (goes_out all r x || goes_in all r x) h) [
    | inl at ↦ Home at
    | inr more ↦ elim (or-either (goes_out all r x) (goes_in all r x) more) [ inl out ↦ Out out | inr into ↦ Into into ]
  ]

  outside : (x : Path) → goes_in all r x ≡ true → is_above x r.path ≡ false
  outside x h = not-true _ (other (is_used all r.asked.origin x) (not (is_above x r.path)) h)

  -- not above the switch it is an input
  pub has-in : (x : Path) → is_above x r.path ≡ false → has_switch all r x ≡ true → goes_in all r x ≡ true
  has-in x away h = elim (has x h) [
    | Home at ↦ absurd (both_ways (is_above x r.path) away (subst (λ y. is_above y r.path ≡ true) (path-true middle x at) home-above))
    | Out out ↦ absurd (both_ways (is_above x r.path) away (one (is_above x r.path) _ out))
    | Into into ↦ into
  ]

  -- above the switch the instance on the way to it has it as an output
  pub has-out : (x : Path) (i : Name) → is_above x r.path ≡ true → is_above (i ∷ x) r.path ≡ true → has_switch all r x ≡ true → goes_out all r (i ∷ x) ≡ true
  has-out x i over lower h = both (is_above (i ∷ x) r.path) (not (is_above (i ∷ x) middle)) lower (ap not (by (is_above (i ∷ x) middle) refl))
    where
      wrong : Has x → is_above (i ∷ x) middle ≡ true → ⊥
      wrong (Home at) e = let longer = above-length (i ∷ x) x (subst (λ y. is_above (i ∷ x) y ≡ true) (path-true middle x at) e) in absurd (omega (arith, longer))
      wrong (Out out) e = both_ways (is_above x middle) (not-true _ (other (is_above x r.path) (not (is_above x middle)) out)) (above-parent x i middle e)
      wrong (Into into) e = both_ways (is_above x r.path) (outside x into) over

      by : (b : Bool) → is_above (i ∷ x) middle ≡ b → b ≡ false
      by true e = absurd (wrong (has x h) e)
      by false e = refl

  pub out-has : (x : Path) → goes_out all r x ≡ true → has_switch all r x ≡ true
  out-has x h = or-right (same_path middle x) _ (or-left (goes_out all r x) (goes_in all r x) h)

  into-has : (x : Path) → goes_in all r x ≡ true → has_switch all r x ≡ true
  into-has x h = or-right (same_path middle x) _ (or-right (goes_out all r x) (goes_in all r x) h)

  -- and so has the parent of one that has it as an input
  pub parent-has : (i : Name) (x : Path) → goes_in all r (i ∷ x) ≡ true → has_switch all r x ≡ true
  parent-has i x h = by (is_above x r.path) refl
    where
      away : is_above (i ∷ x) r.path ≡ false
      away = outside (i ∷ x) h

      used : is_used all r.asked.origin (i ∷ x) ≡ true
      used = one (is_used all r.asked.origin (i ∷ x)) _ h

      under : is_above middle x ≡ true
      under =
          let u = user all r.asked.origin (i ∷ x) used in
          elim (above-line middle (i ∷ x) u.use_of.0 (home-user (i ∷ x) u) u.below) [
            | inl l ↦ above-less middle i x l (λ e. both_ways (is_above (i ∷ x) r.path) away (subst (λ y. is_above y r.path ≡ true) e home-above))
            | inr l ↦ absurd (both_ways (is_above (i ∷ x) r.path) away (above-trans (i ∷ x) middle r.path l home-above))
          ]

      between : is_above x r.path ≡ true → (b : Bool) → same_path middle x ≡ b → has_switch all r x ≡ true
      between over true at = or-left (same_path middle x) _ at
      between over false differ = out-has x (both (is_above x r.path) (not (is_above x middle)) over (ap not (below (is_above x middle) refl)))
        where
          below : (b : Bool) → is_above x middle ≡ b → b ≡ false
          below true e = absurd (not-same middle x differ (above-both x middle e under))
          below false e = refl

      by : (b : Bool) → is_above x r.path ≡ b → has_switch all r x ≡ true
      by true over = between over (same_path middle x) refl
      by false out = into-has x (both (is_used all r.asked.origin x) (not (is_above x r.path)) (used-parent all r.asked.origin i x used) (ap not out))
