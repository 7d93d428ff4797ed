-- Where the output of a switch is a wire or a port: in its home, on the way up to it, and down to each user.
use Rattle.std.proofs.Common.{◌≡◌, ℕ, Bool, true, false, cond, not, ◌&&◌, ◌||◌, ◌==◌, List, [], ◌∷◌, map, inl, inr, refl, sym, ap, ◌∙◌, subst}
use Rattle.std.specs.Prelude.{filter}
use Rattle.std.proofs.lemmas.Bool.{true≢false, false≢true, eq-eqb, eqb-true}
use Rattle.lp_spec_design.specs.Keys.{Name, Path, same_path}
use Rattle.lp_spec_design.specs.Reads.{one, other, both}
use Rattle.lp_spec_design.specs.Winners.{IsIn}
use Rattle.lp_spec_design.specs.Registers.{is_above}
use Rattle.lp_spec_design.proofs.Members.{of-any}
use Rattle.lp_spec_written.specs.Places.{Switching}
use Rattle.lp_spec_written.specs.Supplies.{Use, is_used, common, common_of, home, has_port_of, goes_out, goes_in}
use Rattle.lp_spec_hub.specs.Drives.{has_switch}
use Rattle.lp_spec_hub.proofs.Paths.{not-same, above-self, above-trans, above-parent, above-less, above-both, above-line, common-left, common-right}
use Rattle.lp_spec_written_at.proofs.Either.{or-left, or-right, or-either}

-- ---- users

pub used-parent : (all : List Use) (o : ℕ) (i : Name) (x : Path) → is_used all o (i ∷ x) ≡ true → is_used all o x ≡ true
used-parent [] o i x h = absurd (false≢true h)
used-parent (u ∷ all) o i x h = elim (or-either ((u.1 == o) && is_above (i ∷ x) u.0) (is_used all o (i ∷ x)) h) [
  | inl here ↦ or-left ((u.1 == o) && is_above x u.0) (is_used all o x) (both (u.1 == o) (is_above x u.0) (one (u.1 == o) (is_above (i ∷ x) u.0) here) (above-parent x i u.0 (other (u.1 == o) (is_above (i ∷ x) u.0) here)))
  | inr rest ↦ or-right ((u.1 == o) && is_above x u.0) (is_used all o x) (used-parent all o i x rest)
]

pub used-here : (all : List Use) (o : ℕ) (x : Path) → IsIn (x, o) all → is_used all o x ≡ true
used-here [] o x h = absurd h
used-here (u ∷ all) o x (inl is) = or-left ((u.1 == o) && is_above x u.0) (is_used all o x) (ap (λ (v : Use). (v.1 == o) && is_above x v.0) (sym is) ∙ both (o == o) (is_above x x) (eq-eqb o o refl) (above-self x))
used-here (u ∷ all) o x (inr h) = or-right ((u.1 == o) && is_above x u.0) (is_used all o x) (used-here all o x h)

pub port-here : (all : List Use) (o : ℕ) (x : Path) → IsIn (x, o) all → has_port_of all o x ≡ true
port-here all o [] h = refl
port-here all o (i ∷ x) h = used-here all o (i ∷ x) h

-- a port of an instance is one of its parent
pub port-parent : (all : List Use) (o : ℕ) (i : Name) (x : Path) → has_port_of all o (i ∷ x) ≡ true → has_port_of all o x ≡ true
port-parent all o i [] h = refl
port-parent all o i (j ∷ x) h = used-parent all o i (j ∷ x) h

-- ---- the nearest common instance

common-first : (ys : List Path) (z : Path) → is_above (common_of z ys) z ≡ true
common-first [] z = above-self z
common-first (y ∷ ys) z = above-trans (common_of (common z y) ys) (common z y) z (common-first ys (common z y)) (common-left z y)

common-each : (ys : List Path) (z y : Path) → IsIn y ys → is_above (common_of z ys) y ≡ true
common-each [] z y h = absurd h
common-each (x ∷ ys) z y (inl is) = subst (λ r. is_above (common_of (common z x) ys) r ≡ true) (sym is) (above-trans (common_of (common z x) ys) (common z x) x (common-first ys (common z x)) (common-right z x))
common-each (x ∷ ys) z y (inr h) = common-each ys (common z x) y h

users-in : (all : List Use) (u : Use) (q : ℕ) → (u.1 == q) ≡ true → IsIn u all → IsIn u.0 (map (λ (v : Use). v.0) (filter (λ (v : Use). v.1 == q) all))
users-in [] u q same h = absurd h
users-in (v ∷ all) u q same (inl is) = subst (λ b. IsIn u.0 (map (λ (z : Use). z.0) (cond b (v ∷ filter (λ (z : Use). z.1 == q) all) (filter (λ (z : Use). z.1 == q) all)))) (sym (ap (λ (z : Use). z.1 == q) (sym is) ∙ same)) (inl (ap (λ (z : Use). z.0) is))
users-in (v ∷ all) u q same (inr h) = by (v.1 == q) (users-in all u q same h)
  where
    by : (b : Bool) → IsIn u.0 (map (λ (z : Use). z.0) (filter (λ (z : Use). z.1 == q) all)) → IsIn u.0 (map (λ (z : Use). z.0) (cond b (v ∷ filter (λ (z : Use). z.1 == q) all) (filter (λ (z : Use). z.1 == q) all)))
    by true more = inr more
    by false more = more

-- ---- a switch

module _ (all : List Use) (w : Switching) where
  pub home-above : is_above (home all w) w.path ≡ true
  home-above = common-first (map (λ (u : Use). u.0) (filter (λ (u : Use). u.1 == w.asked.origin) all)) w.path

  home-user : (u : Use) → IsIn u all → (u.1 == w.asked.origin) ≡ true → is_above (home all w) u.0 ≡ true
  home-user u h same = common-each (map (λ (v : Use). v.0) (filter (λ (v : Use). v.1 == w.asked.origin) all)) w.path u.0 (users-in all u w.asked.origin same h)

  -- in its home it is no port
  pub home-no-port : (x : Path) → home all w ≡ x → (goes_out all w x || goes_in all w x) ≡ true → ⊥
  home-no-port x is h = elim (or-either (goes_out all w x) (goes_in all w x) h) [
    | inl out ↦ true≢false (sym (above-self x) ∙ (ap (is_above x) (sym is) ∙ off (is_above x (home all w)) (other (is_above x w.path) (not (is_above x (home all w))) out)))
    | inr into ↦ true≢false (sym home-above ∙ (ap (λ y. is_above y w.path) is ∙ off (is_above x w.path) (other (is_used all w.asked.origin x) (not (is_above x w.path)) into)))
  ]
    where
      off : (b : Bool) → not b ≡ true → b ≡ false
      off true e = absurd (false≢true e)
      off false e = refl

  up-there : (x : Path) → is_above x w.path ≡ true → is_above (home all w) x ≡ true → has_switch all w x ≡ true
  up-there x over under = by (same_path (home all w) x) refl
    where
      below : same_path (home all w) x ≡ false → (b : Bool) → is_above x (home all w) ≡ b → b ≡ false
      below differ true e = absurd (not-same (home all w) x differ (above-both x (home all w) e under))
      below differ false e = refl

      by : (b : Bool) → same_path (home all w) x ≡ b → (b || (goes_out all w x || goes_in all w x)) ≡ true
      by true same = refl
      by false differ = or-left (goes_out all w x) (goes_in all w x) (both (is_above x w.path) (not (is_above x (home all w))) over (ap not (below differ (is_above x (home all w)) refl)))

  down-there : (x : Path) → is_above x w.path ≡ false → is_used all w.asked.origin x ≡ true → has_switch all w x ≡ true
  down-there x away h = or-right (same_path (home all w) x) (goes_out all w x || goes_in all w x) (or-right (goes_out all w x) (goes_in all w x) (both (is_used all w.asked.origin x) (not (is_above x w.path)) h (ap not away)))

  there : (x : Path) → is_used all w.asked.origin x ≡ true → is_above (home all w) x ≡ true → has_switch all w x ≡ true
  there x used under = by (is_above x w.path) refl
    where
      by : (b : Bool) → is_above x w.path ≡ b → has_switch all w x ≡ true
      by true over = up-there x over under
      by false away = down-there x away used

  -- where it is used
  pub at-user : (o : ℕ) (x : Path) → (w.asked.origin == o) ≡ true → IsIn (x, o) all → has_switch all w x ≡ true
  at-user o x same h =
      let is : w.asked.origin ≡ o = eqb-true w.asked.origin o same in
      there x (ap (λ q. is_used all q x) is ∙ used-here all o x h) (home-user (x, o) h (ap (λ q. o == q) is ∙ eq-eqb o o refl))

  -- where an instance has it as a port, the parent has it
  pub at-parent : (i : Name) (x : Path) → (goes_out all w (i ∷ x) || goes_in all w (i ∷ x)) ≡ true → has_switch all w x ≡ true
  at-parent i x h = elim (or-either (goes_out all w (i ∷ x)) (goes_in all w (i ∷ x)) h) [ inl out ↦ going-out out | inr into ↦ going-in into ]
    where
      yes-not : (b : Bool) → not b ≡ true → b ≡ true → ⊥
      yes-not true e f = false≢true e
      yes-not false e f = false≢true f

      off : (b : Bool) → not b ≡ true → b ≡ false
      off true e = absurd (false≢true e)
      off false e = refl

      going-out : goes_out all w (i ∷ x) ≡ true → has_switch all w x ≡ true
      going-out e =
          let over = one (is_above (i ∷ x) w.path) (not (is_above (i ∷ x) (home all w))) e in
          let away = other (is_above (i ∷ x) w.path) (not (is_above (i ∷ x) (home all w))) e in
          let under = elim (above-line (home all w) (i ∷ x) w.path home-above over) as (λ _. is_above (home all w) (i ∷ x) ≡ true) [ inl a ↦ a | inr b ↦ absurd (yes-not (is_above (i ∷ x) (home all w)) away b) ] in
          up-there x (above-parent x i w.path over)
          (above-less (home all w) i x under (λ is. yes-not (is_above (i ∷ x) (home all w)) away (ap (is_above (i ∷ x)) is ∙ above-self (i ∷ x))))

      going-in : goes_in all w (i ∷ x) ≡ true → has_switch all w x ≡ true
      going-in e =
          let used = one (is_used all w.asked.origin (i ∷ x)) (not (is_above (i ∷ x) w.path)) e in
          let away = other (is_used all w.asked.origin (i ∷ x)) (not (is_above (i ∷ x) w.path)) e in
          let user = of-any (λ (u : Use). (u.1 == w.asked.origin) && is_above (i ∷ x) u.0) all used in
          let under_user = other (user.0.1 == w.asked.origin) (is_above (i ∷ x) user.0.0) user.2 in
          let over_user = home-user user.0 user.1 (one (user.0.1 == w.asked.origin) (is_above (i ∷ x) user.0.0) user.2) in
          let under = elim (above-line (home all w) (i ∷ x) user.0.0 over_user under_user) as (λ _. is_above (home all w) (i ∷ x) ≡ true) [
            | inl a ↦ a
            | inr b ↦ absurd (yes-not (is_above (i ∷ x) w.path) away (above-trans (i ∷ x) (home all w) w.path b home-above))
          ] in
          there x (used-parent all w.asked.origin i x used)
          (above-less (home all w) i x under (λ is. true≢false (sym home-above ∙ (ap (λ y. is_above y w.path) is ∙ off (is_above (i ∷ x) w.path) away))))
