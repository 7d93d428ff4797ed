-- Each switch that is written in an instance is the one that the placement has there for some switch.
use Rattle.std.proofs.Common.{◌≡◌, ℕ, ◌+◌, ◌==◌, Bool, true, false, cond, List, [], ◌∷◌, map, Option, Some, None, inl, inr, refl, sym, ap, ◌∙◌, subst, arith}
use Rattle.std.specs.Prelude.{codes, filter, unwrap_or, option_and_then}
use Rattle.std.proofs.lemmas.Bool.{eq-eqb, eqb-true}
use Rattle.lp_spec_design.specs.Keys.{Path, same_path}
use Rattle.lp_spec_design.specs.Netlists.{first}
use Rattle.lp_spec_design.specs.Graph.{numbered, some_of, and_more}
use Rattle.lp_spec_design.specs.Intents.{Origin, FromPort, FromSwitch}
use Rattle.lp_spec_design.specs.Winners.{IsIn}
use Rattle.lp_spec_design.specs.Reads.{path-true}
use Rattle.lp_spec_design.proofs.Members.{IsApart, in-map, of-map, of-filter, of-some, of-numbered}
use Rattle.lp_spec_realises.specs.Projects.{Project, network_of}
use Rattle.lp_spec_realises.specs.Operators.{SwitchAt, switches_among, all_switches, placed_switch}
use Rattle.lp_spec_realises.specs.Implements.{Lists}
use Rattle.lp_spec_written.specs.Places.{Switching, switching, plan, switches_in, with_number}
use Rattle.lp_spec_written.specs.Written.{additions}
use Rattle.lp_spec_wired.specs.Names.{switch_in, switch_at, placement_of}
use Rattle.lp_spec_written_at.proofs.Stands.{is-switching, origin-least}

abbrev origin_of : Switching → ℕ
origin_of k = k.asked.origin

differs : (m n : ℕ) → (m ≡ n → ⊥) → (m == n) ≡ false
differs m n apart = by (m == n) refl
  where
    by : (b : Bool) → (m == n) ≡ b → b ≡ false
    by true e = absurd (apart (eqb-true m n e))
    by false e = refl

apart-kept : (t : Switching → Bool) (ks : List Switching) → IsApart (map origin_of ks) → IsApart (map origin_of (filter t ks))
apart-kept t [] apart = tt
apart-kept t (k ∷ ks) apart = by (t k) (apart-kept t ks apart.1)
  where
    absent : IsIn (origin_of k) (map origin_of (filter t ks)) → ⊥
    absent h =
        let found = of-map origin_of (origin_of k) (filter t ks) h in
        apart.0 (subst (λ n. IsIn n (map origin_of ks)) (sym found.2) (in-map origin_of found.0 ks (of-filter t found.0 ks found.1).0))

    by : (b : Bool) → IsApart (map origin_of (filter t ks)) → IsApart (map origin_of (cond b (k ∷ filter t ks) (filter t ks)))
    by true more = (absent, more)
    by false more = more

first-origin : (ks : List Switching) (k : Switching) → IsApart (map origin_of ks) → IsIn k ks → first (λ (z : Switching). z.asked.origin == k.asked.origin) ks ≡ Some k
first-origin [] k apart h = absurd h
first-origin (z ∷ ks) k apart (inl is) =
    ap (λ b. cond b (Some z) (first (λ (v : Switching). v.asked.origin == k.asked.origin) ks)) (eq-eqb z.asked.origin k.asked.origin (ap origin_of (sym is))) ∙ ap (λ v. Some v) (sym is)
first-origin (z ∷ ks) k apart (inr h) =
    ap (λ b. cond b (Some z) (first (λ (v : Switching). v.asked.origin == k.asked.origin) ks))
    (differs z.asked.origin k.asked.origin (λ e. apart.0 (subst (λ n. IsIn n (map origin_of ks)) (sym e) (in-map origin_of k ks h))))
    ∙ first-origin ks k apart.1 h

first-number : (j : ℕ) (ks : List Switching) (y : ℕ × Switching) → IsApart (map origin_of ks) → IsIn y (numbered j ks) → first (λ (z : ℕ × Switching). z.1.asked.origin == y.1.asked.origin) (numbered j ks) ≡ Some y
first-number j [] y apart h = absurd h
first-number j (z ∷ ks) y apart (inl is) =
    ap (λ b. cond b (Some (j, z)) (first (λ (v : ℕ × Switching). v.1.asked.origin == y.1.asked.origin) (numbered (j + 1) ks))) (eq-eqb z.asked.origin y.1.asked.origin (ap (λ (v : ℕ × Switching). origin_of v.1) (sym is))) ∙ ap (λ v. Some v) (sym is)
first-number j (z ∷ ks) y apart (inr h) =
    ap (λ b. cond b (Some (j, z)) (first (λ (v : ℕ × Switching). v.1.asked.origin == y.1.asked.origin) (numbered (j + 1) ks)))
    (differs z.asked.origin y.1.asked.origin (λ e. apart.0 (subst (λ n. IsIn n (map origin_of ks)) (sym e) (in-map origin_of y.1 ks (of-numbered (j + 1) y ks h)))))
    ∙ first-number (j + 1) ks y apart.1 h

abbrev pub asked_origin : SwitchAt → ℕ
asked_origin x = x.origin

pub origins-apart : (j : ℕ) (os : List Origin) → IsApart (map asked_origin (switches_among (numbered j os)))
origins-apart j [] = tt
origins-apart j (FromPort ∷ os) = origins-apart (j + 1) os
origins-apart j (FromSwitch i c g ∷ os) = (absent, origins-apart (j + 1) os)
  where
    absent : IsIn j (map asked_origin (switches_among (numbered (j + 1) os))) → ⊥
    absent h =
        let found = of-map asked_origin j (switches_among (numbered (j + 1) os)) h in
        let least = origin-least (j + 1) os found.0 found.1 in
        let same = found.2 in
        omega (arith, least, same)

module _ (p : Project) (l : Lists) where
  plan-apart : (j : ℕ) (xs : List SwitchAt) → IsApart (map asked_origin xs) → IsApart (map origin_of (some_of (switching p l) (numbered j xs)))
  plan-apart j [] apart = tt
  plan-apart j (x ∷ xs) apart = by (switching p l (j, x)) refl (plan-apart (j + 1) xs apart.1)
    where
      rest : List Switching
      rest = some_of (switching p l) (numbered (j + 1) xs)

      absent : (k : Switching) → switching p l (j, x) ≡ Some k → IsIn (origin_of k) (map origin_of rest) → ⊥
      absent k e h =
          let found = of-map origin_of (origin_of k) rest h in
          let from = of-some (switching p l) found.0 (numbered (j + 1) xs) found.1 in
          let mine : origin_of k ≡ x.origin = ap asked_origin (is-switching p l (j, x) k e).asked in
          let its : origin_of found.0 ≡ from.0.1.origin = ap asked_origin (is-switching p l from.0 found.0 from.2).asked in
          apart.0 (subst (λ n. IsIn n (map asked_origin xs)) (sym (sym mine ∙ (found.2 ∙ its))) (in-map asked_origin from.0.1 xs (of-numbered (j + 1) from.0 xs from.1)))

      by : (o : Option Switching) → switching p l (j, x) ≡ o → IsApart (map origin_of rest) → IsApart (map origin_of (and_more o rest))
      by None e more = more
      by (Some k) e more = (absent k e, more)

  pub switches-from-plan : (x : Path) (y : ℕ × Switching) → IsIn y (numbered 0 (switches_in (plan p l) x))
      → (o : SwitchAt) × IsIn o (all_switches p) × (placed_switch (placement_of p l) o ≡ record { path = x; instance = with_number (codes "lp_s_") y.0 })
  switches-from-plan x y h =
      let apart = plan-apart 0 (all_switches p) (origins-apart 0 (network_of p).origins) in
      let kept = of-filter (λ (k : Switching). same_path k.path x) y.1 (plan p l).switches (of-numbered 0 y (switches_in (plan p l) x) h) in
      let path : y.1.path ≡ x = path-true y.1.path x kept.1 in
      let from = of-some (switching p l) y.1 (numbered 0 (all_switches p)) kept.0 in
      let asked = (is-switching p l from.0 y.1 from.2).asked in
      let there = first-number 0 (switches_in (plan p l) x) y (apart-kept (λ (k : Switching). same_path k.path x) (plan p l).switches apart) h in (
        y.1.asked,
        subst (λ o. IsIn o (all_switches p)) (sym asked) (of-numbered 0 from.0 (all_switches p) from.1),
        ap (switch_at (additions p l) y.1.asked.origin) (first-origin (plan p l).switches y.1 apart kept.0)
            ∙ (ap (λ z. record { path = z; instance = switch_in y.1.asked.origin (numbered 0 (switches_in (plan p l) z)) }) path
            ∙ ap (λ r. record { path = x; instance = unwrap_or (option_and_then (λ (v : ℕ × Switching). Some (with_number (codes "lp_s_") v.0)) r) [] }) there),
      )
