-- The least number that passes a test, and the first of a module's places that is driven twice where what comes from outside has no place twice.
use Rattle.std.proofs.Common.{◌≡◌, ◌<◌, ◌≤◌, ◌+◌, ℕ, zero, suc, Bool, true, false, ◌==◌, ◌&&◌, ◌||◌, List, [], ◌∷◌, ◌++◌, Option, Some, None, inl, inr, refl, sym, ap, ◌∙◌, subst, arith}
use Rattle.std.specs.Prelude.{nat_lt, if◌then◌else◌}
use Rattle.std.specs.List.{list_all}
use Rattle.std.proofs.lemmas.Bool.{true≢false, eqb-true, eq-eqb, ltb-true, lt-ltb}
use Rattle.lp_spec_design.specs.Netlists.{first, upward}
use Rattle.lp_spec_design.specs.Reads.{one, other, both}
use Rattle.lp_spec_design.specs.Winners.{IsIn}
use Rattle.lp_spec_bridge.specs.Keyed.{IsApart}
use Rattle.lp_spec_drivers.specs.Counts.{times, first_twice, earlier, least_in}
use Rattle.lp_spec_drivers.proofs.Numbers.{times-append, not-same}

-- ---- the least of the numbers below one that pass a test

pub record IsLeastAt (p : ℕ → Bool) (n k : ℕ) : Type 0 where
  pub low : k < n
  pub holds : p k ≡ true
  pub before : (j : ℕ) → j < k → p j ≡ false

abbrev pub IsLeast : (ℕ → Bool) → ℕ → Option ℕ → Type 0
IsLeast p n None = (j : ℕ) → j < n → p j ≡ false
IsLeast p n (Some k) = IsLeastAt p n k

pub least-same : (p q : ℕ → Bool) (n : ℕ) (o : Option ℕ) → ((j : ℕ) → j < n → p j ≡ q j) → IsLeast p n o → IsLeast q n o
least-same p q n None same h = λ j low. sym (same j low) ∙ h j low
least-same p q n (Some k) same h =
    let low = h.low in
    record { low = low; holds = sym (same k low) ∙ h.holds; before = λ j under. sym (same j (omega (arith, under, low))) ∙ h.before j under }

-- the first of the numbers upward is the least
first-least : (p : ℕ → Bool) (n start : ℕ) (o : Option ℕ) → ((j : ℕ) → j < start → p j ≡ false) → IsLeast p (start + n) o → first p (upward n start) ≡ o
first-least p zero start None under h = refl
first-least p zero start (Some k) under h =
    let low = h.low in
    absurd (true≢false (sym h.holds ∙ under k (omega (arith, low))))
first-least p (suc n) start o under h = by (p start) refl (λ e. first-least p n (start + 1) o (more e) (subst (λ m. IsLeast p m o) size h))
  where
    size : start + suc n ≡ (start + 1) + n
    size = omega arith

    more : p start ≡ false → (j : ℕ) → j < start + 1 → p j ≡ false
    more e j low = at (j == start) refl
      where
        at : (b : Bool) → (j == start) ≡ b → p j ≡ false
        at true f = ap p (eqb-true j start f) ∙ e
        at false f = under j (let other : j ≡ start → ⊥ = λ g. true≢false (sym (eq-eqb j start g) ∙ f) in omega (arith, low, other))

    is : p start ≡ true → (o : Option ℕ) → IsLeast p (start + suc n) o → Some start ≡ o
    is e None h = absurd (true≢false (sym e ∙ h start (omega arith)))
    is e (Some k) h = same (nat_lt k start) (nat_lt start k) refl refl
      where
        same : (a b : Bool) → nat_lt k start ≡ a → nat_lt start k ≡ b → Some start ≡ Some k
        same true b f g = absurd (true≢false (sym h.holds ∙ under k (ltb-true k start f)))
        same false true f g = absurd (true≢false (sym e ∙ h.before start (ltb-true start k g)))
        same false false f g =
            let not_low : k < start → ⊥ = λ r. true≢false (sym (lt-ltb k start r) ∙ f) in
            let not_high : start < k → ⊥ = λ r. true≢false (sym (lt-ltb start k r) ∙ g) in
            let eq : start ≡ k = omega (arith, not_low, not_high) in
            ap (λ i. Some i) eq

    by : (b : Bool) → p start ≡ b → (p start ≡ false → first p (upward n (start + 1)) ≡ o) → (if b then Some start else first p (upward n (start + 1))) ≡ o
    by true e rest = is e o h
    by false e rest = rest e

pub least-first : (p : ℕ → Bool) (n : ℕ) (o : Option ℕ) → IsLeast p n o → first p (upward n 0) ≡ o
least-first p n o h = let size : n ≡ 0 + n = omega arith in first-least p n 0 o (λ j low. absurd (omega (arith, low))) (subst (λ m. IsLeast p m o) size h)

-- and the least is the first
is-first : (p : ℕ → Bool) (n start : ℕ) → ((j : ℕ) → j < start → p j ≡ false) → IsLeast p (start + n) (first p (upward n start))
is-first p zero start under = λ j low. under j (omega (arith, low))
is-first p (suc n) start under = by (p start) refl (λ e. subst (λ m. IsLeast p m (first p (upward n (start + 1)))) size (is-first p n (start + 1) (more e)))
  where
    size : (start + 1) + n ≡ start + suc n
    size = omega arith

    more : p start ≡ false → (j : ℕ) → j < start + 1 → p j ≡ false
    more e j low = at (j == start) refl
      where
        at : (b : Bool) → (j == start) ≡ b → p j ≡ false
        at true f = ap p (eqb-true j start f) ∙ e
        at false f = under j (let other : j ≡ start → ⊥ = λ g. true≢false (sym (eq-eqb j start g) ∙ f) in omega (arith, low, other))

    by : (b : Bool) → p start ≡ b → (p start ≡ false → IsLeast p (start + suc n) (first p (upward n (start + 1)))) → IsLeast p (start + suc n) (if b then Some start else first p (upward n (start + 1)))
    by true e rest = record { low = omega arith; holds = e; before = under }
    by false e rest = rest e

pub first-is-least : (p : ℕ → Bool) (n : ℕ) → IsLeast p n (first p (upward n 0))
first-is-least p n = let size : 0 + n ≡ n = omega arith in subst (λ m. IsLeast p m (first p (upward n 0))) size (is-first p n 0 (λ j low. absurd (omega (arith, low))))

-- ---- of two tests

or-false : (a b : Bool) → a ≡ false → b ≡ false → (a || b) ≡ false
or-false a b e f = ap (λ x. x || b) e ∙ f

or-left : (a b : Bool) → a ≡ true → (a || b) ≡ true
or-left a b e = ap (λ x. x || b) e

or-right : (a b : Bool) → b ≡ true → (a || b) ≡ true
or-right true b e = refl
or-right false b e = e

pub least-earlier : (p q : ℕ → Bool) (n : ℕ) (a b : Option ℕ) → IsLeast p n a → IsLeast q n b → IsLeast (λ j. p j || q j) n (earlier a b)
least-earlier p q n None None h g = λ j low. or-false (p j) (q j) (h j low) (g j low)
least-earlier p q n None (Some k) h g =
    let low = g.low in
    record { low = low; holds = or-right (p k) (q k) g.holds; before = λ j under. or-false (p j) (q j) (h j (omega (arith, under, low))) (g.before j under) }
least-earlier p q n (Some k) None h g =
    let low = h.low in
    record { low = low; holds = or-left (p k) (q k) h.holds; before = λ j under. or-false (p j) (q j) (h.before j under) (g j (omega (arith, under, low))) }
least-earlier p q n (Some k) (Some i) h g = by (nat_lt i k) refl
  where
    by : (b : Bool) → nat_lt i k ≡ b → IsLeast (λ j. p j || q j) n (if b then Some i else Some k)
    by true e =
        let low = g.low in
        let below = ltb-true i k e in
        record { low = low; holds = or-right (p i) (q i) g.holds; before = λ j under. or-false (p j) (q j) (h.before j (omega (arith, under, below))) (g.before j under) }
    by false e =
        let low = h.low in
        let above : i < k → ⊥ = λ r. true≢false (sym (lt-ltb i k r) ∙ e) in
        record { low = low; holds = or-left (p k) (q k) h.holds; before = λ j under. or-false (p j) (q j) (h.before j under) (g.before j (omega (arith, under, above))) }

-- ---- places of one list that another has

abbrev pub is_in_both : List ℕ → List ℕ → ℕ → Bool
is_in_both ks xs j = nat_lt 0 (times j ks) && nat_lt 0 (times j xs)

least-one : (n k : ℕ) (xs : List ℕ) → k < n → IsLeast (λ j. (k == j) && nat_lt 0 (times j xs)) n (if nat_lt 0 (times k xs) then Some k else None)
least-one n k xs low = by (nat_lt 0 (times k xs)) refl
  where
    none : (j : ℕ) (b : Bool) → (k == j) ≡ b → nat_lt 0 (times k xs) ≡ false → ((k == j) && nat_lt 0 (times j xs)) ≡ false
    none j true e f = ap (λ b. b && nat_lt 0 (times j xs)) e ∙ ap (λ i. nat_lt 0 (times i xs)) (sym (eqb-true k j e)) ∙ f
    none j false e f = ap (λ b. b && nat_lt 0 (times j xs)) e

    by : (b : Bool) → nat_lt 0 (times k xs) ≡ b → IsLeast (λ j. (k == j) && nat_lt 0 (times j xs)) n (if b then Some k else None)
    by true e = record {
      low = low;
      holds = both (k == k) (nat_lt 0 (times k xs)) (eq-eqb k k refl) e;
      before = λ j under. ap (λ b. b && nat_lt 0 (times j xs)) (not-same k j (λ g. absurd (omega (arith, under, g))));
    }
    by false e = λ j under. none j (k == j) refl e

pub least-both : (n : ℕ) (ks xs : List ℕ) → list_all (λ k. nat_lt k n) ks ≡ true → IsLeast (is_in_both ks xs) n (least_in ks xs)
least-both n [] xs within = λ j low. refl
least-both n (k ∷ ks) xs within =
    let low = ltb-true k n (one (nat_lt k n) (list_all (λ j. nat_lt j n) ks) within) in
    least-same (λ j. ((k == j) && nat_lt 0 (times j xs)) || is_in_both ks xs j) (is_in_both (k ∷ ks) xs) n (least_in (k ∷ ks) xs) (λ j under. split j (k == j))
    (least-earlier (λ j. (k == j) && nat_lt 0 (times j xs)) (is_in_both ks xs) n (if nat_lt 0 (times k xs) then Some k else None) (least_in ks xs) (least-one n k xs low) (least-both n ks xs (other (nat_lt k n) (list_all (λ j. nat_lt j n) ks) within)))
  where
    more : (a b c : Bool) → ((a && c) || (b && c)) ≡ ((a || b) && c)
    more true true true = refl
    more true true false = refl
    more true false true = refl
    more true false false = refl
    more false b c = refl

    split : (j : ℕ) (e : Bool) → ((e && nat_lt 0 (times j xs)) || is_in_both ks xs j) ≡ (nat_lt 0 (if e then suc (times j ks) else times j ks) && nat_lt 0 (times j xs))
    split j true = by (nat_lt 0 (times j xs)) (nat_lt 0 (times j ks)) ∙ ap (λ b. b && nat_lt 0 (times j xs)) (sym (lt-ltb 0 (suc (times j ks)) (omega arith)))
      where
        by : (c b : Bool) → (c || (b && c)) ≡ c
        by true b = refl
        by false true = refl
        by false false = refl
    split j false = refl

-- ---- numbers apart stand once

times-none : (k : ℕ) (xs : List ℕ) → (IsIn k xs → ⊥) → times k xs ≡ 0
times-none k [] h = refl
times-none k (x ∷ xs) h =
    ap (λ b. if b then suc (times k xs) else times k xs) (not-same x k (λ e. h (inl (sym e))))
    ∙ times-none k xs (λ r. h (inr r))

pub times-once : (k : ℕ) (xs : List ℕ) → IsApart xs → times k xs ≤ 1
times-once k [] a = omega arith
times-once k (x ∷ xs) a = by (x == k) refl (times-once k xs a.1)
  where
    by : (b : Bool) → (x == k) ≡ b → times k xs ≤ 1 → (if b then suc (times k xs) else times k xs) ≤ 1
    by true e more = let none = times-none k xs (λ h. a.0 (subst (λ y. IsIn y xs) (sym (eqb-true x k e)) h)) in omega (arith, none)
    by false e more = more

-- the first place that is driven twice, where those from outside are apart
pub first-entered : (n : ℕ) (ks xs : List ℕ) → IsApart ks → list_all (λ k. nat_lt k n) ks ≡ true → first_twice n (ks ++ xs) ≡ earlier (first_twice n xs) (least_in ks xs)
first-entered n ks xs apart within =
    least-first (λ j. nat_lt 1 (times j (ks ++ xs))) n (earlier (first_twice n xs) (least_in ks xs))
    (least-same (λ j. nat_lt 1 (times j xs) || is_in_both ks xs j) (λ j. nat_lt 1 (times j (ks ++ xs))) n (earlier (first_twice n xs) (least_in ks xs)) (λ j low. split j)
    (least-earlier (λ j. nat_lt 1 (times j xs)) (is_in_both ks xs) n (first_twice n xs) (least_in ks xs) (first-is-least (λ j. nat_lt 1 (times j xs)) n) (least-both n ks xs within)))
  where
    count : (a b : ℕ) → a ≤ 1 → (nat_lt 1 b || (nat_lt 0 a && nat_lt 0 b)) ≡ nat_lt 1 (a + b)
    count zero b h = let size : zero + b ≡ b = omega arith in by (nat_lt 1 b) ∙ ap (λ n. nat_lt 1 n) (sym size)
      where
        by : (c : Bool) → (c || false) ≡ c
        by true = refl
        by false = refl
    count (suc zero) zero h = refl
    count (suc zero) (suc zero) h = refl
    count (suc zero) (suc (suc b)) h = or-left (nat_lt 1 (suc (suc b))) (nat_lt 0 (suc (suc b))) (lt-ltb 1 (suc (suc b)) (omega arith)) ∙ sym (lt-ltb 1 (suc zero + suc (suc b)) (omega arith))
    count (suc (suc a)) b h = absurd (omega (arith, h))

    split : (j : ℕ) → (nat_lt 1 (times j xs) || is_in_both ks xs j) ≡ nat_lt 1 (times j (ks ++ xs))
    split j = count (times j ks) (times j xs) (times-once j ks apart) ∙ ap (λ n. nat_lt 1 n) (sym (times-append j ks xs))
