-- What is seen of places is what is so of them.
use Rattle.std.proofs.Common.{◌≡◌, ◌<◌, ◌≤◌, ◌+◌, ℕ, zero, suc, Bool, true, false, ◌==◌, List, [], ◌∷◌, ◌++◌, length, get_or, set, Option, Some, None, refl, sym, ap, ◌∙◌, subst, arith, append_assoc}
use Rattle.std.specs.Prelude.{nat_lt, if◌then◌else◌, slice_index_or, slice_set}
use Rattle.std.specs.List.{list_all}
use Rattle.std.proofs.lemmas.Bool.{true≢false, eqb-true, eq-eqb, ltb-true, lt-ltb}
use Rattle.std.proofs.lemmas.List.{length-set, get_or-set_same, get_or-set_other, get_or-replicate, length-replicate, append-nil}
use Rattle.lp_spec_design.specs.Reads.{one, other}
use Rattle.lp_spec_design.specs.Netlists.{upward}
use Rattle.lp_spec_drivers.specs.Counts.{times, first_twice, earlier, least_in}
use Rattle.lp_spec_drivers.proofs.Numbers.{times-append, not-same}
use Rattle.lp_spec_drivers.proofs.Least.{IsLeast, least-first}
use Rattle.lp_drivers.specs.Seen.{Seen, none_seen, met, see, see_all, lower, lower_all, known}

-- ---- what is kept of the places that were seen

pub record Keeps (n : ℕ) (xs : List ℕ) (m : Seen) : Type 0 where
  pub size : length m.1 ≡ n
  pub low : m.0 ≤ n
  pub marks : (j : ℕ) → j < m.0 → slice_index_or m.1 j false ≡ nat_lt 0 (times j xs)
  pub once : (j : ℕ) → j < m.0 → times j xs ≤ 1
  pub twice : m.0 < n → 2 ≤ times m.0 xs

pub keeps-none : (n : ℕ) → Keeps n [] (none_seen n)
keeps-none n = record {
  size = length-replicate n false;
  low = omega arith;
  marks = λ j low. get_or-replicate n j false false low;
  once = λ j low. omega arith;
  twice = λ low. absurd (omega (arith, low));
}

times-last : (j p : ℕ) (xs : List ℕ) → (j ≡ p → ⊥) → times j (xs ++ p ∷ []) ≡ times j xs
times-last j p xs ne =
    let a = times-append j xs (p ∷ []) in
    let b : times j (p ∷ []) ≡ 0 = ap (λ b. if b then 1 else 0) (not-same p j (λ e. ne (sym e))) in
    omega (arith, a, b)

times-here : (p : ℕ) (xs : List ℕ) → times p (xs ++ p ∷ []) ≡ times p xs + 1
times-here p xs =
    let a = times-append p xs (p ∷ []) in
    let b : times p (p ∷ []) ≡ 1 = ap (λ b. if b then 1 else 0) (eq-eqb p p refl) in
    omega (arith, a, b)

times-more : (j p : ℕ) (xs : List ℕ) → times j xs ≤ times j (xs ++ p ∷ [])
times-more j p xs = let a = times-append j xs (p ∷ []) in omega (arith, a)

module _ (n : ℕ) (xs : List ℕ) (m : Seen) (k : Keeps n xs m) (p : ℕ) where
  -- driven before: the first place so far
  again : p < m.0 → slice_index_or m.1 p false ≡ true → Keeps n (xs ++ p ∷ []) (p, m.1)
  again under e =
      let here = times-here p xs in
      let some : 0 < times p xs = ltb-true 0 (times p xs) (sym (k.marks p under) ∙ e) in
      let low = k.low in
      record {
        size = k.size;
        low = omega (arith, under, low);
        marks = λ j h. k.marks j (omega (arith, h, under)) ∙ ap (λ t. nat_lt 0 t) (sym (times-last j p xs (λ e. omega (arith, e, h))));
        once = λ j h. (let same = times-last j p xs (λ e. omega (arith, e, h)) in let o = k.once j (omega (arith, h, under)) in omega (arith, same, o));
        twice = λ h. omega (arith, here, some);
      }

  fresh : p < m.0 → slice_index_or m.1 p false ≡ false → Keeps n (xs ++ p ∷ []) (m.0, slice_set m.1 p true)
  fresh under e =
      let none : nat_lt 0 (times p xs) ≡ false = sym (k.marks p under) ∙ e in
      let zero_times : times p xs ≡ 0 = nothing (times p xs) none in
      let low = k.low in
      let size = k.size in
      let within : p < length m.1 = omega (arith, under, low, size) in
      record {
        size = length-set m.1 p true ∙ k.size;
        low = k.low;
        marks = λ j h. at j h (j == p) refl zero_times within;
        once = λ j h. few j h (j == p) refl zero_times;
        twice = λ h. (let t = k.twice h in let more = times-more m.0 p xs in omega (arith, t, more));
      }
    where
      nothing : (t : ℕ) → nat_lt 0 t ≡ false → t ≡ 0
      nothing zero f = refl
      nothing (suc t) f = absurd (true≢false (sym (lt-ltb 0 (suc t) (omega arith)) ∙ f))

      at : (j : ℕ) → j < m.0 → (b : Bool) → (j == p) ≡ b → times p xs ≡ 0 → p < length m.1 → slice_index_or (slice_set m.1 p true) j false ≡ nat_lt 0 (times j (xs ++ p ∷ []))
      at j h true f none within =
          let same : j ≡ p = eqb-true j p f in
          let count : times p (xs ++ p ∷ []) ≡ 1 = (let here = times-here p xs in omega (arith, here, none)) in
          ap (λ i. get_or (set m.1 p true) i false) same ∙ get_or-set_same m.1 p true false within ∙ ap (λ t. nat_lt 0 t) (sym count) ∙ ap (λ i. nat_lt 0 (times i (xs ++ p ∷ []))) (sym same)
      at j h false f none within =
          let differs : j ≡ p → ⊥ = λ e. true≢false (sym (eq-eqb j p e) ∙ f) in
          get_or-set_other m.1 p j true false differs ∙ k.marks j h ∙ ap (λ t. nat_lt 0 t) (sym (times-last j p xs differs))

      few : (j : ℕ) → j < m.0 → (b : Bool) → (j == p) ≡ b → times p xs ≡ 0 → times j (xs ++ p ∷ []) ≤ 1
      few j h true f none =
          let same : j ≡ p = eqb-true j p f in
          let here = times-here p xs in
          let count : times j (xs ++ p ∷ []) ≡ 1 = ap (λ i. times i (xs ++ p ∷ [])) same ∙ omega (arith, here, none) in
          omega (arith, count)
      few j h false f none =
          let same = times-last j p xs (λ e. true≢false (sym (eq-eqb j p e) ∙ f)) in
          let o = k.once j h in
          omega (arith, same, o)

  behind : m.0 ≤ p → Keeps n (xs ++ p ∷ []) m
  behind over = record {
    size = k.size;
    low = k.low;
    marks = λ j h. k.marks j h ∙ ap (λ t. nat_lt 0 t) (sym (times-last j p xs (λ e. omega (arith, e, h, over))));
    once = λ j h. (let same = times-last j p xs (λ e. omega (arith, e, h, over)) in let o = k.once j h in omega (arith, same, o));
    twice = λ h. (let t = k.twice h in let more = times-more m.0 p xs in omega (arith, t, more));
  }

  pub keeps-see : Keeps n (xs ++ p ∷ []) (see m p)
  keeps-see = by (nat_lt p m.0) refl
    where
      inner : p < m.0 → (b : Bool) → slice_index_or m.1 p false ≡ b → Keeps n (xs ++ p ∷ []) (if b then (p, m.1) else (m.0, slice_set m.1 p true))
      inner under true e = again under e
      inner under false e = fresh under e

      by : (b : Bool) → nat_lt p m.0 ≡ b → Keeps n (xs ++ p ∷ []) (if b then met m p else m)
      by true e = inner (ltb-true p m.0 e) (slice_index_or m.1 p false) refl
      by false e = behind (let not : p < m.0 → ⊥ = λ r. true≢false (sym (lt-ltb p m.0 r) ∙ e) in omega (arith, not))

pub keeps-all : (n : ℕ) (xs ps : List ℕ) (m : Seen) → Keeps n xs m → Keeps n (xs ++ ps) (see_all m ps)
keeps-all n xs [] m k = subst (λ ys. Keeps n ys m) (sym (append-nil xs)) k
keeps-all n xs (p ∷ ps) m k = subst (λ ys. Keeps n ys (see_all m (p ∷ ps))) (append_assoc xs (p ∷ []) ps) (keeps-all n (xs ++ p ∷ []) ps (see m p) (keeps-see n xs m k p))

-- ---- the first place that is driven twice

many : (t : ℕ) → t ≤ 1 → nat_lt 1 t ≡ false
many zero h = refl
many (suc zero) h = refl
many (suc (suc t)) h = absurd (omega (arith, h))

pub first-known : (n : ℕ) (xs : List ℕ) (m : Seen) → Keeps n xs m → first_twice n xs ≡ known n m.0
first-known n xs m k = least-first (λ j. nat_lt 1 (times j xs)) n (known n m.0) (by (nat_lt m.0 n) refl)
  where
    by : (b : Bool) → nat_lt m.0 n ≡ b → IsLeast (λ j. nat_lt 1 (times j xs)) n (if b then Some m.0 else None)
    by true e =
        let low = ltb-true m.0 n e in
        record { low = low; holds = lt-ltb 1 (times m.0 xs) (k.twice low); before = λ j h. many (times j xs) (k.once j h) }
    by false e = λ j h.
        let not : m.0 < n → ⊥ = λ r. true≢false (sym (lt-ltb m.0 n r) ∙ e) in
        many (times j xs) (k.once j (omega (arith, h, not)))

-- ---- with places from outside

earlier-none : (a : Option ℕ) → earlier a None ≡ a
earlier-none None = refl
earlier-none (Some a) = refl

earlier-same : (a b c : Option ℕ) → earlier (earlier a b) c ≡ earlier a (earlier b c)
earlier-same None b c = refl
earlier-same (Some a) None c = refl
earlier-same (Some a) (Some b) None = earlier-none (earlier (Some a) (Some b))
earlier-same (Some a) (Some b) (Some c) = by (nat_lt b a) (nat_lt c b) (nat_lt c a) refl refl refl
  where
    pick : Bool → ℕ → ℕ → Option ℕ
    pick t x y = if t then Some y else Some x

    by : (ba cb ca : Bool) → nat_lt b a ≡ ba → nat_lt c b ≡ cb → nat_lt c a ≡ ca → earlier (if ba then Some b else Some a) (Some c) ≡ earlier (Some a) (if cb then Some c else Some b)
    by true true ca e f g = ap (λ t. if t then Some c else Some b) f ∙ sym (ap (λ t. if t then Some c else Some a) (lt-ltb c a (let x = ltb-true b a e in let y = ltb-true c b f in omega (arith, x, y))))
    by true false ca e f g = ap (λ t. if t then Some c else Some b) f ∙ sym (ap (λ t. if t then Some b else Some a) e)
    by false true ca e f g = refl
    by false false true e f g =
        let x = ltb-true c a g in
        let no_e : b < a → ⊥ = λ r. true≢false (sym (lt-ltb b a r) ∙ e) in
        let no_f : c < b → ⊥ = λ r. true≢false (sym (lt-ltb c b r) ∙ f) in
        absurd (omega (arith, x, no_e, no_f))
    by false false false e f g = ap (λ t. if t then Some c else Some a) g ∙ sym (ap (λ t. if t then Some b else Some a) e)

lower-below : (driven : List Bool) (best p : ℕ) → lower driven best p ≤ best
lower-below driven best p = by (nat_lt p best) (slice_index_or driven p false) refl
  where
    by : (b c : Bool) → nat_lt p best ≡ b → (if b then (if c then p else best) else best) ≤ best
    by true true e = let low = ltb-true p best e in omega (arith, low)
    by true false e = omega arith
    by false c e = omega arith

module _ (n : ℕ) (xs : List ℕ) (m : Seen) (k : Keeps n xs m) where
  lower-known : (best p : ℕ) → best ≤ m.0 → p < n → known n (lower m.1 best p) ≡ earlier (known n best) (if nat_lt 0 (times p xs) then Some p else None)
  lower-known best p low within = by (nat_lt p best) refl
    where
      marked : (c : Bool) → nat_lt p best ≡ true → p < best → slice_index_or m.1 p false ≡ c → known n (if c then p else best) ≡ earlier (known n best) (if c then Some p else None)
      marked true e under f = ap (λ b. if b then Some p else None) (lt-ltb p n within) ∙ at (nat_lt best n)
        where
          at : (b : Bool) → Some p ≡ earlier (if b then Some best else None) (Some p)
          at true = sym (ap (λ b. if b then Some p else Some best) e)
          at false = refl
      marked false e under f = sym (earlier-none (known n best))

      unmarked : p < best → slice_index_or m.1 p false ≡ nat_lt 0 (times p xs)
      unmarked under = k.marks p (omega (arith, under, low))

      over : nat_lt p best ≡ false → best < n → (c : Bool) → known n best ≡ earlier (known n best) (if c then Some p else None)
      over e under true = ap (λ b. if b then Some best else None) (lt-ltb best n under) ∙ sym (ap (λ b. if b then Some p else Some best) e) ∙ ap (λ b. earlier (if b then Some best else None) (Some p)) (sym (lt-ltb best n under))
      over e under false = sym (earlier-none (known n best))

      by : (b : Bool) → nat_lt p best ≡ b → known n (if b then (if slice_index_or m.1 p false then p else best) else best) ≡ earlier (known n best) (if nat_lt 0 (times p xs) then Some p else None)
      by true e =
          let under = ltb-true p best e in
          marked (slice_index_or m.1 p false) e under refl ∙ ap (λ c. earlier (known n best) (if c then Some p else None)) (unmarked under)
      by false e =
          let not : p < best → ⊥ = λ r. true≢false (sym (lt-ltb p best r) ∙ e) in
          over e (omega (arith, not, within)) (nat_lt 0 (times p xs))

  lowered : (ps : List ℕ) (best : ℕ) → best ≤ m.0 → list_all (λ p. nat_lt p n) ps ≡ true → known n (lower_all m.1 best ps) ≡ earlier (known n best) (least_in ps xs)
  lowered [] best low within = sym (earlier-none (known n best))
  lowered (p ∷ ps) best low within =
      let here = ltb-true p n (one (nat_lt p n) (list_all (λ q. nat_lt q n) ps) within) in
      let less = lower-below m.1 best p in
      lowered ps (lower m.1 best p) (omega (arith, less, low)) (other (nat_lt p n) (list_all (λ q. nat_lt q n) ps) within)
      ∙ ap (λ o. earlier o (least_in ps xs)) (lower-known best p low here)
      ∙ earlier-same (known n best) (if nat_lt 0 (times p xs) then Some p else None) (least_in ps xs)

  -- the earlier one of the first from inside and the first from outside that is driven from inside
  pub with-outside : (ps : List ℕ) → list_all (λ p. nat_lt p n) ps ≡ true → known n (lower_all m.1 m.0 ps) ≡ earlier (first_twice n xs) (least_in ps xs)
  with-outside ps within = lowered ps m.0 (omega arith) within ∙ ap (λ o. earlier o (least_in ps xs)) (sym (first-known n xs m k))

-- ---- for loops

pub see-more : (m : Seen) (ps qs : List ℕ) → see_all m (ps ++ qs) ≡ see_all (see_all m ps) qs
see-more m [] qs = refl
see-more m (p ∷ ps) qs = see-more (see m p) ps qs

pub lower-more : (driven : List Bool) (best : ℕ) (ps qs : List ℕ) → lower_all driven best (ps ++ qs) ≡ lower_all driven (lower_all driven best ps) qs
lower-more driven best [] qs = refl
lower-more driven best (p ∷ ps) qs = lower-more driven (lower driven best p) ps qs

-- nothing is seen behind the first
pub see-behind : (m : Seen) (n p : ℕ) → m.0 ≤ p → see_all m (upward n p) ≡ m
see-behind m zero p h = refl
see-behind m (suc n) p h =
    let none : nat_lt p m.0 ≡ false = by (nat_lt p m.0) refl in
    ap (λ b. see_all (if b then met m p else m) (upward n (p + 1))) none ∙ see-behind m n (p + 1) (omega (arith, h))
  where
    by : (b : Bool) → nat_lt p m.0 ≡ b → nat_lt p m.0 ≡ false
    by true e = absurd (let low = ltb-true p m.0 e in omega (arith, low, h))
    by false e = e

pub lower-behind : (driven : List Bool) (best n p : ℕ) → best ≤ p → lower_all driven best (upward n p) ≡ best
lower-behind driven best zero p h = refl
lower-behind driven best (suc n) p h =
    let none : nat_lt p best ≡ false = by (nat_lt p best) refl in
    ap (λ b. lower_all driven (if b then (if slice_index_or driven p false then p else best) else best) (upward n (p + 1))) none ∙ lower-behind driven best n (p + 1) (omega (arith, h))
  where
    by : (b : Bool) → nat_lt p best ≡ b → nat_lt p best ≡ false
    by true e = absurd (let low = ltb-true p best e in omega (arith, low, h))
    by false e = e

pub lower-least : (driven : List Bool) (best : ℕ) (ps : List ℕ) → lower_all driven best ps ≤ best
lower-least driven best [] = omega arith
lower-least driven best (p ∷ ps) =
    let a = lower-below driven best p in
    let b = lower-least driven (lower driven best p) ps in
    omega (arith, a, b)
