-- What is found from the last strategy to the first is the winner.
use Rattle.std.proofs.Common.{◌≡◌, ◌⊎◌, ◌<◌, ◌≤◌, ◌+◌, ◌==◌, ℕ, Bool, true, false, ◌&&◌, ◌||◌, List, [], ◌∷◌, length, Option, Some, None, inl, inr, refl, sym, ap, ◌∙◌, subst, arith}
use Rattle.std.specs.Prelude.{nat_lt, not, filter, option_and_then, if◌then◌else◌}
use Rattle.std.specs.List.{list_any, list_all}
use Rattle.std.proofs.lemmas.Bool.{true≢false, ltb-true, lt-ltb, eqb-true, eq-eqb, cases_lt}
use Rattle.lp_spec_design.specs.Netlists.{first}
use Rattle.lp_spec_design.specs.Graph.{numbered}
use Rattle.lp_spec_design.specs.Intents.{Strategy}
use Rattle.lp_spec_design.specs.Winners.{IsIn, beats_all, winner_among, is_tied}
use Rattle.lp_spec_design.specs.Reads.{one, other, both}
use Rattle.lp_spec_design.proofs.Members.{of-filter, of-any, any-in}
use Rattle.lp_spec_design.proofs.Sources.{first_in}
use Rattle.lp_domains.proofs.Flagged.{in-filter}
use Rattle.lp_retention.specs.declared.best.Best.{Best}
use Rattle.lp_retention.specs.Best.{none_yet, offer, best_from, settled, winning}

-- ---- members of numbered lists

numbers-in : {A : Type 0} (n : ℕ) (z : ℕ × A) (xs : List A) → IsIn z (numbered n xs) → (n ≤ z.0) × (z.0 < n + length xs)
numbers-in n z [] h = absurd h
numbers-in n z (x ∷ xs) (inl is) = let same = ap (λ q. q.0) is in (omega (arith, same), omega (arith, same))
numbers-in n z (x ∷ xs) (inr h) = let more = numbers-in (n + 1) z xs h in (omega (arith, more.0), omega (arith, more.1))

-- the number says which member it is
same-number : {A : Type 0} (n : ℕ) (y z : ℕ × A) (xs : List A) → IsIn y (numbered n xs) → IsIn z (numbered n xs) → y.0 ≡ z.0 → y ≡ z
same-number n y z [] h g e = absurd h
same-number n y z (x ∷ xs) (inl a) (inl b) e = a ∙ sym b
same-number n y z (x ∷ xs) (inl a) (inr b) e = let low = (numbers-in (n + 1) z xs b).0 in let is = ap (λ q. q.0) a in absurd (omega (arith, low, is, e))
same-number n y z (x ∷ xs) (inr a) (inl b) e = let low = (numbers-in (n + 1) y xs a).0 in let is = ap (λ q. q.0) b in absurd (omega (arith, low, is, e))
same-number n y z (x ∷ xs) (inr a) (inr b) e = same-number (n + 1) y z xs a b e

all-in : {A : Type 0} (p : A → Bool) (xs : List A) → ((x : A) → IsIn x xs → p x ≡ true) → list_all p xs ≡ true
all-in p [] h = refl
all-in p (x ∷ xs) h = both (p x) (list_all p xs) (h x (inl refl)) (all-in p xs (λ y m. h y (inr m)))

one-of : {A : Type 0} (p : A → Bool) (xs : List A) (x : A) → list_all p xs ≡ true → IsIn x xs → p x ≡ true
one-of p [] x h m = absurd m
one-of p (y ∷ ys) x h (inl is) = ap p is ∙ one (p y) (list_all p ys) h
one-of p (y ∷ ys) x h (inr m) = one-of p ys x (other (p y) (list_all p ys) h) m

-- the first that passes, where one alone does
first-only : {A : Type 0} (p : A → Bool) (xs : List A) (x : A) → IsIn x xs → p x ≡ true → ((y : A) → IsIn y xs → p y ≡ true → y ≡ x) → first p xs ≡ Some x
first-only p [] x m h only = absurd m
first-only p (y ∷ ys) x m h only = by (p y) refl m (λ more. first-only p ys x more h (λ z n. only z (inr n)))
  where
    by : (b : Bool) → p y ≡ b → IsIn x (y ∷ ys) → (IsIn x ys → first p ys ≡ Some x) → (if b then Some y else first p ys) ≡ Some x
    by true e m rest = ap (λ z. Some z) (only y (inl refl) e)
    by false e (inl is) rest = absurd (true≢false (sym h ∙ ap p is ∙ e))
    by false e (inr more) rest = rest more

first-none : {A : Type 0} (p : A → Bool) (xs : List A) → ((y : A) → IsIn y xs → p y ≡ true → ⊥) → first p xs ≡ None
first-none p [] never = refl
first-none p (y ∷ ys) never = by (p y) refl (first-none p ys (λ z n. never z (inr n)))
  where
    by : (b : Bool) → p y ≡ b → first p ys ≡ None → (if b then Some y else first p ys) ≡ None
    by true e rest = absurd (never y (inl refl) e)
    by false e rest = rest

-- ---- tests of numbers

not-zero : (r : ℕ) → 0 < r → (r == 0) ≡ false
not-zero r h = by (r == 0) refl
  where
    by : (b : Bool) → (r == 0) ≡ b → b ≡ false
    by false e = refl
    by true e = let z = eqb-true r 0 e in absurd (omega (arith, z, h))

not-below : (a b : ℕ) → b ≤ a → nat_lt a b ≡ false
not-below a b h = by (nat_lt a b) refl
  where
    by : (c : Bool) → nat_lt a b ≡ c → c ≡ false
    by false e = refl
    by true e = let z = ltb-true a b e in absurd (omega (arith, z, h))

not-equal : (a b : ℕ) → b < a → (a == b) ≡ false
not-equal a b h = by (a == b) refl
  where
    by : (c : Bool) → (a == b) ≡ c → c ≡ false
    by false e = refl
    by true e = let z = eqb-true a b e in absurd (omega (arith, z, h))

either-true : (a b : Bool) → b ≡ true → (a || b) ≡ true
either-true true b h = refl
either-true false b h = h

-- ---- one more strategy

offer-above : (n r : ℕ) (b : Best) → 0 < r → b.rank < r → offer n r b ≡ record { rank = r; first = Some n; second = None }
offer-above n r b some h =
    ap (λ c. if c then b else if nat_lt b.rank r then record { rank = r; first = Some n; second = None } else if b.rank == r then record { rank = r; first = Some n; second = b.first } else b) (not-zero r some)
    ∙ ap (λ c. if c then record { rank = r; first = Some n; second = None } else if b.rank == r then record { rank = r; first = Some n; second = b.first } else b) (lt-ltb b.rank r h)

offer-equal : (n r : ℕ) (b : Best) → 0 < r → b.rank ≡ r → offer n r b ≡ record { rank = r; first = Some n; second = b.first }
offer-equal n r b some h =
    ap (λ c. if c then b else if nat_lt b.rank r then record { rank = r; first = Some n; second = None } else if b.rank == r then record { rank = r; first = Some n; second = b.first } else b) (not-zero r some)
    ∙ ap (λ c. if c then record { rank = r; first = Some n; second = None } else if b.rank == r then record { rank = r; first = Some n; second = b.first } else b) (not-below b.rank r (omega (arith, h)))
    ∙ ap (λ c. if c then record { rank = r; first = Some n; second = b.first } else b) (eq-eqb b.rank r h)

offer-below : (n r : ℕ) (b : Best) → 0 < r → r < b.rank → offer n r b ≡ b
offer-below n r b some h =
    ap (λ c. if c then b else if nat_lt b.rank r then record { rank = r; first = Some n; second = None } else if b.rank == r then record { rank = r; first = Some n; second = b.first } else b) (not-zero r some)
    ∙ ap (λ c. if c then record { rank = r; first = Some n; second = None } else if b.rank == r then record { rank = r; first = Some n; second = b.first } else b) (not-below b.rank r (omega (arith, h)))
    ∙ ap (λ c. if c then record { rank = r; first = Some n; second = b.first } else b) (not-equal b.rank r (omega (arith, h)))

-- ---- the strategies of the greatest rank

module _ (ranked : Strategy → ℕ) where
  record OneBest (all : List (ℕ × Strategy)) (b : Best) : Type 0 where
    x : ℕ × Strategy
    there : IsIn x all
    rank : b.rank ≡ ranked x.1
    is : b.first ≡ Some x.0
    alone : b.second ≡ None
    above : (y : ℕ × Strategy) → IsIn y all → (y ≡ x) ⊎ (ranked y.1 < ranked x.1)

  record TwoBest (all : List (ℕ × Strategy)) (b : Best) : Type 0 where
    x : ℕ × Strategy
    z : ℕ × Strategy
    there : IsIn x all
    more : IsIn z all
    rank : b.rank ≡ ranked x.1
    equal : ranked z.1 ≡ ranked x.1
    apart : x.0 < z.0
    is : b.first ≡ Some x.0
    next : b.second ≡ Some z.0
    above : (y : ℕ × Strategy) → IsIn y all → ranked y.1 ≤ ranked x.1
    lead : (y : ℕ × Strategy) → IsIn y all → ranked y.1 ≡ ranked x.1 → (y ≡ x) ⊎ (z.0 ≤ y.0)

  abbrev Bests : List (ℕ × Strategy) → Best → Type 0
  Bests all b = ((all ≡ []) × (b ≡ none_yet)) ⊎ (OneBest all b ⊎ TwoBest all b)

  highest : (n : ℕ) (t : Strategy) (all : List (ℕ × Strategy)) → ((y : ℕ × Strategy) → IsIn y all → ranked y.1 < ranked t) → OneBest ((n, t) ∷ all) (record { rank = ranked t; first = Some n; second = None })
  highest n t all low = record { x = (n, t); there = inl refl; rank = refl; is = refl; alone = refl; above = λ y m. elim m [ inl is ↦ inl is | inr r ↦ inr (low y r) ] }

  one-more : (n : ℕ) (t : Strategy) (all : List (ℕ × Strategy)) (b : Best) → 0 < ranked t → ((y : ℕ × Strategy) → IsIn y all → n < y.0) → OneBest all b → Bests ((n, t) ∷ all) (offer n (ranked t) b)
  one-more n t all b some later o = elim (cases_lt b.rank (ranked t)) [
    | inl low ↦
        subst (Bests ((n, t) ∷ all)) (sym (offer-above n (ranked t) b some low))
        (inr (inl (highest n t all (λ y m. elim (o.above y m) [ inl is ↦ let same = ap (λ (q : ℕ × Strategy). ranked q.1) is in let r = o.rank in omega (arith, low, same, r) | inr less ↦ let r = o.rank in omega (arith, low, less, r) ]))))
    | inr high ↦ elim (cases_lt (ranked t) b.rank) [
      | inl low ↦
          subst (Bests ((n, t) ∷ all)) (sym (offer-below n (ranked t) b some low))
          (inr (inl (record {
            x = o.x;
            there = inr o.there;
            rank = o.rank;
            is = o.is;
            alone = o.alone;
            above = λ y m. elim m [ inl is ↦ let same = ap (λ (q : ℕ × Strategy). ranked q.1) is in let r = o.rank in inr (omega (arith, low, same, r)) | inr more ↦ o.above y more ];
          })))
      | inr most ↦
          let same : b.rank ≡ ranked t = omega (arith, high, most) in
          let r = o.rank in
          subst (Bests ((n, t) ∷ all)) (sym (offer-equal n (ranked t) b some same))
          (inr (inr (record {
            x = (n, t);
            z = o.x;
            there = inl refl;
            more = inr o.there;
            rank = refl;
            equal = sym r ∙ same;
            apart = later o.x o.there;
            is = refl;
            next = o.is;
            above = λ y m. elim m [ inl is ↦ let eq = ap (λ (q : ℕ × Strategy). ranked q.1) is in omega (arith, eq) | inr more ↦ elim (o.above y more) [ inl is ↦ let eq = ap (λ (q : ℕ × Strategy). ranked q.1) is in omega (arith, eq, same, r) | inr less ↦ omega (arith, less, same, r) ] ];
            lead = λ y m e. elim m [ inl is ↦ inl is | inr more ↦ elim (o.above y more) [ inl is ↦ let eq = ap (λ (q : ℕ × Strategy). q.0) is in inr (omega (arith, eq)) | inr less ↦ absurd (omega (arith, less, e, same, r)) ] ];
          })))
    ]
  ]

  two-more : (n : ℕ) (t : Strategy) (all : List (ℕ × Strategy)) (b : Best) → 0 < ranked t → ((y : ℕ × Strategy) → IsIn y all → n < y.0) → TwoBest all b → Bests ((n, t) ∷ all) (offer n (ranked t) b)
  two-more n t all b some later o = elim (cases_lt b.rank (ranked t)) [
    | inl low ↦
        subst (Bests ((n, t) ∷ all)) (sym (offer-above n (ranked t) b some low))
        (inr (inl (highest n t all (λ y m. let most = o.above y m in let r = o.rank in omega (arith, low, most, r)))))
    | inr high ↦ elim (cases_lt (ranked t) b.rank) [
      | inl low ↦
          subst (Bests ((n, t) ∷ all)) (sym (offer-below n (ranked t) b some low))
          (inr (inr (record {
            x = o.x;
            z = o.z;
            there = inr o.there;
            more = inr o.more;
            rank = o.rank;
            equal = o.equal;
            apart = o.apart;
            is = o.is;
            next = o.next;
            above = λ y m. elim m [ inl is ↦ let same = ap (λ (q : ℕ × Strategy). ranked q.1) is in let r = o.rank in omega (arith, low, same, r) | inr more ↦ o.above y more ];
            lead = λ y m e. elim m [ inl is ↦ let same = ap (λ (q : ℕ × Strategy). ranked q.1) is in let r = o.rank in absurd (omega (arith, low, same, r, e)) | inr more ↦ o.lead y more e ];
          })))
      | inr most ↦
          let same : b.rank ≡ ranked t = omega (arith, high, most) in
          let r = o.rank in
          subst (Bests ((n, t) ∷ all)) (sym (offer-equal n (ranked t) b some same))
          (inr (inr (record {
            x = (n, t);
            z = o.x;
            there = inl refl;
            more = inr o.there;
            rank = refl;
            equal = sym r ∙ same;
            apart = later o.x o.there;
            is = refl;
            next = o.is;
            above = λ y m. elim m [ inl is ↦ let eq = ap (λ (q : ℕ × Strategy). ranked q.1) is in omega (arith, eq) | inr more ↦ let less = o.above y more in omega (arith, less, same, r) ];
            lead = λ y m e. elim m [
              | inl is ↦ inl is
              | inr more ↦ elim (o.lead y more (e ∙ sym same ∙ r)) [ inl is ↦ let eq = ap (λ (q : ℕ × Strategy). q.0) is in inr (omega (arith, eq)) | inr after ↦ let d = o.apart in inr (omega (arith, after, d)) ]
            ];
          })))
    ]
  ]

  first-one : (n : ℕ) (t : Strategy) (all : List (ℕ × Strategy)) (b : Best) → 0 < ranked t → all ≡ [] → b ≡ none_yet → Bests ((n, t) ∷ all) (offer n (ranked t) b)
  first-one n t all b some none is =
      subst (Bests ((n, t) ∷ all)) (sym (offer-above n (ranked t) b some (subst (λ (c : Best). c.rank < ranked t) (sym is) some)))
      (inr (inl (highest n t all (λ y m. absurd (subst (λ xs. IsIn y xs) none m)))))

  offered : (n : ℕ) (t : Strategy) (all : List (ℕ × Strategy)) (b : Best) → 0 < ranked t → ((y : ℕ × Strategy) → IsIn y all → n < y.0) → Bests all b → Bests ((n, t) ∷ all) (offer n (ranked t) b)
  offered n t all b some later (inl none) = first-one n t all b some none.0 none.1
  offered n t all b some later (inr (inl o)) = one-more n t all b some later o
  offered n t all b some later (inr (inr o)) = two-more n t all b some later o

  -- ---- the winner

  abbrev beats : List (ℕ × Strategy) → ℕ × Strategy → ℕ × Strategy → Bool
  beats all x y = (y.0 == x.0) || nat_lt (ranked y.1) (ranked x.1)

  beaten : (all : List (ℕ × Strategy)) (x y : ℕ × Strategy) → beats_all ranked all x ≡ true → IsIn y all → (y.0 ≡ x.0) ⊎ (ranked y.1 < ranked x.1)
  beaten all x y h m = by (y.0 == x.0) refl (one-of (beats all x) all y h m)
    where
      by : (b : Bool) → (y.0 == x.0) ≡ b → ((y.0 == x.0) || nat_lt (ranked y.1) (ranked x.1)) ≡ true → (y.0 ≡ x.0) ⊎ (ranked y.1 < ranked x.1)
      by true e g = inl (eqb-true y.0 x.0 e)
      by false e g = inr (ltb-true (ranked y.1) (ranked x.1) (ap (λ c. c || nat_lt (ranked y.1) (ranked x.1)) (sym e) ∙ g))

  abbrev number : ℕ × Strategy → Option ℕ
  number t = Some t.0

  one-wins : (all : List (ℕ × Strategy)) (b : Best) → ((y z : ℕ × Strategy) → IsIn y all → IsIn z all → y.0 ≡ z.0 → y ≡ z) → OneBest all b → option_and_then number (winner_among ranked all) ≡ winning b
  one-wins all b same o =
      ap (option_and_then number) (first-only (beats_all ranked all) all o.x o.there (all-in (beats all o.x) all over) only)
      ∙ sym o.is
      ∙ sym (ap (λ (s : Option ℕ). settled s b.first) o.alone)
    where
      over : (y : ℕ × Strategy) → IsIn y all → beats all o.x y ≡ true
      over y m = elim (o.above y m) [
        | inl is ↦ ap (λ c. c || nat_lt (ranked y.1) (ranked o.x.1)) (eq-eqb y.0 o.x.0 (ap (λ (q : ℕ × Strategy). q.0) is))
        | inr less ↦ either-true (y.0 == o.x.0) (nat_lt (ranked y.1) (ranked o.x.1)) (lt-ltb (ranked y.1) (ranked o.x.1) less)
      ]

      only : (y : ℕ × Strategy) → IsIn y all → beats_all ranked all y ≡ true → y ≡ o.x
      only y m h = elim (o.above y m) [
        | inl is ↦ is
        | inr less ↦ elim (beaten all y o.x h o.there) [ inl is ↦ sym (same o.x y o.there m is) | inr more ↦ absurd (omega (arith, less, more)) ]
      ]

  none-wins : (all : List (ℕ × Strategy)) (b : Best) → TwoBest all b → option_and_then number (winner_among ranked all) ≡ winning b
  none-wins all b o =
      ap (option_and_then number) (first-none (beats_all ranked all) all never) ∙ sym (ap (λ (s : Option ℕ). settled s b.first) o.next)
    where
      never : (y : ℕ × Strategy) → IsIn y all → beats_all ranked all y ≡ true → ⊥
      never y m h =
          let most = o.above y m in
          let e = o.equal in
          let d = o.apart in
          elim (beaten all y o.x h o.there) [
            | inl a ↦ elim (beaten all y o.z h o.more) [ inl c ↦ omega (arith, a, c, d) | inr less ↦ omega (arith, less, most, e) ]
            | inr less ↦ omega (arith, less, most)
          ]

  wins : (all : List (ℕ × Strategy)) (b : Best) → ((y z : ℕ × Strategy) → IsIn y all → IsIn z all → y.0 ≡ z.0 → y ≡ z) → Bests all b → option_and_then number (winner_among ranked all) ≡ winning b
  wins all b same (inl none) = ap (λ xs. option_and_then number (winner_among ranked xs)) none.0 ∙ sym (ap winning none.1)
  wins all b same (inr (inl o)) = one-wins all b same o
  wins all b same (inr (inr o)) = none-wins all b o

-- ---- ties

abbrev pub first_of_list : (ℕ × Strategy → Bool) → List (ℕ × Strategy) → Option (ℕ × Strategy)
first_of_list p xs = first p xs

-- the first of a numbered list that passes is the one of the least number
first-least : (p : ℕ × Strategy → Bool) (n : ℕ) (xs : List Strategy) (x : ℕ × Strategy) → IsIn x (numbered n xs) → p x ≡ true → ((y : ℕ × Strategy) → IsIn y (numbered n xs) → p y ≡ true → x.0 ≤ y.0) → first p (numbered n xs) ≡ Some x
first-least p n [] x m h least = absurd m
first-least p n (t ∷ ts) x m h least = by (p (n, t)) refl m (λ more. first-least p (n + 1) ts x more h (λ y k e. least y (inr k) e))
  where
    by : (b : Bool) → p (n, t) ≡ b → IsIn x ((n, t) ∷ numbered (n + 1) ts) → (IsIn x (numbered (n + 1) ts) → first p (numbered (n + 1) ts) ≡ Some x) → (if b then Some (n, t) else first p (numbered (n + 1) ts)) ≡ Some x
    by true e m rest =
        let low = least (n, t) (inl refl) e in
        let high = (numbers-in n x (t ∷ ts) m).0 in
        ap (λ (z : ℕ × Strategy). Some z) (same-number n (n, t) x (t ∷ ts) (inl refl) m (omega (arith, low, high)))
    by false e (inl is) rest = absurd (true≢false (sym h ∙ ap p is ∙ e))
    by false e (inr more) rest = rest more

first-filter : (p q : ℕ × Strategy → Bool) (xs : List (ℕ × Strategy)) → first p (filter q xs) ≡ first (λ x. q x && p x) xs
first-filter p q [] = refl
first-filter p q (x ∷ xs) = by (q x) (first-filter p q xs)
  where
    by : (b : Bool) → first p (filter q xs) ≡ first (λ y. q y && p y) xs → first p (if b then x ∷ filter q xs else filter q xs) ≡ (if (b && p x) then Some x else first (λ y. q y && p y) xs)
    by true more = ap (λ r. if p x then Some x else r) more
    by false more = more

not-true : (b : Bool) → not b ≡ true → b ≡ false
not-true true h = absurd (true≢false (sym h))
not-true false h = refl

differs-not : (a b : ℕ) → not (a == b) ≡ true → a ≡ b → ⊥
differs-not a b h e = true≢false (sym (eq-eqb a b e) ∙ not-true (a == b) h)

differs-is : (a b : ℕ) → (a ≡ b → ⊥) → not (a == b) ≡ true
differs-is a b h = by (a == b) refl
  where
    by : (c : Bool) → (a == b) ≡ c → not c ≡ true
    by true e = absurd (h (eqb-true a b e))
    by false e = refl

-- ---- of a numbered list

module _ (applies : Strategy → Bool) (ranked : Strategy → ℕ) (positive : (v : Strategy) → 0 < ranked v) where
  abbrev pub some_rank : Strategy → ℕ
  some_rank a = if applies a then ranked a else 0

  abbrev pub those : ℕ → List Strategy → List (ℕ × Strategy)
  those n xs = filter (λ z. applies z.1) (numbered n xs)

  bests : (n : ℕ) (xs : List Strategy) → Bests ranked (those n xs) (best_from some_rank n xs)
  bests n [] = inl (refl, refl)
  bests n (t ∷ ts) = by (applies t) refl (bests (n + 1) ts)
    where
      by : (b : Bool) → applies t ≡ b → Bests ranked (those (n + 1) ts) (best_from some_rank (n + 1) ts) → Bests ranked (those n (t ∷ ts)) (best_from some_rank n (t ∷ ts))
      by false e rest =
          subst (λ xs. Bests ranked xs (best_from some_rank n (t ∷ ts))) (sym (ap (λ b. if b then (n, t) ∷ those (n + 1) ts else those (n + 1) ts) e))
          (subst (Bests ranked (those (n + 1) ts)) (sym (ap (λ b. offer n (if b then ranked t else 0) (best_from some_rank (n + 1) ts)) e)) rest)
      by true e rest =
          subst (λ xs. Bests ranked xs (best_from some_rank n (t ∷ ts))) (sym (ap (λ b. if b then (n, t) ∷ those (n + 1) ts else those (n + 1) ts) e))
          (subst (Bests ranked ((n, t) ∷ those (n + 1) ts)) (sym (ap (λ b. offer n (if b then ranked t else 0) (best_from some_rank (n + 1) ts)) e))
          (offered ranked n t (those (n + 1) ts) (best_from some_rank (n + 1) ts) (positive t)
          (λ y m. let low = (numbers-in (n + 1) y ts (of-filter (λ z. applies z.1) y (numbered (n + 1) ts) m).0).0 in omega (arith, low)) rest))

  pub winner-found : (n : ℕ) (xs : List Strategy) → option_and_then (λ (t : ℕ × Strategy). Some t.0) (winner_among ranked (those n xs)) ≡ winning (best_from some_rank n xs)
  winner-found n xs =
      wins ranked (those n xs) (best_from some_rank n xs)
      (λ y z a b. same-number n y z xs (of-filter (λ q. applies q.1) y (numbered n xs) a).0 (of-filter (λ q. applies q.1) z (numbered n xs) b).0)
      (bests n xs)

  -- its number is within the list
  pub winner-within : (n : ℕ) (xs : List Strategy) (k : ℕ) → winning (best_from some_rank n xs) ≡ Some k → k < n + length xs
  winner-within n xs k h = by (winner_among ranked (those n xs)) refl (winner-found n xs ∙ h)
    where
      by : (o : Option (ℕ × Strategy)) → winner_among ranked (those n xs) ≡ o → option_and_then (λ (t : ℕ × Strategy). Some t.0) (winner_among ranked (those n xs)) ≡ Some k → k < n + length xs
      by None e g = let no : None ≡ Some k = sym (ap (option_and_then (λ (t : ℕ × Strategy). Some t.0)) e) ∙ g in absurd cc
      by (Some t) e g =
          let is : Some t.0 ≡ Some k = sym (ap (option_and_then (λ (t : ℕ × Strategy). Some t.0)) e) ∙ g in
          let same : t.0 ≡ k = cc in
          let found = first_in (beats_all ranked (those n xs)) (those n xs) t e in
          let low = (numbers-in n t xs (of-filter (λ q. applies q.1) t (numbered n xs) found.0).0).1 in
          omega (arith, low, same)

  -- ---- ties

  abbrev pub tied_test : ℕ → List Strategy → ℕ × Strategy → Bool
  tied_test n xs t = applies t.1 && is_tied ranked (those n xs) t

  abbrev pub equals : ℕ × Strategy → ℕ × Strategy → Bool
  equals x y = not (y.0 == x.0) && (ranked y.1 == ranked x.1)

  -- two of the greatest rank, the first and the one after it
  pub record IsTie (n : ℕ) (xs : List Strategy) (b : Best) : Type 0 where
    pub x : ℕ × Strategy
    pub z : ℕ × Strategy
    pub is : b.first ≡ Some x.0
    pub next : b.second ≡ Some z.0
    pub tied : first_of_list (tied_test n xs) (numbered n xs) ≡ Some x
    pub partner : first_of_list (equals x) (those n xs) ≡ Some z

  abbrev pub IsUntied : ℕ → List Strategy → Best → Type 0
  IsUntied n xs b = (b.second ≡ None) × (first (tied_test n xs) (numbered n xs) ≡ None)

  is-those : (n : ℕ) (xs : List Strategy) (t : ℕ × Strategy) → IsIn t (numbered n xs) → applies t.1 ≡ true → IsIn t (those n xs)
  is-those n xs t m h = in-filter (λ z. applies z.1) t (numbered n xs) m h

  -- a tied strategy has the greatest rank
  tied-most : (n : ℕ) (xs : List Strategy) (t x : ℕ × Strategy) → tied_test n xs t ≡ true → IsIn x (those n xs) → ranked x.1 ≤ ranked t.1
  tied-most n xs t x h m =
      let all = one (list_all (λ y. not (nat_lt (ranked t.1) (ranked y.1))) (those n xs)) (list_any (equals t) (those n xs)) (other (applies t.1) (is_tied ranked (those n xs) t) h) in
      not-less (ranked t.1) (ranked x.1) (not-true (nat_lt (ranked t.1) (ranked x.1)) (one-of (λ (y : ℕ × Strategy). not (nat_lt (ranked t.1) (ranked y.1))) (those n xs) x all m))
    where
      not-less : (a b : ℕ) → nat_lt a b ≡ false → b ≤ a
      not-less a b e = elim (cases_lt a b) [ inl less ↦ absurd (true≢false (sym (lt-ltb a b less) ∙ e)) | inr least ↦ least ]

  -- and there is another one of its rank
  tied-other : (n : ℕ) (xs : List Strategy) (t : ℕ × Strategy) → tied_test n xs t ≡ true → (y : ℕ × Strategy) × IsIn y (those n xs) × (equals t y ≡ true)
  tied-other n xs t h = of-any (equals t) (those n xs) (other (list_all (λ y. not (nat_lt (ranked t.1) (ranked y.1))) (those n xs)) (list_any (equals t) (those n xs)) (other (applies t.1) (is_tied ranked (those n xs) t) h))

  never-tied : (n : ℕ) (xs : List Strategy) (b : Best) → OneBest ranked (those n xs) b → (t : ℕ × Strategy) → IsIn t (numbered n xs) → tied_test n xs t ≡ true → ⊥
  never-tied n xs b o t m h =
      let here = is-those n xs t m (one (applies t.1) (is_tied ranked (those n xs) t) h) in
      let most = tied-most n xs t o.x h o.there in
      let y = tied-other n xs t h in
      let differs = differs-not y.0.0 t.0 (one (not (y.0.0 == t.0)) (ranked y.0.1 == ranked t.1) y.2) in
      let same = eqb-true (ranked y.0.1) (ranked t.1) (other (not (y.0.0 == t.0)) (ranked y.0.1 == ranked t.1) y.2) in
      elim (o.above t here) [
        | inl is ↦ elim (o.above y.0 y.1) [ inl too ↦ differs (ap (λ (q : ℕ × Strategy). q.0) too ∙ sym (ap (λ (q : ℕ × Strategy). q.0) is)) | inr less ↦ omega (arith, less, most, same) ]
        | inr less ↦ omega (arith, less, most)
      ]

  two-tied : (n : ℕ) (xs : List Strategy) (b : Best) → TwoBest ranked (those n xs) b → IsTie n xs b
  two-tied n xs b o = record {
    x = o.x;
    z = o.z;
    is = o.is;
    next = o.next;
    tied = first-least (tied_test n xs) n xs o.x (of-filter (λ q. applies q.1) o.x (numbered n xs) o.there).0 passes least;
    partner = first-filter (equals o.x) (λ q. applies q.1) (numbered n xs) ∙ first-least (λ y. applies y.1 && equals o.x y) n xs o.z (of-filter (λ q. applies q.1) o.z (numbered n xs) o.more).0 equal later;
  }
    where
      z-equals : equals o.x o.z ≡ true
      z-equals = let d = o.apart in both (not (o.z.0 == o.x.0)) (ranked o.z.1 == ranked o.x.1) (differs-is o.z.0 o.x.0 (λ e. omega (arith, d, e))) (eq-eqb (ranked o.z.1) (ranked o.x.1) o.equal)

      passes : tied_test n xs o.x ≡ true
      passes =
          both (applies o.x.1) (is_tied ranked (those n xs) o.x) (of-filter (λ q. applies q.1) o.x (numbered n xs) o.there).1
          (both (list_all (λ y. not (nat_lt (ranked o.x.1) (ranked y.1))) (those n xs)) (list_any (equals o.x) (those n xs))
          (all-in (λ (y : ℕ × Strategy). not (nat_lt (ranked o.x.1) (ranked y.1))) (those n xs) (λ y m. ap not (not-below (ranked o.x.1) (ranked y.1) (o.above y m))))
          (any-in (equals o.x) o.z (those n xs) o.more z-equals))

      least : (y : ℕ × Strategy) → IsIn y (numbered n xs) → tied_test n xs y ≡ true → o.x.0 ≤ y.0
      least y m h =
          let here = is-those n xs y m (one (applies y.1) (is_tied ranked (those n xs) y) h) in
          let most = tied-most n xs y o.x h o.there in
          let top = o.above y here in
          elim (o.lead y here (omega (arith, most, top))) [ inl is ↦ let eq = ap (λ (q : ℕ × Strategy). q.0) is in omega (arith, eq) | inr after ↦ let d = o.apart in omega (arith, after, d) ]

      equal : (applies o.z.1 && equals o.x o.z) ≡ true
      equal = both (applies o.z.1) (equals o.x o.z) (of-filter (λ q. applies q.1) o.z (numbered n xs) o.more).1 z-equals

      later : (y : ℕ × Strategy) → IsIn y (numbered n xs) → (applies y.1 && equals o.x y) ≡ true → o.z.0 ≤ y.0
      later y m h =
          let here = is-those n xs y m (one (applies y.1) (equals o.x y) h) in
          let e = other (applies y.1) (equals o.x y) h in
          elim (o.lead y here (eqb-true (ranked y.1) (ranked o.x.1) (other (not (y.0 == o.x.0)) (ranked y.1 == ranked o.x.1) e))) [
            | inl is ↦ absurd (differs-not y.0 o.x.0 (one (not (y.0 == o.x.0)) (ranked y.1 == ranked o.x.1) e) (ap (λ (q : ℕ × Strategy). q.0) is))
            | inr after ↦ after
          ]

  pub ties-found : (n : ℕ) (xs : List Strategy) → IsUntied n xs (best_from some_rank n xs) ⊎ IsTie n xs (best_from some_rank n xs)
  ties-found n xs = by (best_from some_rank n xs) (bests n xs)
    where
      by : (b : Best) → Bests ranked (those n xs) b → IsUntied n xs b ⊎ IsTie n xs b
      by b (inl none) =
          inl (
            ap (λ (c : Best). c.second) none.1,
            first-none (tied_test n xs) (numbered n xs) (λ y m h. subst (λ ys. IsIn y ys) none.0 (is-those n xs y m (one (applies y.1) (is_tied ranked (those n xs) y) h))),
          )
      by b (inr (inl o)) = inl (o.alone, first-none (tied_test n xs) (numbered n xs) (never-tied n xs b o))
      by b (inr (inr o)) = inr (two-tied n xs b o)
