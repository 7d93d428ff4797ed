-- Faults one after the other.
use Rattle.std.proofs.Common.{◌≡◌, ℕ, ◌<◌, Bool, true, false, not, ◌&&◌, ◌||◌, List, [], ◌∷◌, ◌++◌, refl, sym, ap, ◌∙◌, inl, inr, arith}
use Rattle.std.specs.Prelude.{Option, Some, None, nat_lt, ◌==◌, ◌⊎◌}
use Rattle.std.specs.List.{list_all}
use Rattle.std.proofs.lemmas.Bool.{eqb-true, eq-eqb, ltb-true, lt-ltb, false_from_ne_true, true≢false}
use Rattle.std.proofs.lemmas.List.Folds.{list_all-append}
use Rattle.lp_text.specs.declared.place.Place.{Place}
use Rattle.lp_spec_upf.specs.Commands.{Fault, earlier, first_after, is_any_syntax, is_before, is_syntax, place_of}
use Rattle.lp_upf.specs.Faults.{Judged, join, joined, judged, least}

-- ---- places

either-true : (a b c : Bool) → (a || (b && c)) ≡ true → (a ≡ true) ⊎ ((b ≡ true) × (c ≡ true))
either-true true b c e = inl refl
either-true false true true e = inr (refl, refl)
either-true false true false e = absurd (true≢false (sym e))
either-true false false c e = absurd (true≢false (sym e))

or-true : (a : Bool) → (a || true) ≡ true
or-true true = refl
or-true false = refl

before-true : (a b : Place) → is_before a b ≡ true → (a.line < b.line) ⊎ ((a.line ≡ b.line) × (a.column < b.column))
before-true a b e =
    elim (either-true (nat_lt a.line b.line) (a.line == b.line) (nat_lt a.column b.column) e) [
      | inl x ↦ inl (ltb-true a.line b.line x)
      | inr x ↦ inr (eqb-true a.line b.line x.0, ltb-true a.column b.column x.1)
    ]

true-before : (a b : Place) → (a.line < b.line) ⊎ ((a.line ≡ b.line) × (a.column < b.column)) → is_before a b ≡ true
true-before a b h =
    elim h [
      | inl x ↦ rw (lt-ltb a.line b.line x) refl
      | inr x ↦ rw (eq-eqb a.line b.line x.0, lt-ltb a.column b.column x.1) (or-true (nat_lt a.line b.line))
    ]

before-trans : (a b c : Place) → is_before c b ≡ true → is_before b a ≡ true → is_before c a ≡ true
before-trans a b c x y =
    true-before c a (
    elim (before-true c b x) [
      | inl p ↦ elim (before-true b a y) [ inl q ↦ inl (omega arith) | inr q ↦ inl (omega arith) ]
      | inr p ↦ elim (before-true b a y) [ inl q ↦ inl (omega arith) | inr q ↦ inr (omega arith, omega arith) ]
    ])

order : (a b : ℕ) → (a < b) ⊎ (b < a) ⊎ (a ≡ b)
order a b = grind arith

-- what is before one is before another or has it before itself
before-split : (a b c : Place) → is_before c a ≡ true → (is_before c b ≡ true) ⊎ (is_before b a ≡ true)
before-split a b c x =
    elim (before-true c a x) [
      | inl p ↦ elim (order c.line b.line) [
        | inl q ↦ inl (true-before c b (inl q))
        | inr q ↦ inr (true-before b a (inl (elim q as (λ z. b.line < a.line) [ inl r ↦ omega arith | inr r ↦ omega arith ])))
      ]
      | inr p ↦ elim (order c.line b.line) [
        | inl q ↦ inl (true-before c b (inl q))
        | inr q ↦ elim q [
          | inl r ↦ inr (true-before b a (inl (omega arith)))
          | inr r ↦ elim (order c.column b.column) [
            | inl s ↦ inl (true-before c b (inr (r, s)))
            | inr s ↦ inr (true-before b a (inr (omega arith, elim s as (λ z. b.column < a.column) [ inl u ↦ omega arith | inr u ↦ omega arith ])))
          ]
        ]
      ]
    ]

before-not : (a b c : Place) → is_before c b ≡ false → is_before b a ≡ false → is_before c a ≡ false
before-not a b c x y =
    false_from_ne_true (is_before c a) (λ z.
    elim (before-split a b c z) [
      | inl p ↦ true≢false (sym p ∙ x)
      | inr p ↦ true≢false (sym p ∙ y)
    ])

-- ---- faults

pub earlier-assoc : (f g h : Fault) → earlier (earlier f g) h ≡ earlier f (earlier g h)
earlier-assoc f g h = by (is_before (place_of g) (place_of f)) refl (is_before (place_of h) (place_of g)) refl
  where
    by : (x : Bool) → is_before (place_of g) (place_of f) ≡ x → (y : Bool) → is_before (place_of h) (place_of g) ≡ y → earlier (earlier f g) h ≡ earlier f (earlier g h)
    by true e true d = rw (e, d, before-trans (place_of f) (place_of g) (place_of h) d e) refl
    by true e false d = rw (e, d, e) refl
    by false e true d = rw (e, d) refl
    by false e false d = rw (e, d, e, before-not (place_of f) (place_of g) (place_of h) d e) refl

after : (f g : Fault) (gs : List Fault) → first_after f (g ∷ gs) ≡ earlier f (first_after g gs)
after f g [] = refl
after f g (h ∷ hs) =
    after (earlier f g) h hs
    ∙ earlier-assoc f g (first_after h hs)
    ∙ ap (λ x. earlier f x) (sym (after g h hs))

least-cons : (f : Fault) (fs : List Fault) → least (f ∷ fs) ≡ join (Some f) (least fs)
least-cons f [] = refl
least-cons f (g ∷ gs) = ap (λ x. Some x) (after f g gs)

join-none : (x : Option Fault) → join x None ≡ x
join-none None = refl
join-none (Some f) = refl

join-assoc : (x y z : Option Fault) → join (join x y) z ≡ join x (join y z)
join-assoc None y z = refl
join-assoc (Some f) None z = refl
join-assoc (Some f) (Some g) None = refl
join-assoc (Some f) (Some g) (Some h) = ap (λ x. Some x) (earlier-assoc f g h)

pub least-append : (xs ys : List Fault) → least (xs ++ ys) ≡ join (least xs) (least ys)
least-append [] ys = refl
least-append (x ∷ xs) ys =
    least-cons x (xs ++ ys)
    ∙ ap (λ r. join (Some x) r) (least-append xs ys)
    ∙ sym (join-assoc (Some x) (least xs) (least ys))
    ∙ ap (λ r. join r (least ys)) (sym (least-cons x xs))

pub least-missing : (f : Fault) (fs : List Fault) → least (f ∷ fs) ≡ join (Some f) (least fs)
least-missing = least-cons

-- ---- what counts of faults

or-none : (a : Bool) → (a || false) ≡ a
or-none true = refl
or-none false = refl

or-assoc : (a b c : Bool) → ((a || b) || c) ≡ (a || (b || c))
or-assoc true b c = refl
or-assoc false b c = refl

not-and : (a b : Bool) → not (a && b) ≡ (not a || not b)
not-and true b = refl
not-and false b = refl

pub joined-none : (a : Judged) → joined a (judged []) ≡ a
joined-none a = rw (join-none a.first, or-none a.cut) refl

pub joined-assoc : (a b c : Judged) → joined (joined a b) c ≡ joined a (joined b c)
joined-assoc a b c = rw (join-assoc a.first b.first c.first, or-assoc a.cut b.cut c.cut) refl

any-append : (xs ys : List Fault) → is_any_syntax (xs ++ ys) ≡ (is_any_syntax xs || is_any_syntax ys)
any-append xs ys = ap not (list_all-append (λ f. not (is_syntax f)) xs ys) ∙ not-and (list_all (λ f. not (is_syntax f)) xs) (list_all (λ f. not (is_syntax f)) ys)

pub judged-append : (xs ys : List Fault) → judged (xs ++ ys) ≡ joined (judged xs) (judged ys)
judged-append xs ys = rw (least-append xs ys, any-append xs ys) refl
