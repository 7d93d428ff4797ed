-- Distinct numbers as a list of them grows.
use Rattle.std.proofs.Common.{◌≡◌, ℕ, ◌+◌, ◌<◌, ◌==◌, Bool, true, false, not, ◌&&◌, ◌||◌, List, [], ◌∷◌, ◌++◌, length, take, drop, get_or, refl, sym, ap, ◌∙◌}
use Rattle.std.proofs.Math.Bool.{and-false}
use Rattle.std.proofs.lemmas.Bool.{true≢false, eqb-true, eq-eqb}
use Rattle.std.proofs.lemmas.List.{take_more, drop_more, take-append-drop}
use Rattle.std.proofs.lemmas.List.Folds.{list_any-append}
use Rattle.lp_plain_index.specs.Places.{has_number}
use Rattle.lp_plain_fits.specs.Numbered.{are_distinct}

pub eq_comm : (a b : ℕ) → (a == b) ≡ (b == a)
eq_comm a b = by (a == b) refl (b == a) refl
  where
    by : (p : Bool) → (a == b) ≡ p → (q : Bool) → (b == a) ≡ q → p ≡ q
    by true e true f = refl
    by true e false f = absurd (true≢false (sym (eq-eqb b a (sym (eqb-true a b e))) ∙ f))
    by false e true f = absurd (true≢false (sym (eq-eqb a b (sym (eqb-true b a f))) ∙ e))
    by false e false f = refl

not_or : (a b c d : Bool) → (not (a || (b || false)) && (not c && d)) ≡ ((not (b || c)) && (not a && d))
not_or true true c d = refl
not_or true false true d = refl
not_or true false false d = refl
not_or false true c d = refl
not_or false false c d = refl

push : (ns : List ℕ) (n : ℕ) → are_distinct (ns ++ n ∷ []) ≡ (not (has_number n ns) && are_distinct ns)
push [] n = refl
push (m ∷ ns) n = rw (list_any-append (λ k. m == k) ns (n ∷ []), push ns n, eq_comm m n) (not_or (has_number m ns) (n == m) (has_number n ns) (are_distinct ns))

or_middle : (a b c : Bool) → b ≡ true → (a || (b || c)) ≡ true
or_middle true b c e = refl
or_middle false b c e = ap (λ d. d || c) e

repeated : (xs : List ℕ) (n : ℕ) (ys : List ℕ) → has_number n xs ≡ true → are_distinct (xs ++ n ∷ ys) ≡ false
repeated [] n ys e = absurd (true≢false (sym e))
repeated (x ∷ xs) n ys e = by (n == x) refl (repeated xs n ys)
  where
    by : (b : Bool) → (n == x) ≡ b → (has_number n xs ≡ true → are_distinct (xs ++ n ∷ ys) ≡ false) → are_distinct ((x ∷ xs) ++ n ∷ ys) ≡ false
    by true s behind =
        let here : has_number x (xs ++ n ∷ ys) ≡ true = list_any-append (λ k. x == k) xs (n ∷ ys) ∙ or_middle (has_number x xs) (x == n) (has_number x ys) (eq_comm x n ∙ s) in
        ap (λ b. not b && are_distinct (xs ++ n ∷ ys)) here
    by false s behind =
        let there : has_number n xs ≡ true = rw s at e in
        ap (λ b. not (has_number x (xs ++ n ∷ ys)) && b) (behind there) ∙ and-false (not (has_number x (xs ++ n ∷ ys)))

module _ (ns : List ℕ) (i : ℕ) (h : i < length ns) where
  -- a number that stands at an earlier place too
  pub repeats : has_number (get_or ns i 0) (take i ns) ≡ true → are_distinct ns ≡ false
  repeats e =
      let parts : take i ns ++ get_or ns i 0 ∷ drop (i + 1) ns ≡ ns = ap (λ rest. take i ns ++ rest) (sym (drop_more ns i 0 h)) ∙ take-append-drop i ns in
      sym (ap are_distinct parts) ∙ repeated (take i ns) (get_or ns i 0) (drop (i + 1) ns) e

  -- a number that stands at no earlier place
  pub stays : has_number (get_or ns i 0) (take i ns) ≡ false → are_distinct (take i ns) ≡ true → are_distinct (take (i + 1) ns) ≡ true
  stays fresh apart = ap are_distinct (take_more ns i 0 h) ∙ push (take i ns) (get_or ns i 0) ∙ (λ j. not (fresh j) && apart j)
