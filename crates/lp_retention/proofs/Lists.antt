-- Tests over lists, and tables in which places are marked.
use Rattle.std.proofs.Common.{◌≡◌, ◌<◌, ◌==◌, ℕ, Bool, true, false, ◌||◌, List, [], ◌∷◌, length, get_or, set, replicate, Option, Some, None, refl, sym, ap, ◌∙◌, arith}
use Rattle.std.specs.List.{list_any}
use Rattle.std.proofs.lemmas.Bool.{true≢false, eqb-true, eq-eqb}
use Rattle.std.proofs.lemmas.List.{get_or-replicate, get_or-set_same, get_or-set_other, length-set, length-replicate}
use Rattle.lp_model.specs.declared.intent.Element.{Element}
use Rattle.lp_retention.specs.Marks.{marked, mark_all, marks}

-- ---- tests

or-none : (a : Bool) → a ≡ (a || false)
or-none true = refl
or-none false = refl

or-three : (a b c : Bool) → ((a || b) || c) ≡ (a || (b || c))
or-three true b c = refl
or-three false b c = refl

or-middle : (a b c d : Bool) → ((a || b) || (c || d)) ≡ ((a || c) || (b || d))
or-middle true b c d = refl
or-middle false true true d = refl
or-middle false true false d = refl
or-middle false false c d = refl

pub any-same : {A : Type 0} (p q : A → Bool) (xs : List A) → ((x : A) → p x ≡ q x) → list_any p xs ≡ list_any q xs
any-same p q [] h = refl
any-same p q (x ∷ xs) h = (λ r. h x r || any-same p q xs h r)

pub any-either : {A : Type 0} (p q : A → Bool) (xs : List A) → list_any (λ x. p x || q x) xs ≡ (list_any p xs || list_any q xs)
any-either p q [] = refl
any-either p q (x ∷ xs) = ap (λ r. (p x || q x) || r) (any-either p q xs) ∙ or-middle (p x) (q x) (list_any p xs) (list_any q xs)

-- ---- marks

abbrev pub hit_of : ℕ → Option ℕ → Bool
hit_of k None = false
hit_of k (Some j) = j == k

module _ (place : Element → Option ℕ) where
  abbrev pub hit : ℕ → Element → Bool
  hit k e = hit_of k (place e)

  length-marked : (table : List Bool) (o : Option ℕ) → length (marked table o) ≡ length table
  length-marked table None = refl
  length-marked table (Some k) = length-set table k true

  length-all : (table : List Bool) (es : List Element) → length (mark_all place table es) ≡ length table
  length-all table [] = refl
  length-all table (e ∷ es) = length-all (marked table (place e)) es ∙ length-marked table (place e)

  marked-at : (table : List Bool) (o : Option ℕ) (k : ℕ) → k < length table → get_or (marked table o) k false ≡ (get_or table k false || hit_of k o)
  marked-at table None k low = or-none (get_or table k false)
  marked-at table (Some j) k low = by (j == k) refl
    where
      or-true : (a : Bool) → true ≡ (a || true)
      or-true true = refl
      or-true false = refl

      by : (b : Bool) → (j == k) ≡ b → get_or (set table j true) k false ≡ (get_or table k false || (j == k))
      by true e =
          let same : j ≡ k = eqb-true j k e in
          ap (λ n. get_or (set table n true) k false) same ∙ get_or-set_same table k true false low ∙ or-true (get_or table k false) ∙ ap (λ b. get_or table k false || b) (sym e)
      by false e =
          let differs : k ≡ j → ⊥ = λ h. absurd (true≢false (sym (eq-eqb j k (sym h)) ∙ e)) in
          get_or-set_other table j k true false differs ∙ or-none (get_or table k false) ∙ ap (λ b. get_or table k false || b) (sym e)

  all-at : (table : List Bool) (es : List Element) (k : ℕ) → k < length table → get_or (mark_all place table es) k false ≡ (get_or table k false || list_any (hit k) es)
  all-at table [] k low = or-none (get_or table k false)
  all-at table (e ∷ es) k low =
      all-at (marked table (place e)) es k (omega (arith, low, length-marked table (place e)))
      ∙ ap (λ b. b || list_any (hit k) es) (marked-at table (place e) k low)
      ∙ or-three (get_or table k false) (hit k e) (list_any (hit k) es)

  pub length-marks : (n : ℕ) (es : List Element) → length (marks place n es) ≡ n
  length-marks n es = length-all (replicate n false) es ∙ length-replicate n false

  pub marks-at : (n : ℕ) (es : List Element) (k : ℕ) → k < n → get_or (marks place n es) k false ≡ list_any (hit k) es
  marks-at n es k low =
      let many : length (replicate n false) ≡ n = length-replicate n false in
      all-at (replicate n false) es k (omega (arith, low, many)) ∙ ap (λ b. b || list_any (hit k) es) (get_or-replicate n k false false low)
