-- Two written modules have two names: the prefix tells the top from the others, the number tells these apart.
use Rattle.std.proofs.Common.{◌≡◌, ◌<◌, ◌≤◌, ℕ, ◌+◌, ◌%◌, ◌^◌, Bool, true, false, cond, List, [], ◌∷◌, ◌++◌, length, Some, inl, inr, refl, sym, ap, ◌∙◌, arith}
use Rattle.std.specs.Prelude.{codes, decimal, unwrap_or}
use Rattle.std.proofs.lemmas.Bool.{true≢false}
use Rattle.std.proofs.lemmas.Fmt.{decimal_by_steps, decimal_injective}
use Rattle.lp_spec_design.specs.Keys.{Name, Path, same_path}
use Rattle.lp_spec_design.specs.Reads.{path-true, path-self}
use Rattle.lp_spec_design.specs.Domains.{first_number}
use Rattle.lp_spec_design.specs.Winners.{IsIn}
use Rattle.lp_spec_realises.specs.Projects.{Project}
use Rattle.lp_spec_faults.specs.Modules.{is_own}
use Rattle.lp_spec_written.specs.Places.{instances, instance_number}
use Rattle.lp_spec_written.specs.Written.{module_name}

-- ---- digits

abbrev Digits : List ℕ → Type 0
Digits [] = Unit {0}
Digits (d ∷ ds) = (d < 58) × Digits ds

digits-append : (ds : List ℕ) (d : ℕ) → Digits ds → d < 58 → Digits (ds ++ (d ∷ []))
digits-append [] d h less = (less, tt)
digits-append (e ∷ ds) d h less = (h.0, digits-append ds d h.1 less)

digits : (n : ℕ) → n < 2 ^ 64 → Digits (decimal n)
digits n small =
    decimal_by_steps (λ n ds. Digits ds) (λ n less. (omega (arith, less), tt))
    (λ n ds big h. digits-append ds (48 + n % 10) h (let less : n % 10 < 10 = omega arith in omega (arith, less)))
    n small

-- digits before an underscore
apart : (ds es m n : List ℕ) → Digits ds → Digits es → ds ++ (95 ∷ m) ≡ es ++ (95 ∷ n) → ds ≡ es
apart [] [] m n h g e = refl
apart [] (d ∷ es) m n h g e = let same : 95 ≡ d = cc in let less = g.0 in absurd (omega (arith, same, less))
apart (d ∷ ds) [] m n h g e = let same : d ≡ 95 = cc in let less = h.0 in absurd (omega (arith, same, less))
apart (d ∷ ds) (c ∷ es) m n h g e =
    let heads : d ≡ c = cc in
    let tails : ds ++ (95 ∷ m) ≡ es ++ (95 ∷ n) = cc in
    λ i. heads i ∷ apart ds es m n h.1 g.1 tails i

-- ---- numbers of instances

number-least : (t : Path → Bool) (k n : ℕ) (xs : List Path) → first_number t k xs ≡ Some n → k ≤ n
number-least t k n [] e = absurd cc
number-least t k n (x ∷ xs) e = by (t x) e (number-least t (k + 1) n xs)
  where
    by : (b : Bool) → cond b (Some k) (first_number t (k + 1) xs) ≡ Some n → (first_number t (k + 1) xs ≡ Some n → k + 1 ≤ n) → k ≤ n
    by true e more = let same : k ≡ n = cc in omega (arith, same)
    by false e more = let less = more e in omega (arith, less)

same-number : (x y : Path) (k n : ℕ) (xs : List Path) → first_number (same_path x) k xs ≡ Some n → first_number (same_path y) k xs ≡ Some n → x ≡ y
same-number x y k n [] e f = absurd cc
same-number x y k n (z ∷ xs) e f = by (same_path x z) (same_path y z) refl refl e f (same-number x y (k + 1) n xs)
  where
    later : (t : Path → Bool) → Some k ≡ Some n → first_number t (k + 1) xs ≡ Some n → ⊥
    later t e f = let same : k ≡ n = cc in let less = number-least t (k + 1) n xs f in absurd (omega (arith, same, less))

    by : (b c : Bool) → same_path x z ≡ b → same_path y z ≡ c → cond b (Some k) (first_number (same_path x) (k + 1) xs) ≡ Some n → cond c (Some k) (first_number (same_path y) (k + 1) xs) ≡ Some n
        → (first_number (same_path x) (k + 1) xs ≡ Some n → first_number (same_path y) (k + 1) xs ≡ Some n → x ≡ y) → x ≡ y
    by true true one two e f more = path-true x z one ∙ sym (path-true y z two)
    by true false one two e f more = absurd (later (same_path y) e f)
    by false true one two e f more = absurd (later (same_path x) f e)
    by false false one two e f more = more e f

has-number : (x : Path) (k : ℕ) (xs : List Path) → IsIn x xs → (n : ℕ) × (first_number (same_path x) k xs ≡ Some n) × (n < k + length xs)
has-number x k [] h = absurd h
has-number x k (z ∷ xs) h = by (same_path x z) refl h (has-number x (k + 1) xs)
  where
    by : (b : Bool) → same_path x z ≡ b → IsIn x (z ∷ xs) → (IsIn x xs → (n : ℕ) × (first_number (same_path x) (k + 1) xs ≡ Some n) × (n < (k + 1) + length xs))
        → (n : ℕ) × (cond b (Some k) (first_number (same_path x) (k + 1) xs) ≡ Some n) × (n < k + length (z ∷ xs))
    by true is h more = (k, refl, omega arith)
    by false is (inl same) more = absurd (true≢false (sym (path-self z) ∙ (ap (λ y. same_path y z) (sym same) ∙ is)))
    by false is (inr h) more = let found = more h in let less = found.2 in (found.0, found.1, omega (arith, less))

module _ (p : Project) (few : length (instances p) < 2 ^ 64) where
  numbers-differ : (x y : Path) → IsIn x (instances p) → IsIn y (instances p) → instance_number p x ≡ instance_number p y → x ≡ y
  numbers-differ x y h g e =
      let one = has-number x 0 (instances p) h in
      let two = has-number y 0 (instances p) g in
      let same : one.0 ≡ two.0 = ap (λ o. unwrap_or o 0) (sym one.1) ∙ (e ∙ ap (λ o. unwrap_or o 0) two.1) in
      same-number x y 0 one.0 (instances p) one.1 (two.1 ∙ ap (λ n. Some n) (sym same))

  small : (x : Path) → IsIn x (instances p) → instance_number p x < 2 ^ 64
  small x h =
      let one = has-number x 0 (instances p) h in
      let is : instance_number p x ≡ one.0 = ap (λ o. unwrap_or o 0) one.1 in
      let less = one.2 in
      omega (arith, is, less, few)

  behind-number : (k : ℕ) (m : Name) → (codes "lp_" ++ decimal k) ++ (codes "_" ++ m) ≡ codes "lp_" ++ (decimal k ++ (95 ∷ m))
  behind-number k m = refl

  lower-differ : (x y : Path) (m n : Name) → IsIn x (instances p) → IsIn y (instances p)
      → (codes "lp_" ++ decimal (instance_number p x)) ++ (codes "_" ++ m) ≡ (codes "lp_" ++ decimal (instance_number p y)) ++ (codes "_" ++ n)
      → x ≡ y
  lower-differ x y m n h g e =
      let bare : codes "lp_" ++ (decimal (instance_number p x) ++ (95 ∷ m)) ≡ codes "lp_" ++ (decimal (instance_number p y) ++ (95 ∷ n)) = e in
      let tails : decimal (instance_number p x) ++ (95 ∷ m) ≡ decimal (instance_number p y) ++ (95 ∷ n) = cc in
      let texts = apart (decimal (instance_number p x)) (decimal (instance_number p y)) m n (digits (instance_number p x) (small x h)) (digits (instance_number p y) (small y g)) tails in
      numbers-differ x y h g (decimal_injective (instance_number p x) (instance_number p y) (small x h) (small y g) texts)

  own-prefix : (m : Name) (k : ℕ) (n : Name) → m ≡ (codes "lp_" ++ decimal k) ++ (codes "_" ++ n) → is_own m ≡ true
  own-prefix m k n e = ap is_own e

  pub names-differ : (x y : Path) (m n : Name) → IsIn x (instances p) → IsIn y (instances p) → is_own m ≡ false → is_own n ≡ false → module_name p x m ≡ module_name p y n → x ≡ y
  names-differ [] [] m n h g a b e = refl
  names-differ [] (j ∷ y) m n h g a b e = absurd (true≢false (sym (own-prefix m (instance_number p (j ∷ y)) n e) ∙ a))
  names-differ (i ∷ x) [] m n h g a b e = absurd (true≢false (sym (own-prefix n (instance_number p (i ∷ x)) m (sym e)) ∙ b))
  names-differ (i ∷ x) (j ∷ y) m n h g a b e = lower-differ (i ∷ x) (j ∷ y) m n h g e
