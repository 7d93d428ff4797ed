-- Choices of values for slots, as numbers whose binary digits they are.
use Rattle.std.proofs.Common.{◌≡◌, ℕ, zero, suc, ◌+◌, ◌^◌, ◌<◌, ◌≤◌, Bool, get_or, length, take, drop, List, [], ◌∷◌, refl, sym, ap, ◌∙◌, subst, arith}
use Rattle.std.specs.Prelude.{map, All}
use Rattle.std.proofs.lemmas.List.{length-map, length-take, length-drop, get_or-take, get_or-drop}
use Rattle.lp_expr.specs.Formula.{Formula, truth, digits}
use Rattle.lp_expr.specs.Places.{place_of, value_at}
use Rattle.lp_expr.specs.Table.{is_bit}
use Rattle.lp_expr.proofs.Digits.{is_bit-place_of-zero, is_bit-place_of-suc, digits-place_of, place_of-lt}

-- the value at the place of the slots' values
module _ (e : Formula) (f : ℕ → Bool) (slots : List ℕ) (place : ℕ) (same_length : length slots ≡ length e.variables) (place_is : place ≡ place_of (map f slots)) where
  pub place-slots : place < 2 ^ length e.variables
  place-slots = subst (λ k. k < 2 ^ length e.variables) (sym place_is) (subst (λ n. place_of (map f slots) < 2 ^ n) (length-map slots f ∙ same_length) (place_of-lt (map f slots)))

  pub value-slots : value_at e place ≡ truth e.steps (map f slots)
  value-slots =
      ap (value_at e) place_is
      ∙ ap (λ n. truth e.steps (digits n (place_of (map f slots)))) (sym (length-map slots f ∙ same_length))
      ∙ ap (truth e.steps) (digits-place_of (map f slots))

-- the values of the first slots
first : ℕ → (ℕ → Bool) → List Bool
first zero c = []
first (suc n) c = c 0 ∷ first n (λ k. c (suc k))

-- the choice with these values
pub choice_of : ℕ → (ℕ → Bool) → ℕ
choice_of n c = place_of (first n c)

length-first : (n : ℕ) (c : ℕ → Bool) → length (first n c) ≡ n
unfolding first
length-first zero c = refl
length-first (suc n) c = ap suc (length-first n (λ k. c (suc k)))

pub choice_of-lt : (n : ℕ) (c : ℕ → Bool) → choice_of n c < 2 ^ n
unfolding choice_of
choice_of-lt n c = subst (λ m. place_of (first n c) < 2 ^ m) (length-first n c) (place_of-lt (first n c))

is_bit-first : (n : ℕ) (c : ℕ → Bool) (slot : ℕ) → slot < n → is_bit (place_of (first n c)) slot ≡ c slot
unfolding first
is_bit-first zero c slot h = absurd (omega arith)
is_bit-first (suc n) c zero h = is_bit-place_of-zero (c 0) (first n (λ k. c (suc k)))
is_bit-first (suc n) c (suc slot) h = is_bit-place_of-suc (c 0) (first n (λ k. c (suc k))) slot ∙ is_bit-first n (λ k. c (suc k)) slot (omega arith)

pub is_bit-choice_of : (n : ℕ) (c : ℕ → Bool) (slot : ℕ) → slot < n → is_bit (choice_of n c) slot ≡ c slot
unfolding choice_of
is_bit-choice_of n c slot h = is_bit-first n c slot h

-- slots with the same values
pub map-same : (slots : List ℕ) (n : ℕ) (f g : ℕ → Bool) → All (λ slot. slot < n) slots → ((slot : ℕ) → slot < n → f slot ≡ g slot) → map f slots ≡ map g slots
map-same [] n f g below same = refl
map-same (x ∷ slots) n f g below same =
    ap (λ b. b ∷ map f slots) (same x (below 0 0 (omega arith)))
    ∙ ap (λ c. g x ∷ c) (map-same slots n f g (λ k d h. below (suc k) d (omega arith)) same)

pub All-take : (slots : List ℕ) (i n m : ℕ) → n ≤ m → All (λ slot. slot < n) slots → All (λ slot. slot < m) (take i slots)
All-take slots i n m more below k d h =
    let inside : k < i = omega (arith, length-take i slots) in
    let value : get_or (take i slots) k d ≡ get_or slots k d = get_or-take i slots k d inside in
    let bound : get_or slots k d < n = below k d (omega (arith, length-take i slots)) in
    omega (arith, value, bound)

pub All-drop : (slots : List ℕ) (i n m : ℕ) → n ≤ m → All (λ slot. slot < n) slots → All (λ slot. slot < m) (drop i slots)
All-drop slots i n m more below k d h =
    let value : get_or (drop i slots) k d ≡ get_or slots (i + k) d = get_or-drop i slots k d in
    let bound : get_or slots (i + k) d < n = below (i + k) d (omega (arith, length-drop i slots)) in
    omega (arith, value, bound)

-- what holds for each choice holds for all values of the slots
pub all_choices : (a b : Formula) (slots : List ℕ) (i n : ℕ) → All (λ slot. slot < n) slots
    → ((choice : ℕ) → choice < 2 ^ n → truth a.steps (map (is_bit choice) (take i slots)) ≡ truth b.steps (map (is_bit choice) (drop i slots)))
    → (c : ℕ → Bool) → truth a.steps (map c (take i slots)) ≡ truth b.steps (map c (drop i slots))
all_choices a b slots i n below same c =
    let front : map (is_bit (choice_of n c)) (take i slots) ≡ map c (take i slots) = map-same (take i slots) n (is_bit (choice_of n c)) c (All-take slots i n n (omega arith) below) (is_bit-choice_of n c) in
    let back : map (is_bit (choice_of n c)) (drop i slots) ≡ map c (drop i slots) = map-same (drop i slots) n (is_bit (choice_of n c)) c (All-drop slots i n n (omega arith) below) (is_bit-choice_of n c) in
    ap (truth a.steps) (sym front) ∙ same (choice_of n c) (choice_of-lt n c) ∙ ap (truth b.steps) back
