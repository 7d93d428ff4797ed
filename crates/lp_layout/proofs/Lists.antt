-- Lists from a place on.
use Rattle.std.proofs.Common.{◌≡◌, ℕ, zero, suc, ◌+◌, ◌-◌, ◌<◌, ◌≤◌, List, [], ◌∷◌, length, drop, Option, Some, None, refl, sym, ap, ◌∙◌, arith}
use Rattle.std.specs.Prelude.{map, slice_get, slice_set, if◌then◌else◌}
use Rattle.std.proofs.lemmas.Bool.{le-leb, lt-leb}
use Rattle.lp_model.specs.declared.netlist.BitRange.{BitRange}
use Rattle.lp_spec_design.specs.Netlists.{upward, downward, indices}

pub set_out : {A : Type 0} (xs : List A) (k : ℕ) (x : A) → slice_get xs k ≡ None → slice_set xs k x ≡ xs
set_out [] k x e = refl
set_out (y ∷ ys) zero x e = cc
set_out (y ∷ ys) (suc k) x e = ap (λ z. y ∷ z) (set_out ys k x e)

pub drop_at : {A : Type 0} (xs : List A) (k : ℕ) (x : A) → slice_get xs k ≡ Some x → drop k xs ≡ x ∷ drop (k + 1) xs
drop_at [] k x e = cc
drop_at (y ∷ ys) zero x e = let same : y ≡ x = cc in ap (λ z. z ∷ ys) same
drop_at (y ∷ ys) (suc k) x e =
    let n : suc k + 1 ≡ suc (k + 1) = omega arith in
    drop_at ys k x e ∙ ap (λ z. x ∷ drop z (y ∷ ys)) (sym n)

pub drop_out : {A : Type 0} (xs : List A) (k : ℕ) → slice_get xs k ≡ None → drop k xs ≡ []
drop_out [] zero e = refl
drop_out [] (suc k) e = refl
drop_out (y ∷ ys) zero e = cc
drop_out (y ∷ ys) (suc k) e = drop_out ys k e

pub get_behind : {A : Type 0} (xs : List A) (k : ℕ) → slice_get xs k ≡ None → slice_get xs (k + 1) ≡ None
get_behind [] zero e = refl
get_behind [] (suc k) e = refl
get_behind (y ∷ ys) zero e = cc
get_behind (y ∷ ys) (suc k) e =
    let n : suc k + 1 ≡ suc (k + 1) = omega arith in
    ap (slice_get (y ∷ ys)) n ∙ get_behind ys k e

pub drop_past : {A : Type 0} (xs : List A) (k : ℕ) → length xs ≤ k → drop k xs ≡ []
drop_past [] zero e = refl
drop_past [] (suc k) e = refl
drop_past (y ∷ ys) zero e = absurd (omega (arith, e))
drop_past (y ∷ ys) (suc k) e = drop_past ys k (omega (arith, e))

-- ---- one more of some numbers

pub upward_step : (n k : ℕ) → k < n → upward (n - k) k ≡ k ∷ upward (n - (k + 1)) (k + 1)
upward_step n k low = let e : n - k ≡ suc (n - (k + 1)) = omega (arith, low) in ap (λ z. upward z k) e

pub upward_start : (n : ℕ) → upward (n - 0) 0 ≡ upward n 0
upward_start n = let e : n - 0 ≡ n = omega arith in ap (λ z. upward z 0) e

pub upward_end : (n : ℕ) → upward (n - n) n ≡ []
upward_end n = let e : n - n ≡ 0 = omega arith in ap (λ z. upward z n) e

-- one more index of a vector
pub index_up : (n k left : ℕ) → k < n → upward (n - k) (left + k) ≡ (left + k) ∷ upward (n - (k + 1)) (left + (k + 1))
index_up n k left low =
    let e : n - k ≡ suc (n - (k + 1)) = omega (arith, low) in
    let f : left + k + 1 ≡ left + (k + 1) = omega arith in
    ap (λ z. upward z (left + k)) e ∙ ap (λ z. (left + k) ∷ upward (n - (k + 1)) z) f

pub index_down : (n k left : ℕ) → k < n → downward (n - k) (left - k) ≡ (left - k) ∷ downward (n - (k + 1)) (left - (k + 1))
index_down n k left low =
    let e : n - k ≡ suc (n - (k + 1)) = omega (arith, low) in
    let f : left - k - 1 ≡ left - (k + 1) = omega arith in
    ap (λ z. downward z (left - k)) e ∙ ap (λ z. (left - k) ∷ downward (n - (k + 1)) z) f

pub indices_up : (n left : ℕ) → upward (n - 0) (left + 0) ≡ upward n left
indices_up n left = let e : n - 0 ≡ n = omega arith in let f : left + 0 ≡ left = omega arith in λ i. upward (e i) (f i)

pub indices_down : (n left : ℕ) → downward (n - 0) (left - 0) ≡ downward n left
indices_down n left = let e : n - 0 ≡ n = omega arith in let f : left - 0 ≡ left = omega arith in λ i. downward (e i) (f i)

pub no_index_up : (n left : ℕ) → upward (n - n) left ≡ []
no_index_up n left = let e : n - n ≡ 0 = omega arith in ap (λ z. upward z left) e

pub no_index_down : (n left : ℕ) → downward (n - n) left ≡ []
no_index_down n left = let e : n - n ≡ 0 = omega arith in ap (λ z. downward z left) e

-- ---- how many there are

upward-length : (n k : ℕ) → length (upward n k) ≡ n
upward-length zero k = refl
upward-length (suc n) k = ap suc (upward-length n (k + 1))

downward-length : (n k : ℕ) → length (downward n k) ≡ n
downward-length zero k = refl
downward-length (suc n) k = ap suc (downward-length n (k - 1))

some-length : (xs : List ℕ) → length (map (λ i. Some i) xs) ≡ length xs
some-length [] = refl
some-length (x ∷ xs) = ap suc (some-length xs)

pub count_up : (r : BitRange) (o : Option BitRange) → o ≡ Some r → r.left ≤ r.right → r.right + 1 - r.left ≡ length (indices o)
count_up r o is low =
    sym (ap (λ z. length (indices z)) is
    ∙ ap (λ b. length (map (λ i. Some i) (if b then upward (r.right + 1 - r.left) r.left else downward (r.left + 1 - r.right) r.left))) (le-leb r.left r.right low)
    ∙ some-length (upward (r.right + 1 - r.left) r.left)
    ∙ upward-length (r.right + 1 - r.left) r.left)

pub count_down : (r : BitRange) (o : Option BitRange) → o ≡ Some r → r.right < r.left → r.left + 1 - r.right ≡ length (indices o)
count_down r o is high =
    sym (ap (λ z. length (indices z)) is
    ∙ ap (λ b. length (map (λ i. Some i) (if b then upward (r.right + 1 - r.left) r.left else downward (r.left + 1 - r.right) r.left))) (lt-leb r.left r.right high)
    ∙ some-length (downward (r.left + 1 - r.right) r.left)
    ∙ downward-length (r.left + 1 - r.right) r.left)
