-- How many bits runs have, which they are, and how a walk goes over them.
use Rattle.std.proofs.Common.{◌≡◌, ℕ, zero, suc, ◌+◌, ◌-◌, ◌<◌, ◌≤◌, Bool, true, false, List, [], ◌∷◌, ◌++◌, map, length, drop, get_or, Option, Some, None, refl, sym, ap, ◌∙◌, arith}
use Rattle.std.specs.Prelude.{nat_le, nat_lt, ◌||◌, max, min, slice_get, flat_map, MatchOption, if◌then◌else◌}
use Rattle.std.specs.Option.{option_map}
use Rattle.std.specs.List.{list_any}
use Rattle.std.proofs.Math.Seq.{drop-cons}
use Rattle.std.proofs.lemmas.Bool.Decides.{nat_tests}
use Rattle.std.proofs.lemmas.List.{length-map, length-append, drop_more, drop_all}
use Rattle.std.proofs.lemmas.List.Folds.{list_any-append}
use Rattle.std.proofs.lemmas.Option.{slice_get-map, slice_get_within, get_or_from_slice_get}
use Rattle.lp_text.specs.declared.names.NameId.{NameId}
use Rattle.lp_model.specs.declared.bits.Bit.{Bit}
use Rattle.lp_model.specs.declared.bits.Bit.TheVariants as bits
use Rattle.lp_model.specs.declared.run.Run.{Run}
use Rattle.lp_model.specs.Bits.{indices, between, select, digit, constant_bits, run_bits, is_constant, single_of}

-- ---- indices

pub length-indices : (up : Bool) (first k n : ℕ) → length (indices up first k n) ≡ n
length-indices up first k zero = refl
length-indices up first k (suc n) = let more = length-indices up first (k + 1) n in omega (arith, more)

pub indices-at : (up : Bool) (first k n j : ℕ) → j < n → slice_get (indices up first k n) j ≡ Some (if up then first + (k + j) else first - (k + j))
indices-at up first k zero j h = absurd (omega arith)
indices-at up first k (suc n) zero h =
    let e : k ≡ k + 0 = omega arith in
    ap (λ (m : ℕ). Some (if up then first + m else first - m)) e
indices-at up first k (suc n) (suc j) h =
    let within : j < n = omega arith in
    let e : k + 1 + j ≡ k + suc j = omega arith in
    indices-at up first (k + 1) n j within ∙ ap (λ (m : ℕ). Some (if up then first + m else first - m)) e

pub length-between-up : (i j : ℕ) → i ≤ j → length (between i j) ≡ j - i + 1
length-between-up i j h = let up : nat_le i j ≡ true = grind arith in rw up (length-indices true i 0 (j - i + 1))

pub length-between-down : (i j : ℕ) → j < i → length (between i j) ≡ i - j + 1
length-between-down i j h = let down : nat_le i j ≡ false = grind arith in rw down (length-indices false i 0 (i - j + 1))

pub between-up : (i j k : ℕ) → i ≤ j → k < length (between i j) → slice_get (between i j) k ≡ Some (i + k)
between-up i j k h l =
    let len = length-between-up i j h in
    let within : k < j - i + 1 = omega (arith, len) in
    let up : nat_le i j ≡ true = grind arith in
    rw up (indices-at true i 0 (j - i + 1) k within ∙ ap (λ (m : ℕ). Some (i + m)) (omega arith))

pub between-down : (i j k : ℕ) → j < i → k < length (between i j) → slice_get (between i j) k ≡ Some (i - k)
between-down i j k h l =
    let len = length-between-down i j h in
    let within : k < i - j + 1 = omega (arith, len) in
    let down : nat_le i j ≡ false = grind arith in
    rw down (indices-at false i 0 (i - j + 1) k within ∙ ap (λ (m : ℕ). Some (i - m)) (omega arith))

pub size_between : (l r : ℕ) → max l r - min l r + 1 ≡ length (between l r)
size_between l r = by (nat_le l r) refl
  where
    by : (b : Bool) → nat_le l r ≡ b → max l r - min l r + 1 ≡ length (between l r)
    by true e = let up : l ≤ r = grind (arith, nat_tests) in let len = length-between-up l r up in omega (arith, len)
    by false e = let down : r < l = grind (arith, nat_tests) in let len = length-between-down l r down in omega (arith, len)

-- ---- the bits of one run

pub length-select : (name : NameId) (i j : ℕ) → length (select name i j) ≡ length (between i j)
length-select name i j = length-map (between i j) (λ k. bits.Select name k)

pub length-constant : (count number : ℕ) → length (constant_bits count number) ≡ count
length-constant count number =
    length-map (indices false (count - 1) 0 count) (λ place. bits.Const (digit number place)) ∙ length-indices false (count - 1) 0 count

pub part-at : (name : NameId) (i j at index : ℕ) → slice_get (between i j) at ≡ Some index → slice_get (select name i j) at ≡ Some (bits.Select name index)
part-at name i j at index e =
    slice_get-map (λ k. bits.Select name k) (between i j) at ∙ ap (option_map (λ k. bits.Select name k)) e

pub digit-at : (count number at : ℕ) (value : Bool) → at < length (constant_bits count number) → value ≡ digit number (count - 1 - at) → slice_get (constant_bits count number) at ≡ Some (bits.Const value)
digit-at count number at value h e =
    let len = length-constant count number in
    let within : at < count = omega (arith, len) in
    slice_get-map (λ place. bits.Const (digit number place)) (indices false (count - 1) 0 count) at
    ∙ ap (option_map (λ place. bits.Const (digit number place))) (indices-at false (count - 1) 0 count at within)
    ∙ ap (λ (m : ℕ). Some (bits.Const (digit number (count - 1 - m)))) (omega arith)
    ∙ ap (λ (b : Bool). Some (bits.Const b)) (sym e)

pub only-one : {A : Type 0} (xs : List A) (x : A) → length xs ≡ 1 → slice_get xs 0 ≡ Some x → xs ≡ x ∷ []
only-one [] x h e = absurd (omega arith)
only-one (y ∷ []) x h e = let same : y ≡ x = cc in rw same refl
only-one (y ∷ z ∷ ys) x h e = absurd (omega arith)

-- ---- constants among bits

pub no-constant : (name : NameId) (is : List ℕ) → list_any is_constant (map (λ k. bits.Select name k) is) ≡ false
no-constant name [] = refl
no-constant name (i ∷ is) = no-constant name is

pub any-digit : (count number : ℕ) → list_any is_constant (constant_bits count number) ≡ nat_lt 0 count
any-digit zero number = refl
any-digit (suc count) number = let some : nat_lt 0 (suc count) ≡ true = grind (arith, nat_tests) in sym some

pub any-flat : {A B : Type 0} (p : B → Bool) (f : A → List B) (xs : List A) → list_any p (flat_map f xs) ≡ list_any (λ x. list_any p (f x)) xs
any-flat p f [] = refl
any-flat p f (x ∷ xs) = list_any-append p (f x) (flat_map f xs) ∙ ap (λ b. list_any p (f x) || b) (any-flat p f xs)

-- ---- one run more

pub width-step : (runs : List Run) (k : ℕ) (x : Run) → k < length runs → x ≡ get_or runs k x → length (flat_map run_bits (drop k runs)) ≡ length (run_bits x) + length (flat_map run_bits (drop (k + 1) runs))
width-step runs k x within is =
    let behind : drop k runs ≡ x ∷ drop (k + 1) runs = drop_more runs k x within ∙ ap (λ (y : Run). y ∷ drop (k + 1) runs) (sym is) in
    ap (λ (rs : List Run). length (flat_map run_bits rs)) behind ∙ length-append (run_bits x) (flat_map run_bits (drop (k + 1) runs))

nil-of : {A : Type 0} (xs : List A) → length xs ≡ 0 → xs ≡ []
nil-of [] h = refl
nil-of (x ∷ xs) h = absurd (omega arith)

-- a run of no bit
pub empty-step : (runs all : List Run) (k : ℕ) (x : Run) → k < length runs → x ≡ get_or runs k x → length (run_bits x) ≡ 0 → flat_map run_bits (drop k runs) ≡ flat_map run_bits all → flat_map run_bits (drop (k + 1) runs) ≡ flat_map run_bits all
empty-step runs all k x within is none before =
    let behind : drop k runs ≡ x ∷ drop (k + 1) runs = drop_more runs k x within ∙ ap (λ (y : Run). y ∷ drop (k + 1) runs) (sym is) in
    let here : flat_map run_bits (drop k runs) ≡ run_bits x ++ flat_map run_bits (drop (k + 1) runs) = ap (flat_map run_bits) behind in
    let less : run_bits x ++ flat_map run_bits (drop (k + 1) runs) ≡ flat_map run_bits (drop (k + 1) runs) = ap (λ (bs : List Bit). bs ++ flat_map run_bits (drop (k + 1) runs)) (nil-of (run_bits x) none) in
    sym less ∙ sym here ∙ before

-- ---- a walk

pub drop-at : {A : Type 0} (xs : List A) (i : ℕ) (x : A) → slice_get xs i ≡ Some x → drop i xs ≡ x ∷ drop (i + 1) xs
drop-at xs i x e =
    let next : i + 1 ≡ suc i = omega arith in
    let here = drop-cons xs i x (slice_get_within xs i x e) in
    rw next (here ∙ ap (λ y. y ∷ drop (suc i) xs) (get_or_from_slice_get xs i x x e))

-- in the run
pub walk-here : (run : Run) (done : ℕ) (later : List Run) (bit : Bit) → slice_get (run_bits run) done ≡ Some bit → drop done (run_bits run) ++ flat_map run_bits later ≡ bit ∷ (drop (done + 1) (run_bits run) ++ flat_map run_bits later)
walk-here run done later bit e = ap (λ (bs : List Bit). bs ++ flat_map run_bits later) (drop-at (run_bits run) done bit e)

-- behind the run
pub walk-behind : (run : Run) (done : ℕ) (later : List Run) → length (run_bits run) ≤ done → drop done (run_bits run) ++ flat_map run_bits later ≡ flat_map run_bits later
walk-behind run done later h = ap (λ (bs : List Bit). bs ++ flat_map run_bits later) (drop_all done (run_bits run) h)

-- in the next run
pub walk-next : (run next : Run) (done : ℕ) (later rest : List Run) (bit : Bit) → length (run_bits run) ≤ done → flat_map run_bits (next ∷ rest) ≡ flat_map run_bits later → slice_get (run_bits next) 0 ≡ Some bit → drop done (run_bits run) ++ flat_map run_bits later ≡ bit ∷ (drop 1 (run_bits next) ++ flat_map run_bits rest)
walk-next run next done later rest bit h same e = walk-behind run done later h ∙ sym same ∙ walk-here next 0 rest bit e

-- ---- the bit where there is one

abbrev pub Next : Option Bit → List Bit → List Bit → Type 0
Next o old new = MatchOption o ((old ≡ []) × (new ≡ [])) (λ bit. old ≡ bit ∷ new)

pub single-last : (o : Option Bit) (xs ys : List Bit) → Next o xs ys → ys ≡ [] → o ≡ single_of xs
single-last None xs ys h e = rw (h.0) refl
single-last (Some b) xs ys h e = rw (h, e) refl

pub single-more : (o : Option Bit) (xs ys zs : List Bit) (c : Bit) → Next o xs ys → ys ≡ c ∷ zs → None ≡ single_of xs
single-more None xs ys zs c h e = rw (h.0) refl
single-more (Some b) xs ys zs c h e = rw (h, e) refl
