-- The bits of a vector, from its left index on.
use Rattle.std.proofs.Common.{◌≡◌, ℕ, zero, suc, ◌+◌, ◌-◌, ◌<◌, ◌≤◌, true, false, List, ◌∷◌, map, length, ◌++◌, drop, get_or, sym, ap, ◌∙◌, arith, append_assoc}
use Rattle.std.specs.Prelude.{nat_le, flat_map}
use Rattle.std.proofs.lemmas.List.{drop_more}
pub use Rattle.lp_model.proofs.Runs.{length-indices, length-between-up, length-between-down, size_between}
use Rattle.lp_verilog_draft.specs.Values.{indices, between}

pub indices-up : (first k n j : ℕ) → j < n → get_or (indices true first k n) j 0 ≡ first + k + j
indices-up first k zero j h = absurd (omega arith)
indices-up first k (suc n) zero h = omega arith
indices-up first k (suc n) (suc j) h = let more = indices-up first (k + 1) n j (omega arith) in omega (arith, more)

pub indices-down : (first k n j : ℕ) → j < n → get_or (indices false first k n) j 0 ≡ first - (k + j)
indices-down first k zero j h = absurd (omega arith)
indices-down first k (suc n) zero h = omega arith
indices-down first k (suc n) (suc j) h = let more = indices-down first (k + 1) n j (omega arith) in omega (arith, more)

pub between-up : (i j k : ℕ) → i ≤ j → k < j - i + 1 → get_or (between i j) k 0 ≡ i + k
between-up i j k h l = let up : nat_le i j ≡ true = grind arith in rw up (let at = indices-up i 0 (j - i + 1) k l in omega (arith, at))

pub between-down : (i j k : ℕ) → j < i → k < i - j + 1 → get_or (between i j) k 0 ≡ i - k
between-down i j k h l = let down : nat_le i j ≡ false = grind arith in rw down (let at = indices-down i 0 (i - j + 1) k l in omega (arith, at))

-- one more item is written
pub written-step : {X Y : Type 0} (f : Y → List ℕ) (g : X → Y) (items : List X) (i : ℕ) (x : X) (old new all : List ℕ) → i < length items → x ≡ get_or items i x → new ≡ old ++ f (g x) → old ++ flat_map f (map g (drop i items)) ≡ all → new ++ flat_map f (map g (drop (i + 1) items)) ≡ all
written-step {X} f g items i x old new all within is now before =
    let rest = flat_map f (map g (drop (i + 1) items)) in
    let behind : drop i items ≡ x ∷ drop (i + 1) items = drop_more items i x within ∙ ap (λ (y : X). y ∷ drop (i + 1) items) (sym is) in
    ap (λ (t : List ℕ). t ++ rest) now ∙ append_assoc old (f (g x)) rest ∙ ap (λ (xs : List X). old ++ flat_map f (map g xs)) (sym behind) ∙ before
