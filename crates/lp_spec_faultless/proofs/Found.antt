-- What is reached by reads is found by the line about loops.
use Rattle.std.specs.Prelude.{if◌then◌else◌, flat_map}
use Rattle.std.proofs.Common.{◌≡◌, ◌≤◌, ◌+◌, ◌-◌, ℕ, zero, suc, Bool, true, false, List, [], ◌∷◌, ◌++◌, inl, inr, refl, sym, subst, arith}
use Rattle.std.specs.List.{list_any}
use Rattle.lp_spec_design.specs.Settled.{Key}
use Rattle.lp_spec_design.specs.Reads.{same_key, key-true, key-self, keys}
use Rattle.lp_spec_design.specs.Winners.{IsIn}
use Rattle.lp_spec_design.proofs.Members.{in-left, in-right, in-flat, any-in, of-any}
use Rattle.lp_spec_faults.specs.Readings.{reached}
use Rattle.lp_spec_faultless.proofs.Depths.{is_in, Leads}

-- ---- the parts of the definition

abbrev has_key : List Key → Key → Bool
has_key all k = list_any (same_key k) all

abbrev and_one : List Key → Key → List Key
and_one all k = if has_key all k then all else all ++ k ∷ []

abbrev and_all : List Key → List Key → List Key
and_all all [] = all
and_all all (k ∷ rest) = and_all (and_one all k) rest

reached_more : (reads : Key → List Key) (n : ℕ) (found : List Key) → reached reads (suc n) found ≡ and_all (reached reads n found) (flat_map reads (reached reads n found))
reached_more reads n found = refl

-- ---- nothing is lost, and what is added is there

stays_one : (j k : Key) (all : List Key) → IsIn j all → IsIn j (and_one all k)
stays_one j k all h = by (has_key all k)
  where
    by : (b : Bool) → IsIn j (if b then all else all ++ k ∷ [])
    by true = h
    by false = in-left j all (k ∷ []) h

is_added : (k : Key) (all : List Key) → IsIn k (and_one all k)
is_added k all = by (has_key all k) refl
  where
    by : (b : Bool) → has_key all k ≡ b → IsIn k (if b then all else all ++ k ∷ [])
    by true e = let found = of-any (same_key k) all e in subst (λ j. IsIn j all) (sym (key-true k found.0 found.2)) found.1
    by false e = in-right k all (k ∷ []) (inl refl)

stays : (j : Key) (rest all : List Key) → IsIn j all → IsIn j (and_all all rest)
stays j [] all h = h
stays j (k ∷ rest) all h = stays j rest (and_one all k) (stays_one j k all h)

comes : (j : Key) (rest all : List Key) → IsIn j rest → IsIn j (and_all all rest)
comes j [] all h = absurd h
comes j (k ∷ rest) all h = elim h [
  | inl is ↦ stays j rest (and_one all k) (subst (λ i. IsIn i (and_one all k)) (sym is) (is_added k all))
  | inr more ↦ comes j rest (and_one all k) more
]

module _ (reads : Key → List Key) (found : List Key) where
  one_more : (n : ℕ) (j : Key) → IsIn j (reached reads n found) → IsIn j (reached reads (suc n) found)
  one_more n j h = stays j (flat_map reads (reached reads n found)) (reached reads n found) h

  one_read : (n : ℕ) (i j : Key) → IsIn i (reached reads n found) → IsIn j (reads i) → IsIn j (reached reads (suc n) found)
  one_read n i j h r = comes j (flat_map reads (reached reads n found)) (reached reads n found) (in-flat reads i j (reached reads n found) h r)

  grows : (d n m : ℕ) (j : Key) → IsIn j (reached reads n found) → m ≡ d + n → IsIn j (reached reads m found)
  grows zero n m j h e = let same : n ≡ m = omega (arith, e) in subst (λ z. IsIn j (reached reads z found)) same h
  grows (suc d) n m j h e = grows d (suc n) m j (one_more n j h) (omega (arith, e))

  -- so many reads on from what is reached by so many
  reached_by : (d n m : ℕ) (i j : Key) → IsIn i (reached reads n found) → Leads keys reads d i j → (left : ℕ) → m ≡ left + (d + n) → IsIn j (reached reads m found)
  reached_by zero n m i j h is left e = grows left n m j (subst (λ z. IsIn z (reached reads n found)) is h) (omega (arith, e))
  reached_by (suc d) n m i j h on left e = reached_by d (suc n) m on.0 j (one_read n i on.0 h (is_in keys on.0 (reads i) on.1)) on.2 left (omega (arith, e))

-- a key that reads itself by so many reads is found in one step fewer
pub comes_round : (reads : Key → List Key) (m steps : ℕ) (k : Key) → Leads keys reads (suc m) k k → m ≤ steps → list_any (same_key k) (reached reads steps (reads k)) ≡ true
comes_round reads m steps k on enough =
    let left = enough_left m steps enough in
    any-in (same_key k) k (reached reads steps (reads k)) (reached_by reads (reads k) m 0 steps on.0 k (is_in keys on.0 (reads k) on.1) on.2 left.0 left.1) (key-self k)
  where
    enough_left : (m steps : ℕ) → m ≤ steps → (left : ℕ) × (steps ≡ left + (m + 0))
    enough_left m steps enough = (steps - m, omega (arith, enough))
