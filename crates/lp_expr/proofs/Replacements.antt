-- What a value where signals may be unknown says of their replacements.
use Rattle.std.proofs.Common.{◌≡◌, suc, Bool, true, false, not, ◌&&◌, cond, List, [], ◌∷◌, ◌++◌, length, ◌↔◌, refl, sym, ap, ◌∙◌}
use Rattle.std.specs.Prelude.{map}
use Rattle.std.specs.List.{list_all}
use Rattle.std.proofs.lemmas.Bool.{and_from, and_parts, true≢false, false≢true, both_ways, not-true, not_from_false, false_from_ne_true}
use Rattle.std.proofs.lemmas.List.{append-nil}
use Rattle.std.proofs.lemmas.List.Folds.{list_all-append, list_all-map}
use Rattle.lp_tern.specs.declared.tern.Tern.{Tern}
use Rattle.lp_tern.specs.declared.tern.Tern.TheVariants.{Zero, One, X}
use Rattle.lp_expr.specs.Formula.{Formula, truth, completions, value_of}
use Rattle.lp_expr.specs.Places.{is_one}
use Rattle.lp_expr.specs.Replaces.{Replaces}

-- a test of all completions, by the first value
one_way : (p : List Bool → Bool) (b : Bool) (cs : List (List Bool)) → list_all p (map (λ c. b ∷ c) cs ++ []) ≡ list_all (λ c. p (b ∷ c)) cs
one_way p b cs = ap (list_all p) (append-nil (map (λ c. b ∷ c) cs)) ∙ list_all-map p (λ c. b ∷ c) cs

two_ways : (p : List Bool → Bool) (cs : List (List Bool))
    → list_all p (map (λ c. false ∷ c) cs ++ (map (λ c. true ∷ c) cs ++ [])) ≡ (list_all (λ c. p (false ∷ c)) cs && list_all (λ c. p (true ∷ c)) cs)
two_ways p cs =
    list_all-append p (map (λ c. false ∷ c) cs) (map (λ c. true ∷ c) cs ++ [])
    ∙ ap (λ x. x && list_all p (map (λ c. true ∷ c) cs ++ [])) (list_all-map p (λ c. false ∷ c) cs)
    ∙ ap (λ x. list_all (λ c. p (false ∷ c)) cs && x) (one_way p true cs)

all-from : (v : List Tern) (p : List Bool → Bool) → ((c : List Bool) → Replaces v c → p c ≡ true) → list_all p (completions v) ≡ true
all-from [] p h = and_from (p []) true (h [] tt) refl
all-from (Zero ∷ v) p h = one_way p false (completions v) ∙ all-from v (λ c. p (false ∷ c)) (λ c r. h (false ∷ c) (refl, r))
all-from (One ∷ v) p h = one_way p true (completions v) ∙ all-from v (λ c. p (true ∷ c)) (λ c r. h (true ∷ c) (refl, r))
all-from (X ∷ v) p h =
    two_ways p (completions v)
    ∙ and_from _ _ (all-from v (λ c. p (false ∷ c)) (λ c r. h (false ∷ c) (tt, r))) (all-from v (λ c. p (true ∷ c)) (λ c r. h (true ∷ c) (tt, r)))

all-at : (v : List Tern) (p : List Bool → Bool) → list_all p (completions v) ≡ true → (c : List Bool) → Replaces v c → p c ≡ true
all-at [] p h [] r = (and_parts (p []) true h).0
all-at [] p h (b ∷ c) r = absurd r
all-at (Zero ∷ v) p h [] r = absurd r
all-at (Zero ∷ v) p h (false ∷ c) r = all-at v (λ c. p (false ∷ c)) (sym (one_way p false (completions v)) ∙ h) c r.1
all-at (Zero ∷ v) p h (true ∷ c) r = absurd (true≢false r.0)
all-at (One ∷ v) p h [] r = absurd r
all-at (One ∷ v) p h (false ∷ c) r = absurd (false≢true r.0)
all-at (One ∷ v) p h (true ∷ c) r = all-at v (λ c. p (true ∷ c)) (sym (one_way p true (completions v)) ∙ h) c r.1
all-at (X ∷ v) p h [] r = absurd r
all-at (X ∷ v) p h (false ∷ c) r = all-at v (λ c. p (false ∷ c)) ((and_parts _ _ (sym (two_ways p (completions v)) ∙ h)).0) c r.1
all-at (X ∷ v) p h (true ∷ c) r = all-at v (λ c. p (true ∷ c)) ((and_parts _ _ (sym (two_ways p (completions v)) ∙ h)).1) c r.1

-- there is a replacement: 0 for all that is unknown
pub Replaces-is_one : (v : List Tern) → Replaces v (map is_one v)
Replaces-is_one [] = tt
Replaces-is_one (Zero ∷ v) = (refl, Replaces-is_one v)
Replaces-is_one (One ∷ v) = (refl, Replaces-is_one v)
Replaces-is_one (X ∷ v) = (tt, Replaces-is_one v)

pub length-Replaces : (v : List Tern) (c : List Bool) → Replaces v c → length c ≡ length v
length-Replaces [] [] r = refl
length-Replaces [] (b ∷ c) r = absurd r
length-Replaces (t ∷ v) [] r = absurd r
length-Replaces (t ∷ v) (b ∷ c) r = ap suc (length-Replaces v c r.1)

-- what a value says of "all true" and "all false"
one-agreed : (all none : Bool) → cond all One (cond none Zero X) ≡ One → all ≡ true
one-agreed true none h = refl
one-agreed false true h = absurd (cc)
one-agreed false false h = absurd (cc)

zero-agreed : (all none : Bool) → cond all One (cond none Zero X) ≡ Zero → none ≡ true
zero-agreed true none h = absurd (cc)
zero-agreed false true h = refl
zero-agreed false false h = absurd (cc)

module _ (e : Formula) (v : List Tern) where
  all_is : list_all (λ b. b) (map (truth e.steps) (completions v)) ≡ list_all (truth e.steps) (completions v)
  all_is = list_all-map (λ b. b) (truth e.steps) (completions v)

  none_is : list_all not (map (truth e.steps) (completions v)) ≡ list_all (λ c. not (truth e.steps c)) (completions v)
  none_is = list_all-map not (truth e.steps) (completions v)

  not_all : (c : List Bool) → Replaces v c → truth e.steps c ≡ false → list_all (λ b. b) (map (truth e.steps) (completions v)) ≡ false
  not_all c r h = false_from_ne_true _ (λ all. both_ways (truth e.steps c) h (all-at v (truth e.steps) (sym all_is ∙ all) c r))

  not_none : (c : List Bool) → Replaces v c → truth e.steps c ≡ true → list_all not (map (truth e.steps) (completions v)) ≡ false
  not_none c r h = false_from_ne_true _ (λ none. both_ways (truth e.steps c) (not-true _ (all-at v (λ c. not (truth e.steps c)) (sym none_is ∙ none) c r)) h)

  pub always_one : (value_of e v ≡ One) ↔ ((c : List Bool) → Replaces v c → truth e.steps c ≡ true)
  always_one = (
    λ h. all-at v (truth e.steps) (sym all_is ∙ one-agreed _ _ h),
    λ h. rw (all_is ∙ all-from v (truth e.steps) h) refl,
  )

  pub always_zero : (value_of e v ≡ Zero) ↔ ((c : List Bool) → Replaces v c → truth e.steps c ≡ false)
  always_zero = (
    λ h c r. not-true _ (all-at v (λ c. not (truth e.steps c)) (sym none_is ∙ zero-agreed _ _ h) c r),
    λ h. rw (not_all (map is_one v) (Replaces-is_one v) (h (map is_one v) (Replaces-is_one v)), none_is ∙ all-from v (λ c. not (truth e.steps c)) (λ c r. not_from_false _ (h c r))) refl,
  )

  -- two replacements with different values
  pub differing : (c d : List Bool) → Replaces v c → Replaces v d → truth e.steps c ≡ true → truth e.steps d ≡ false → value_of e v ≡ X
  differing c d r s h k = rw (not_all d s k, not_none c r h) refl
