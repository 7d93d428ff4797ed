-- A key that leads to another does so by a way on which no key stands twice.
use Rattle.std.proofs.Common.{◌≡◌, ℕ, ◌<◌, ◌≤◌, ◌==◌, Bool, true, false, ◌||◌, List, [], ◌∷◌, length, refl, sym, subst, arith, eqb}
use Rattle.std.specs.List.{list_any, AllByRecursion, IsDistinct}
use Rattle.std.proofs.lemmas.Bool.{true≢false, eqb-true}
use Rattle.std.proofs.lemmas.Map.Steps.{length-le_from_distinct_below}
use Rattle.lp_order.specs.Order.{Reads, Reaches, one_read, more_reads}
use Rattle.lp_order.proofs.OrderLaws.{Reads-within}

-- the keys between two, each of which reads the next
abbrev pub IsWay : List (List ℕ) → ℕ → List ℕ → ℕ → Type 0
IsWay g a [] b = Reads g a b
IsWay g a (k ∷ ks) b = Reads g a k × IsWay g k ks b

abbrev is_among : ℕ → List ℕ → Bool
is_among a ks = list_any (λ k. a == k) ks

-- no key stands twice
abbrev AreApart : List ℕ → Type 0
AreApart [] = Unit {0}
AreApart (k ∷ ks) = (is_among k ks ≡ false) × AreApart ks

module _ (g : List (List ℕ)) where
  way : (a b : ℕ) → Reaches g a b → (ks : List ℕ) × IsWay g a ks b
  way a b (one_read r) = ([], r)
  way a b (more_reads {b = k} r t) = let rest = way k b t in (k ∷ rest.0, (r, rest.1))

  abbrev Found : ℕ → ℕ → Type 0
  Found a b = (js : List ℕ) × IsWay g a js b × AreApart (a ∷ js)

  -- at the key itself, else behind it
  pick : (a k : ℕ) (ks : List ℕ) (b : ℕ) → IsWay g k ks b → AreApart (k ∷ ks) → (v : Bool) → (a == k) ≡ v → (v || is_among a ks) ≡ true → (is_among a ks ≡ true → Found a b) → Found a b
  pick a k ks b w apart true e h go = let is : k ≡ a = sym (eqb-true a k e) in (ks, subst (λ x. IsWay g x ks b) is w, subst (λ x. AreApart (x ∷ ks)) is apart)
  pick a k ks b w apart false e h go = go h

  cut : (a k : ℕ) (ks : List ℕ) (b : ℕ) → IsWay g k ks b → AreApart (k ∷ ks) → is_among a (k ∷ ks) ≡ true → Found a b
  cut a k [] b w apart h = pick a k [] b w apart (a == k) refl h (λ i. absurd (true≢false (sym i)))
  cut a k (j ∷ ks) b w apart h = pick a k (j ∷ ks) b w apart (a == k) refl h (cut a j ks b w.1 apart.1)

  short : (ks : List ℕ) (a b : ℕ) → IsWay g a ks b → Found a b
  short [] a b w = ([], w, (refl, tt))
  short (k ∷ ks) a b w = let rest = short ks k b w.1 in by rest (is_among a (k ∷ rest.0)) refl
    where
      by : (rest : Found k b) → (v : Bool) → is_among a (k ∷ rest.0) ≡ v → Found a b
      by rest true e = cut a k rest.0 b rest.1 rest.2 e
      by rest false e = (k ∷ rest.0, (w.0, rest.1), (e, rest.2))

  in_graph : (a z : ℕ) (v : Bool) (rest : Bool) → (z == a) ≡ v → (v || rest) ≡ true → a < length g → (rest ≡ true → z < length g) → z < length g
  in_graph a z true rest is h here go = subst (λ x. x < length g) (sym (eqb-true z a is)) here
  in_graph a z false rest is h here go = go h

  -- each key on it reads another
  pub next_within : (js : List ℕ) (a b : ℕ) → IsWay g a js b → a < length g
  next_within [] a b w = Reads-within g a b w
  next_within (k ∷ js) a b w = Reads-within g a k w.0

  on_way : (js : List ℕ) (a b : ℕ) → IsWay g a js b → (z : ℕ) → is_among z (a ∷ js) ≡ true → z < length g
  on_way [] a b w z e = in_graph a z (z == a) false refl e (next_within [] a b w) (λ i. absurd (true≢false (sym i)))
  on_way (k ∷ js) a b w z e = in_graph a z (z == a) (is_among z (k ∷ js)) refl e (next_within (k ∷ js) a b w) (on_way js k b w.1 z)

  others : (k : ℕ) (js : List ℕ) → is_among k js ≡ false → AllByRecursion (λ j. eqb k j ≡ false) js
  others k [] e = tt
  others k (j ∷ js) e = by (k == j) refl e (others k js)
    where
      by : (v : Bool) → (k == j) ≡ v → (v || is_among k js) ≡ false → (is_among k js ≡ false → AllByRecursion (λ i. eqb k i ≡ false) js) → AllByRecursion (λ i. eqb k i ≡ false) (j ∷ js)
      by true is rest go = absurd (true≢false rest)
      by false is rest go = (is, go rest)

  distinct : (ks : List ℕ) → AreApart ks → IsDistinct eqb ks
  unfolding IsDistinct
  distinct [] apart = tt
  distinct (k ∷ ks) apart = (others k ks apart.0, distinct ks apart.1)

  -- so it is shorter than there are keys
  pub short_way : (a b : ℕ) → Reaches g a b → (js : List ℕ) × IsWay g a js b × (length js < length g)
  short_way a b r =
      let long = way a b r in
      let brief = short long.0 a b long.1 in
      let count : length (a ∷ brief.0) ≤ length g = length-le_from_distinct_below (a ∷ brief.0) (length g) (distinct (a ∷ brief.0) brief.2) (on_way brief.0 a b brief.1) in
      (brief.0, brief.1, omega (arith, count))
