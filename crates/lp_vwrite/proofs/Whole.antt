-- Bits in runs that follow the indices of a vector.
use Rattle.std.proofs.Common.{◌≡◌, ℕ, zero, suc, ◌+◌, ◌-◌, ◌<◌, ◌≤◌, Bool, true, false, List, [], ◌∷◌, ◌++◌, map, length, take, drop, get_or, Some, None, refl, sym, ap, ◌∙◌, arith}
use Rattle.std.specs.Prelude.{nat_le, nat_lt, ◌==◌, ◌&&◌, IsTrue, flat_map, if◌then◌else◌}
use Rattle.std.proofs.lemmas.Bool.{and_parts}
use Rattle.std.proofs.lemmas.Bool.Decides.{nat_tests}
use Rattle.std.proofs.lemmas.List.{drop_more, drop_all, drop-drop, length-drop, length-take, map-append}
use Rattle.lp_text.specs.Texts.{text_at, same_text}
use Rattle.lp_text.specs.declared.names.NameId.{NameId}
use Rattle.lp_model.specs.declared.bits.Bit.TheVariants as bits
use Rattle.lp_model.specs.declared.run.Run.{Run}
use Rattle.lp_model.specs.Bits.{indices, between, select, constant_bits, run_bits}
use Rattle.lp_model.specs.NetlistView.{BitView, SelectBit, bit_view, bits_view}
use Rattle.lp_model.proofs.Runs.{length-indices}
use Rattle.lp_vwrite.specs.Layout.{are_bits}
use Rattle.lp_vwrite.specs.Whole.{StandsAt, GoesOn}
use Rattle.lp_vwrite.proofs.Runs.{indices-up, indices-down}

not-true : (b : Bool) → (b ≡ true → ⊥) → b ≡ false
not-true true h = absurd (h refl)
not-true false h = refl

-- ---- digits

constant-stops : (t is : List ℕ) (value : Bool) (more : List BitView) (rest : List BitView) (names : List (List ℕ)) → are_bits t is ((bit_view names (bits.Const value) ∷ more) ++ rest) ≡ false
constant-stops t [] value more rest names = refl
constant-stops t (i ∷ is) value more rest names = refl

pub constants-stop : (names : List (List ℕ)) (t is : List ℕ) (count number : ℕ) → (count ≡ 0 → ⊥) → GoesOn t is (bits_view names (constant_bits count number)) None
constants-stop names t is zero number h = absurd (h refl)
constants-stop names t is (suc count) number h = λ rest. constant-stops t is _ _ rest names

-- ---- a part

seen : (names : List (List ℕ)) (name : NameId) (js : List ℕ) → map (bit_view names) (map (λ k. bits.Select name k) js) ≡ map (λ k. SelectBit (text_at names name.0) k) js
seen names name [] = refl
seen names name (j ∷ js) = ap (λ (vs : List BitView). SelectBit (text_at names name.0) j ∷ vs) (seen names name js)

same-goes : (t o js is : List ℕ) (rest : List BitView) → same_text t o ≡ true → take (length js) is ≡ js → are_bits t is (map (λ k. SelectBit o k) js ++ rest) ≡ are_bits t (drop (length js) is) rest
same-goes t o [] is rest s e = refl
same-goes t o (j ∷ js) [] rest s e = absurd cc
same-goes t o (j ∷ js) (i ∷ is) rest s e =
    let head : i ≡ j = cc in
    let tail : take (length js) is ≡ js = cc in
    let test : (i == j) ≡ true = grind (arith, nat_tests) in
    let more = same-goes t o js is rest s tail in
    rw (s, test) more

goes-same : (t o js is : List ℕ) (rest : List BitView) → are_bits t is (map (λ k. SelectBit o k) js ++ rest) ≡ true → take (length js) is ≡ js
goes-same t o [] is rest h = refl
goes-same t o (j ∷ js) [] rest h = absurd cc
goes-same t o (j ∷ js) (i ∷ is) rest h =
    let parts = and_parts (same_text t o && (i == j)) (are_bits t is (map (λ k. SelectBit o k) js ++ rest)) h in
    let both = and_parts (same_text t o) (i == j) parts.0 in
    let test : (i == j) ≡ true = both.1 in
    let head : i ≡ j = grind (arith, nat_tests) in
    let tail : take (length js) is ≡ js = goes-same t o js is rest parts.1 in
    rw (head, tail) refl

goes-named : (t o js is : List ℕ) (rest : List BitView) → 0 < length js → are_bits t is (map (λ k. SelectBit o k) js ++ rest) ≡ true → same_text t o ≡ true
goes-named t o [] is rest l h = absurd (omega arith)
goes-named t o (j ∷ js) [] rest l h = absurd cc
goes-named t o (j ∷ js) (i ∷ is) rest l h =
    let parts = and_parts (same_text t o && (i == j)) (are_bits t is (map (λ k. SelectBit o k) js ++ rest)) h in
    (and_parts (same_text t o) (i == j) parts.0).0

goes-short : (js is : List ℕ) → take (length js) is ≡ js → length js ≤ length is
goes-short js is e = let len = length-take (length js) is in let same = ap length e in omega (arith, len, same)

module _ (names : List (List ℕ)) (t all : List ℕ) (done : ℕ) (other : NameId) (first last : ℕ) where
  viewed : (rest : List BitView) → are_bits t (drop done all) (bits_view names (select other first last) ++ rest) ≡ are_bits t (drop done all) (map (λ k. SelectBit (text_at names other.0) k) (between first last) ++ rest)
  viewed rest = ap (λ (vs : List BitView). are_bits t (drop done all) (vs ++ rest)) (seen names other (between first last))

  pub part-goes : (count : ℕ) → count ≡ length (between first last) → same_text t (text_at names other.0) ≡ true → StandsAt (between first last) done all → GoesOn t (drop done all) (bits_view names (select other first last)) (Some count)
  part-goes count e s h = (
    let short = goes-short (between first last) (drop done all) h in omega (arith, short),
    λ rest. viewed rest ∙ same-goes t (text_at names other.0) (between first last) (drop done all) rest s h ∙ ap (λ (n : ℕ). are_bits t (drop n (drop done all)) rest) (sym e),
  )

  none-by : ((rest : List BitView) → are_bits t (drop done all) (map (λ k. SelectBit (text_at names other.0) k) (between first last) ++ rest) ≡ true → ⊥) → GoesOn t (drop done all) (bits_view names (select other first last)) None
  none-by h = λ rest. viewed rest ∙ not-true (are_bits t (drop done all) (map (λ k. SelectBit (text_at names other.0) k) (between first last) ++ rest)) (h rest)

  pub part-long : length all - done < length (between first last) → GoesOn t (drop done all) (bits_view names (select other first last)) None
  part-long h = none-by (λ rest e.
      let short = goes-short (between first last) (drop done all) (goes-same t (text_at names other.0) (between first last) (drop done all) rest e) in
      let len = length-drop done all in
      absurd (omega (arith, short, len)))

  pub part-other : 0 < length (between first last) → same_text t (text_at names other.0) ≡ false → GoesOn t (drop done all) (bits_view names (select other first last)) None
  part-other l h = none-by (λ rest e. let named = goes-named t (text_at names other.0) (between first last) (drop done all) rest l e in absurd cc)

  pub part-apart : (StandsAt (between first last) done all → ⊥) → GoesOn t (drop done all) (bits_view names (select other first last)) None
  part-apart h = none-by (λ rest e. h (goes-same t (text_at names other.0) (between first last) (drop done all) rest e))

-- ---- indices along a vector

abbrev entry : Bool → ℕ → ℕ → ℕ
entry up first k = if up then first + k else first - k

drop-indices : (up : Bool) (first k n d : ℕ) → drop d (indices up first k n) ≡ indices up first (k + d) (n - d)
drop-indices up first k n zero =
    let a : k + 0 ≡ k = omega arith in
    let b : n - 0 ≡ n = omega arith in
    rw (a, b) refl
drop-indices up first k zero (suc d) = let b : 0 - suc d ≡ 0 = omega arith in rw b refl
drop-indices up first k (suc n) (suc d) =
    let a : k + 1 + d ≡ k + suc d = omega arith in
    let b : n - d ≡ suc n - suc d = omega arith in
    drop-indices up first (k + 1) n d ∙ ap (λ (m : ℕ). indices up first m (n - d)) a ∙ ap (indices up first (k + suc d)) b

take-indices : (up : Bool) (first k n c : ℕ) → c ≤ n → take c (indices up first k n) ≡ indices up first k c
take-indices up first k n zero h = refl
take-indices up first k zero (suc c) h = absurd (omega arith)
take-indices up first k (suc n) (suc c) h = ap (λ (is : List ℕ). entry up first k ∷ is) (take-indices up first (k + 1) n c (omega arith))

between-is : (i j : ℕ) → between i j ≡ indices (nat_le i j) i 0 (length (between i j))
between-is i j = by (nat_le i j)
  where
    by : (b : Bool) → (if b then indices true i 0 (j - i + 1) else indices false i 0 (i - j + 1)) ≡ indices b i 0 (length (if b then indices true i 0 (j - i + 1) else indices false i 0 (i - j + 1)))
    by true = ap (indices true i 0) (sym (length-indices true i 0 (j - i + 1)))
    by false = ap (indices false i 0) (sym (length-indices false i 0 (i - j + 1)))

entry-at : (l r d : ℕ) → d < length (between l r) → get_or (between l r) d 0 ≡ entry (nat_le l r) l d
entry-at l r d h = ap (λ (is : List ℕ). get_or is d 0) (between-is l r) ∙ by (nat_le l r) (length (between l r)) h
  where
    by : (b : Bool) (n : ℕ) → d < n → get_or (indices b l 0 n) d 0 ≡ entry b l d
    by true n h = let at = indices-up l 0 n d h in omega (arith, at)
    by false n h = let at = indices-down l 0 n d h in omega (arith, at)

heads : (u v : Bool) (l d i c : ℕ) → 0 < c → indices u l d c ≡ indices v i 0 c → entry u l d ≡ entry v i 0
heads u v l d i zero p h = absurd (omega arith)
heads u v l d i (suc c) p h = ap (λ (is : List ℕ). get_or is 0 0) h

seconds : (u v : Bool) (l d i c : ℕ) → 1 < c → indices u l d c ≡ indices v i 0 c → entry u l (d + 1) ≡ entry v i (0 + 1)
seconds u v l d i zero p h = absurd (omega arith)
seconds u v l d i (suc zero) p h = absurd (omega arith)
seconds u v l d i (suc (suc c)) p h = ap (λ (is : List ℕ). get_or is 1 0) h

turned : (u v : Bool) (l d i : ℕ) → entry u l d ≡ entry v i 0 → entry u l (d + 1) ≡ entry v i (0 + 1) → u ≡ v
turned true true l d i a b = refl
turned false false l d i a b = refl
turned true false l d i a b = absurd (omega arith)
turned false true l d i a b = absurd (omega arith)

alike : (u : Bool) (l d i m c : ℕ) → entry u l d ≡ entry u i m → indices u l d c ≡ indices u i m c
alike u l d i m zero e = refl
alike u l d i m (suc c) e = rw (e, alike u l (d + 1) i (m + 1) c (next u e)) refl
  where
    next : (u : Bool) → entry u l d ≡ entry u i m → entry u l (d + 1) ≡ entry u i (m + 1)
    next true e = omega arith
    next false e = omega arith

pub between-filled : (i j : ℕ) → 0 < length (between i j)
between-filled i j = by (nat_le i j)
  where
    by : (b : Bool) → 0 < length (if b then indices true i 0 (j - i + 1) else indices false i 0 (i - j + 1))
    by true = let len = length-indices true i 0 (j - i + 1) in omega (arith, len)
    by false = let len = length-indices false i 0 (i - j + 1) in omega (arith, len)

start : (v : Bool) (i : ℕ) → entry v i 0 ≡ i
start true i = omega arith
start false i = omega arith

module _ (l r d i j x : ℕ) (at : x ≡ get_or (between l r) d 0) (fits : d + length (between i j) ≤ length (between l r)) where
  entry-is : x ≡ entry (nat_le l r) l d
  entry-is = at ∙ entry-at l r d (let some = between-filled i j in omega (arith, some))

  standing : take (length (between i j)) (drop d (between l r)) ≡ indices (nat_le l r) l d (length (between i j))
  standing =
      ap (λ (is : List ℕ). take (length (between i j)) (drop d is)) (between-is l r)
      ∙ ap (take (length (between i j))) (drop-indices (nat_le l r) l 0 (length (between l r)) d)
      ∙ take-indices (nat_le l r) l (0 + d) (length (between l r) - d) (length (between i j)) (omega arith)
      ∙ ap (λ (m : ℕ). indices (nat_le l r) l m (length (between i j))) (omega arith)

  stand-to : StandsAt (between i j) d (between l r) → indices (nat_le l r) l d (length (between i j)) ≡ indices (nat_le i j) i 0 (length (between i j))
  stand-to h = sym standing ∙ h ∙ between-is i j

  stand-from : indices (nat_le l r) l d (length (between i j)) ≡ indices (nat_le i j) i 0 (length (between i j)) → StandsAt (between i j) d (between l r)
  stand-from h = standing ∙ h ∙ sym (between-is i j)

  first-is : x ≡ i → entry (nat_le l r) l d ≡ entry (nat_le i j) i 0
  first-is e = sym entry-is ∙ e ∙ sym (start (nat_le i j) i)

  many : (i ≡ j → ⊥) → 1 < length (between i j)
  many h = by (nat_le i j) refl
    where
      by : (b : Bool) → nat_le i j ≡ b → 1 < length (if b then indices true i 0 (j - i + 1) else indices false i 0 (i - j + 1))
      by true e = let len = length-indices true i 0 (j - i + 1) in let up : i ≤ j = grind (arith, nat_tests) in let other : i < j = omega (arith, up) in omega (arith, len, other)
      by false e = let len = length-indices false i 0 (i - j + 1) in let down : j < i = grind (arith, nat_tests) in omega (arith, len, down)

  along-same : x ≡ i → nat_le l r ≡ nat_le i j → StandsAt (between i j) d (between l r)
  along-same e same =
      let first : entry (nat_le i j) l d ≡ entry (nat_le i j) i 0 = ap (λ (b : Bool). entry b l d) (sym same) ∙ first-is e in
      stand-from (ap (λ (b : Bool). indices b l d (length (between i j))) same ∙ alike (nat_le i j) l d i 0 (length (between i j)) first)

  along-turned : (i ≡ j → ⊥) → StandsAt (between i j) d (between l r) → nat_le l r ≡ nat_le i j
  along-turned h s =
      let same = stand-to s in
      turned (nat_le l r) (nat_le i j) l d i
      (heads (nat_le l r) (nat_le i j) l d i (length (between i j)) (between-filled i j) same)
      (seconds (nat_le l r) (nat_le i j) l d i (length (between i j)) (many h) same)

  -- up
  pub along-up : x ≡ i → i < j → (IsTrue (nat_le l r) → StandsAt (between i j) d (between l r)) × (StandsAt (between i j) d (between l r) → IsTrue (nat_le l r))
  along-up e h =
      let up : nat_le i j ≡ true = grind (arith, nat_tests) in
      let apart : i ≡ j → ⊥ = λ same. absurd (omega arith) in
      (λ t. along-same e (t ∙ sym up), λ s. along-turned apart s ∙ up)

  -- down
  pub along-down : x ≡ i → j < i → (IsTrue (nat_lt r l) → StandsAt (between i j) d (between l r)) × (StandsAt (between i j) d (between l r) → IsTrue (nat_lt r l))
  along-down e h =
      let down : nat_le i j ≡ false = grind (arith, nat_tests) in
      let apart : i ≡ j → ⊥ = λ same. absurd (omega arith) in
      (λ t. along-same e (below t ∙ sym down), λ s. above (along-turned apart s ∙ down))
    where
      below : nat_lt r l ≡ true → nat_le l r ≡ false
      below t = grind (arith, nat_tests)

      above : nat_le l r ≡ false → nat_lt r l ≡ true
      above t = grind (arith, nat_tests)

-- ---- all runs

module _ (names : List (List ℕ)) (t all : List ℕ) (runs : List Run) (k done : ℕ) where
  behind : (x : Run) → k < length runs → bits_view names (flat_map run_bits (drop k runs)) ≡ bits_view names (run_bits (get_or runs k x)) ++ bits_view names (flat_map run_bits (drop (k + 1) runs))
  behind x within =
      ap (λ (rs : List Run). bits_view names (flat_map run_bits rs)) (drop_more runs k x within) ∙ map-append (bit_view names) (run_bits (get_or runs k x)) (flat_map run_bits (drop (k + 1) runs))

  pub runs-go : (x : Run) (steps : ℕ) (whole : Bool) → k < length runs → GoesOn t (drop done all) (bits_view names (run_bits (get_or runs k x))) (Some steps) → are_bits t (drop done all) (bits_view names (flat_map run_bits (drop k runs))) ≡ whole → are_bits t (drop (done + steps) all) (bits_view names (flat_map run_bits (drop (k + 1) runs))) ≡ whole
  runs-go x steps whole within goes before =
      let rest = bits_view names (flat_map run_bits (drop (k + 1) runs)) in
      ap (λ (is : List ℕ). are_bits t is rest) (sym (drop-drop steps done all))
      ∙ sym (goes.1 rest)
      ∙ ap (are_bits t (drop done all)) (sym (behind x within))
      ∙ before

  ends : (is : List ℕ) → length is ≡ length all - done → done ≤ length all → are_bits t is [] ≡ (done == length all)
  ends [] len fits = let test : (done == length all) ≡ true = grind (arith, nat_tests) in sym test
  ends (i ∷ is) len fits = let test : (done == length all) ≡ false = grind (arith, nat_tests) in sym test

  pub runs-end : (whole : Bool) → length runs ≤ k → done ≤ length all → are_bits t (drop done all) (bits_view names (flat_map run_bits (drop k runs))) ≡ whole → (done == length all) ≡ whole
  runs-end whole past fits before =
      sym (ends (drop done all) (length-drop done all) fits)
      ∙ ap (λ (rs : List Run). are_bits t (drop done all) (bits_view names (flat_map run_bits rs))) (sym (drop_all k runs past))
      ∙ before
