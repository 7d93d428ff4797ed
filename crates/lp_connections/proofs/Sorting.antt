-- The place of a name among sorted entries is its first place, and a sorted set has what the numbers have.
use Rattle.std.proofs.Common.{◌≡◌, ◌≢◌, ◌⊎◌, inl, inr, ℕ, zero, suc, ◌+◌, ◌<◌, ◌≤◌, ◌==◌, Bool, true, false, ◌||◌, List, [], ◌∷◌, length, get_or, Some, None, Result, Ok, Err, is_ok, refl, sym, ap, ◌∙◌, subst, arith, add-zero, zero-add, ltb-true, ltb-false, eqb-true, eq-eqb}
use Rattle.std.specs.Prelude.{slice_get, nat_lt, if◌then◌else◌}
use Rattle.std.specs.List.{All, Contains}
use Rattle.std.specs.List.Sorted.{IsPermutation, IsNonDecreasingBy, IsPartitionPoint, IsBinarySearchResult}
use Rattle.std.specs.Ordering.{nat_cmp}
use Rattle.std.specs.Option.{option_map}
use Rattle.std.specs.Result.{MatchResult}
use Rattle.std.proofs.lemmas.Bool.{cases_lt}
use Rattle.std.proofs.lemmas.List.Folds.{list_any_at}
use Rattle.std.proofs.lemmas.List.Sorted.{All-permutation, Contains-permutation, list_any-IsPermutation, searched}
use Rattle.std.proofs.lemmas.Option.{get_or_from_slice_get, slice_get_within, slice_get-get_or}
use Rattle.lp_places.specs.Places.{place_of_number, has_number}
use Rattle.lp_connections.specs.Rows.{entries_from, entry_key, entry_name, IsRow, IsSet}
use Rattle.lp_connections.specs.declared.rows.Entry.{Entry}

-- ---- first places

-- the number stands at a place, and at none before it
place-first : (n : ℕ) (ns : List ℕ) (p : ℕ) → p < length ns → get_or ns p 0 ≡ n → ((j : ℕ) → j < p → get_or ns j 0 ≢ n) → place_of_number n ns ≡ Some p
place-first n [] p l e before = absurd (omega (arith, l))
place-first n (m ∷ ns) zero l e before = rw (eq-eqb n m (sym e)) refl
place-first n (m ∷ ns) (suc p) l e before =
    by (n == m) refl (place-first n ns p (omega (arith, l)) e (λ j h. before (suc j) (omega (arith, h))))
  where
    by : (b : Bool) → (n == m) ≡ b → place_of_number n ns ≡ Some p → (if n == m then Some 0 else option_map suc (place_of_number n ns)) ≡ Some (suc p)
    by true s r = absurd (before zero (omega arith) (sym (eqb-true n m s)))
    by false s r = rw (s, r) refl

-- the number stands nowhere
place-none : (n : ℕ) (ns : List ℕ) → ((j : ℕ) → j < length ns → get_or ns j 0 ≢ n) → place_of_number n ns ≡ None
place-none n [] nowhere = refl
place-none n (m ∷ ns) nowhere =
    by (n == m) refl (place-none n ns (λ j h. nowhere (suc j) (omega (arith, h))))
  where
    by : (b : Bool) → (n == m) ≡ b → place_of_number n ns ≡ None → (if n == m then Some 0 else option_map suc (place_of_number n ns)) ≡ None
    by true s r = absurd (nowhere zero (omega arith) (sym (eqb-true n m s)))
    by false s r = rw (s, r) refl

-- ---- entries

abbrev entry : ℕ → ℕ → Entry
entry n p = record { name = n; place = p }

entry-at : (k : ℕ) (ns : List ℕ) (j : ℕ) (d : Entry) → j < length ns → get_or (entries_from k ns) j d ≡ entry (get_or ns j 0) (k + j)
entry-at k [] j d l = absurd (omega (arith, l))
entry-at k (n ∷ ns) zero d l = ap (entry n) (sym (add-zero k))
entry-at k (n ∷ ns) (suc j) d l =
    let e : k + 1 + j ≡ k + suc j = omega arith in
    entry-at (k + 1) ns j d (omega (arith, l)) ∙ ap (entry (get_or ns j 0)) e

entries-length : (k : ℕ) (ns : List ℕ) → length (entries_from k ns) ≡ length ns
entries-length k [] = refl
entries-length k (n ∷ ns) = ap suc (entries-length (k + 1) ns)

at-zero : (ns : List ℕ) (j : ℕ) (d : Entry) → j < length ns → get_or (entries_from 0 ns) j d ≡ entry (get_or ns j 0) j
at-zero ns j d l = entry-at 0 ns j d l ∙ ap (entry (get_or ns j 0)) (zero-add j)

-- where the keys do not fall, the names do not
pub names-rise : (es : List Entry) (ns : List ℕ) → length ns < 4294967296 → IsPermutation (entries_from 0 ns) es → IsNonDecreasingBy entry_key es → IsNonDecreasingBy entry_name es
names-rise es ns few moved rises i j d h l =
    let fit : All (λ (e : Entry). e.place < 4294967296) es = All-permutation (λ (e : Entry). e.place < 4294967296) (entries_from 0 ns) es moved (λ k x within. by k x within) in
    omega (arith, rises i j d h l, fit j d l)
  where
    by : (k : ℕ) (x : Entry) → k < length (entries_from 0 ns) → (get_or (entries_from 0 ns) k x).place < 4294967296
    by k x within =
        let l : k < length ns = omega (arith, within, entries-length 0 ns) in
        subst (λ (e : Entry). e.place < 4294967296) (sym (at-zero ns k x l)) (omega (arith, l, few))

module _ (es : List Entry) (ns : List ℕ) (row : IsRow es ns) where
  -- an entry stands among the numbers at its place
  abbrev Stands : Entry → Type 0
  Stands e = (e.place < length ns) × (get_or ns e.place 0 ≡ e.name)

  first-stands : (j : ℕ) (d : Entry) → j < length (entries_from 0 ns) → Stands (get_or (entries_from 0 ns) j d)
  first-stands j d h =
      let l : j < length ns = omega (arith, h, entries-length 0 ns) in
      subst Stands (sym (at-zero ns j d l)) (l, refl)

  all-stand : All Stands es
  all-stand = All-permutation Stands (entries_from 0 ns) es row.moved first-stands

  has-entry : (j : ℕ) → j < length ns → Contains es (entry (get_or ns j 0) j)
  has-entry j l =
      let within : j < length (entries_from 0 ns) = omega (arith, l, entries-length 0 ns) in
      Contains-permutation (entries_from 0 ns) es (entry (get_or ns j 0) j) row.moved (j, within, at-zero ns j (entry (get_or ns j 0) j) l)

  module _ (n start : ℕ) (point : IsPartitionPoint (λ (e : Entry). nat_lt e.name n ≡ true) (λ (e : Entry). nat_lt e.name n ≡ false) es start) where
    -- an entry of the name does not stand before the start
    behind : (j : ℕ) (i : ℕ) → get_or ns j 0 ≡ n → get_or es i (entry (get_or ns j 0) j) ≡ entry (get_or ns j 0) j → start ≤ i
    behind j i is at = by (cases_lt i start)
      where
        by : (i < start) ⊎ (start ≤ i) → start ≤ i
        by (inl h) =
            let low : nat_lt (get_or es i (entry (get_or ns j 0) j)).name n ≡ true = point.0 i (entry (get_or ns j 0) j) (omega arith) h in
            let less : get_or ns j 0 < n = ltb-true (get_or ns j 0) n (sym (ap (λ (e : Entry). nat_lt e.name n) at) ∙ low) in
            absurd (omega (arith, less, is))
        by (inr h) = h

    -- an entry of the name has a key no less than that at the start
    key-behind : (e : Entry) → slice_get es start ≡ Some e → (j : ℕ) → j < length ns → get_or ns j 0 ≡ n → entry_key e ≤ entry_key (entry (get_or ns j 0) j)
    key-behind e s j l is =
        let x = entry (get_or ns j 0) j in
        let c = has-entry j l in
        let h = behind j c.0 is c.2 in
        let rises : entry_key (get_or es start x) ≤ entry_key (get_or es c.0 x) = row.rises start c.0 x h c.1 in
        subst (λ (y : Entry). entry_key e ≤ entry_key y) c.2 (subst (λ (y : Entry). entry_key y ≤ entry_key (get_or es c.0 x)) (get_or_from_slice_get es start e x s) rises)

    pub found : (e : Entry) → slice_get es start ≡ Some e → e.name ≡ n → place_of_number n ns ≡ Some e.place
    found e s is =
        let stands = subst Stands (get_or_from_slice_get es start e e s) (all-stand start e (slice_get_within es start e s)) in
        place-first n ns e.place stands.0 (stands.1 ∙ is) (λ j h same.
        let l : j < length ns = omega (arith, h, stands.0) in
        omega (arith, key-behind e s j l same, same, is, h))

    pub other : (e : Entry) → slice_get es start ≡ Some e → e.name ≢ n → place_of_number n ns ≡ None
    other e s is =
        let high : nat_lt e.name n ≡ false = ap (λ (y : Entry). nat_lt y.name n) (sym (get_or_from_slice_get es start e e s)) ∙ point.1 start e (omega arith) (slice_get_within es start e s) in
        place-none n ns (λ j l same. omega (arith, key-behind e s j l same, same, is, not-less e.name n high, l, row.few))
      where
        not-less : (a b : ℕ) → nat_lt a b ≡ false → b ≤ a
        not-less a b e = ltb-false a b e

    pub past : slice_get es start ≡ None → place_of_number n ns ≡ None
    past s =
        place-none n ns (λ j l same.
        let c = has-entry j l in
        let h = behind j c.0 same c.2 in
        none-some (sym s ∙ slice_get-get_or es start (entry (get_or ns j 0) j) (omega (arith, h, c.1))))
      where
        none-some : {x : Entry} → None ≡ Some x → ⊥
        none-some e = cc

-- ---- sets

has-none : (n : ℕ) (xs : List ℕ) → ((k : ℕ) → k < length xs → get_or xs k 0 ≢ n) → has_number n xs ≡ false
has-none n [] nowhere = refl
has-none n (x ∷ xs) nowhere =
    by (n == x) refl (has-none n xs (λ k h. nowhere (suc k) (omega (arith, h))))
  where
    by : (b : Bool) → (n == x) ≡ b → has_number n xs ≡ false → ((n == x) || has_number n xs) ≡ false
    by true s r = absurd (nowhere zero (omega arith) (sym (eqb-true n x s)))
    by false s r = rw (s, r) refl

set-none : (n i : ℕ) (xs : List ℕ) → ((k : ℕ) → k < i → get_or xs k 0 < n) → ((k : ℕ) → i ≤ k → k < length xs → n < get_or xs k 0) → has_number n xs ≡ false
set-none n i xs low high = has-none n xs (λ k l e. by k l e (cases_lt k i))
  where
    by : (k : ℕ) → k < length xs → get_or xs k 0 ≡ n → (k < i) ⊎ (i ≤ k) → ⊥
    by k l e (inl h) = omega (arith, e, low k h)
    by k l e (inr h) = omega (arith, e, high k h l)

pub set-has : (sorted numbers : List ℕ) → IsSet sorted numbers → (n : ℕ) (r : Result ℕ ℕ) → IsBinarySearchResult (λ y. nat_cmp y n) sorted r → is_ok r ≡ has_number n numbers
set-has sorted numbers set n r position =
    by r (searched sorted n r position (λ i j h l. set.rises i j 0 h l)) ∙ sym (list_any-IsPermutation (λ m. n == m) numbers sorted set.moved)
  where
    by : (r : Result ℕ ℕ) → MatchResult r (λ i. (i < length sorted) × (get_or sorted i 0 ≡ n)) (λ i. (i ≤ length sorted) × ((k : ℕ) → k < i → get_or sorted k 0 < n) × ((k : ℕ) → i ≤ k → k < length sorted → n < get_or sorted k 0)) → is_ok r ≡ has_number n sorted
    by (Ok i) m = sym (list_any_at (λ k. n == k) sorted i 0 m.0 (eq-eqb n (get_or sorted i 0) (sym m.1)))
    by (Err i) m = sym (set-none n i sorted m.1 m.2)
