-- Keys of which none reaches itself in as many reads as there are keys have an order.
use Rattle.std.specs.Prelude.{IsTrue, flat_map}
use Rattle.std.proofs.Common.{◌≡◌, ◌≤◌, ◌<◌, ◌+◌, ◌||◌, ℕ, zero, suc, Bool, true, false, List, [], ◌∷◌, ◌++◌, length, inl, inr, refl, sym, ◌∙◌, subst, arith}
use Rattle.std.proofs.lemmas.Bool.{true≢false, false≢true, cases_Bool}
use Rattle.lp_spec_settling.specs.Settling.{Keys, has, AllIn, IsOrder, HasOrder}
use Rattle.lp_spec_settling.proofs.Laws.{has-head, has-tail, AllIn-one}
use Rattle.lp_spec_design.specs.Winners.{IsIn}
use Rattle.lp_spec_design.proofs.Members.{IsApart, no-longer, any-in, of-any}

module _ {K : Type 0} (keys : Keys K) where
  has_in_left : (k : K) (xs ys : List K) → has keys k xs ≡ true → has keys k (xs ++ ys) ≡ true
  has_in_left k [] ys h = absurd (false≢true h)
  has_in_left k (x ∷ xs) ys h = by (keys.same x k) (has_in_left k xs ys) h
    where
      by : (b : Bool) → (has keys k xs ≡ true → has keys k (xs ++ ys) ≡ true) → (b || has keys k xs) ≡ true → (b || has keys k (xs ++ ys)) ≡ true
      by true more e = refl
      by false more e = more e

  has_in_right : (k : K) (xs ys : List K) → has keys k ys ≡ true → has keys k (xs ++ ys) ≡ true
  has_in_right k [] ys h = h
  has_in_right k (x ∷ xs) ys h = has-tail keys k x (xs ++ ys) (has_in_right k xs ys h)

  all_in_left : (ks xs ys : List K) → AllIn keys ks xs → AllIn keys ks (xs ++ ys)
  all_in_left [] xs ys all = tt
  all_in_left (k ∷ ks) xs ys all = (has_in_left k xs ys all.0, all_in_left ks xs ys all.1)

  all_in_right : (ks xs ys : List K) → AllIn keys ks ys → AllIn keys ks (xs ++ ys)
  all_in_right [] xs ys all = tt
  all_in_right (k ∷ ks) xs ys all = (has_in_right k xs ys all.0, all_in_right ks xs ys all.1)

  -- membership by the test, and by equality
  pub is_in : (k : K) (ks : List K) → has keys k ks ≡ true → IsIn k ks
  is_in k ks h = let found = of-any (λ j. keys.same j k) ks h in subst (λ j. IsIn j ks) (keys.same_true found.0 k found.2) found.1

  pub has_it : (k : K) (ks : List K) → IsIn k ks → has keys k ks ≡ true
  has_it k ks h = any-in (λ j. keys.same j k) k ks h (keys.true_same k)

  module _ (reads : K → List K) where
    -- two orders behind one another are one
    joined : (xs ys : List K) → IsOrder keys reads xs → IsOrder keys reads ys → IsOrder keys reads (xs ++ ys)
    joined [] ys one two = two
    joined (x ∷ xs) ys one two = (all_in_left (reads x) xs ys one.0, joined xs ys one.1 two)

    -- so many reads lead from one key to another
    abbrev pub Leads : ℕ → K → K → Type 0
    Leads zero k j = k ≡ j
    Leads (suc n) k j = (i : K) × IsTrue (has keys i (reads k)) × Leads n i j

    -- so many reads go on from a key
    abbrev pub GoesOn : ℕ → K → Type 0
    GoesOn zero k = Unit {0}
    GoesOn (suc n) k = (j : K) × IsTrue (has keys j (reads k)) × GoesOn n j

    pub leads_on : (n : ℕ) (x k j : K) → Leads n x k → IsTrue (has keys j (reads k)) → Leads (suc n) x j
    leads_on zero x k j is r = (j, subst (λ z. has keys j (reads z) ≡ true) (sym is) r, refl)
    leads_on (suc n) x k j on r = (on.0, on.1, leads_on n on.0 k j on.2 r)

    -- a key, and all that it leads to
    abbrev below : ℕ → K → List K
    below zero k = []
    below (suc n) k = k ∷ flat_map (below n) (reads k)

    -- lists that are orders and have their keys are one order, which has all
    all_ordered : (f : K → List K) (ks : List K) → ((j : K) → has keys j ks ≡ true → IsOrder keys reads (f j) × (has keys j (f j) ≡ true)) → IsOrder keys reads (flat_map f ks) × AllIn keys ks (flat_map f ks)
    all_ordered f [] each = (tt, tt)
    all_ordered f (k ∷ ks) each =
        let here = each k (has-head keys k ks) in
        let rest = all_ordered f ks (λ j h. each j (has-tail keys j k ks h)) in
        (joined (f k) (flat_map f ks) here.0 rest.0, (has_in_left k (f k) (flat_map f ks) here.1, all_in_right ks (f k) (flat_map f ks) rest.1))

    is_ordered : (n : ℕ) (k : K) → (GoesOn n k → ⊥) → IsOrder keys reads (below n k) × (has keys k (below n k) ≡ true)
    is_ordered zero k none = absurd (none tt)
    is_ordered (suc n) k none =
        let rest = all_ordered (below n) (reads k) (λ j h. is_ordered n j (λ more. none (j, h, more))) in
        ((rest.1, rest.0), has-head keys k (flat_map (below n) (reads k)))

    -- a key is read by the first of a list, that by the next one, and so on
    abbrev IsReadBy : K → List K → Type 0
    IsReadBy k [] = Unit {0}
    IsReadBy k (x ∷ seen) = IsTrue (has keys k (reads x)) × IsReadBy x seen

    comes_back : (k x : K) (seen : List K) → IsReadBy k seen → IsIn x seen → (n : ℕ) × Leads (suc n) x k × (suc n ≤ length seen)
    comes_back k x [] on h = absurd h
    comes_back k x (y ∷ seen) on (inl is) = (0, (k, subst (λ z. has keys k (reads z) ≡ true) (sym is) on.0, refl), omega arith)
    comes_back k x (y ∷ seen) on (inr h) =
        let more = comes_back y x seen on.1 h in
        (suc more.0, leads_on (suc more.0) x y k more.1 on.0, omega (arith, more.2))

    module _ (all : List K) (known : (k j : K) → IsTrue (has keys j (reads k)) → IsTrue (has keys k all)) (no_loop : (k : K) (n : ℕ) → Leads (suc n) k k → suc n ≤ length all → ⊥) where
      readers_known : (k : K) (seen : List K) → IsReadBy k seen → (x : K) → IsIn x seen → IsIn x all
      readers_known k [] on x h = absurd h
      readers_known k (y ∷ seen) on x h = elim h [ inl is ↦ subst (λ z. IsIn z all) (sym is) (is_in y all (known y k on.0)) | inr rest ↦ readers_known y seen on.1 x rest ]

      few : (k : K) (seen : List K) → IsReadBy k seen → IsApart seen → length seen ≤ length all
      few k seen on apart = no-longer seen all apart (readers_known k seen on)

      -- where more reads are left than keys were not seen, they do not all go on
      ends : (n : ℕ) (k : K) (seen : List K) → IsReadBy k seen → IsApart seen → length all < length seen + n → GoesOn n k → ⊥
      ends zero k seen on apart many more = let size = few k seen on apart in absurd (omega (arith, size))
      ends (suc n) k seen on apart many more =
          elim (cases_Bool (has keys k seen)) [
            | inl h ↦
                let loop = comes_back k k seen on (is_in k seen h) in
                let size = few k seen on apart in
                no_loop k loop.0 loop.1 (omega (arith, loop.2, size))
            | inr out ↦
                let fresh : IsIn k seen → ⊥ = λ h. true≢false (sym (has_it k seen h) ∙ out) in
                ends n more.0 (k ∷ seen) (more.1, on) (fresh, apart) (omega arith) more.2
          ]

      whole : IsOrder keys reads (flat_map (below (suc (length all))) all) × AllIn keys all (flat_map (below (suc (length all))) all)
      whole = all_ordered (below (suc (length all))) all (λ k h. is_ordered (suc (length all)) k (ends (suc (length all)) k [] tt tt (omega arith)))

      outside : (k : K) → has keys k (flat_map (below (suc (length all))) all) ≡ false → reads k ≡ []
      outside k none = by (reads k) refl
        where
          by : (ks : List K) → reads k ≡ ks → reads k ≡ []
          by [] e = e
          by (j ∷ ks) e =
              let reading : has keys j (reads k) ≡ true = subst (λ z. has keys j z ≡ true) (sym e) (has-head keys j ks) in
              absurd (true≢false (sym (AllIn-one keys all (flat_map (below (suc (length all))) all) k whole.1 (known k j reading)) ∙ none))

      pub from_no_loop : HasOrder keys reads
      from_no_loop = record { order = flat_map (below (suc (length all))) all; is_order = whole.0; covers = outside }
