-- The tables of states by the numbers of their names.
use Rattle.std.proofs.Common.{◌≡◌, ℕ, ◌<◌, ◌&&◌, Bool, true, false, List, [], ◌∷◌, refl, sym, ap, ◌∙◌, length}
use Rattle.std.specs.Prelude.{Option, Some, None, ltb, nat_eq, bytes_eq, if◌then◌else◌}
use Rattle.std.specs.Map.{lookup}
use Rattle.std.proofs.lemmas.Bool.{and_parts, eqb-true, eq-eqb, ltb-true, lt-ltb, true≢false}
use Rattle.indexmap.specs.IndexMap.{insert_entry}
use Rattle.lp_text.specs.Texts.{distinct, place_of, place_of-distinct, same_text-true, text_at, true-same_text}
use Rattle.lp_model.specs.Agreement.{numbers_below}
use Rattle.lp_spec_upf.specs.Commands.{supplies_of}
use Rattle.lp_upf.specs.States.{tables_numbers, tables_view}

some : (a b : ℕ) → Some a ≡ Some b → a ≡ b
some a b e = ap (λ (o : Option ℕ). by o) e
  where
    by : Option ℕ → ℕ
    by None = a
    by (Some x) = x

module _ (names : List (List ℕ)) (d : distinct names ≡ true) where
  one_number : (a b : ℕ) → a < length names → b < length names → text_at names a ≡ text_at names b → a ≡ b
  one_number a b low high e = some a b (sym (place_of-distinct names a d low) ∙ ap (λ (t : List ℕ). place_of t names) e ∙ place_of-distinct names b d high)

  one-name : (a b : ℕ) → a < length names → b < length names → bytes_eq (text_at names a) (text_at names b) ≡ nat_eq b a
  one-name a b low high = by (nat_eq b a) refl
    where
      by : (x : Bool) → nat_eq b a ≡ x → bytes_eq (text_at names a) (text_at names b) ≡ x
      by true e = true-same_text (text_at names a) (text_at names b) (ap (text_at names) (sym (eqb-true b a e)))
      by false e = other (bytes_eq (text_at names a) (text_at names b)) refl
        where
          other : (y : Bool) → bytes_eq (text_at names a) (text_at names b) ≡ y → y ≡ false
          other false t = refl
          other true t = absurd (true≢false (sym (eq-eqb b a (sym (one_number a b low high (same_text-true (text_at names a) (text_at names b) t)))) ∙ e))

  -- a table is found by its number
  pub found : (es : List (ℕ × ℕ)) (n : ℕ) → n < length names → numbers_below (length names) (tables_numbers es) ≡ true → lookup (nat_eq n) es ≡ supplies_of (tables_view names es) (text_at names n)
  found [] n low h = refl
  found (e ∷ es) n low h =
      let both = and_parts (ltb e.0 (length names)) (numbers_below (length names) (tables_numbers es)) h in
      ap (λ (o : Option ℕ). if nat_eq n e.0 then Some e.1 else o) (found es n low both.1)
      ∙ ap (λ (b : Bool). if b then Some e.1 else supplies_of (tables_view names es) (text_at names n)) (sym (one-name e.0 n (ltb-true e.0 (length names) both.0) low))

  absorbed : (b : Bool) (v x : Option ℕ) (rest : Option ℕ) → (if b then v else rest) ≡ (if b then v else if b then x else rest)
  absorbed true v x rest = refl
  absorbed false v x rest = refl

  -- the last table of a name counts
  pub put : (es : List (ℕ × ℕ)) (k v : ℕ) → k < length names → numbers_below (length names) (tables_numbers es) ≡ true → (name : List ℕ)
      → supplies_of (tables_view names (insert_entry nat_eq es k v)) name ≡ (if bytes_eq (text_at names k) name then Some v else supplies_of (tables_view names es) name)
  put [] k v low h name = refl
  put (e ∷ es) k v low h name = by (nat_eq k e.0) refl (put es k v low (and_parts (ltb e.0 (length names)) (numbers_below (length names) (tables_numbers es)) h).1 name)
    where
      both : (ltb e.0 (length names) ≡ true) × (numbers_below (length names) (tables_numbers es) ≡ true)
      both = and_parts (ltb e.0 (length names)) (numbers_below (length names) (tables_numbers es)) h

      rest : Option ℕ
      rest = supplies_of (tables_view names es) name

      apart : nat_eq k e.0 ≡ false → (x y : Bool) → bytes_eq (text_at names e.0) name ≡ x → bytes_eq (text_at names k) name ≡ y → (if x then Some e.1 else if y then Some v else rest) ≡ (if y then Some v else if x then Some e.1 else rest)
      apart n false false p q = refl
      apart n false true p q = refl
      apart n true false p q = refl
      apart n true true p q =
          let same = same_text-true (text_at names k) name q ∙ sym (same_text-true (text_at names e.0) name p) in
          absurd (true≢false (sym (eq-eqb k e.0 (one_number k e.0 low (ltb-true e.0 (length names) both.0) same)) ∙ n))

      by : (b : Bool) → nat_eq k e.0 ≡ b → supplies_of (tables_view names (insert_entry nat_eq es k v)) name ≡ (if bytes_eq (text_at names k) name then Some v else rest)
          → supplies_of (tables_view names (if b then (e.0, v) ∷ es else e ∷ insert_entry nat_eq es k v)) name ≡ (if bytes_eq (text_at names k) name then Some v else if bytes_eq (text_at names e.0) name then Some e.1 else rest)
      by true n more =
          absorbed (bytes_eq (text_at names e.0) name) (Some v) (Some e.1) rest
          ∙ ap (λ (j : ℕ). if bytes_eq (text_at names j) name then Some v else if bytes_eq (text_at names e.0) name then Some e.1 else rest) (sym (eqb-true k e.0 n))
      by false n more =
          ap (λ (o : Option ℕ). if bytes_eq (text_at names e.0) name then Some e.1 else o) more
          ∙ apart n (bytes_eq (text_at names e.0) name) (bytes_eq (text_at names k) name) refl refl

pub put_below : (n : ℕ) (es : List (ℕ × ℕ)) (k v : ℕ) → k < n → numbers_below n (tables_numbers es) ≡ true → numbers_below n (tables_numbers (insert_entry nat_eq es k v)) ≡ true
put_below n [] k v low h = ap (λ (b : Bool). b && true) (lt-ltb k n low)
put_below n (e ∷ es) k v low h = by (nat_eq k e.0) (put_below n es k v low (and_parts (ltb e.0 n) (numbers_below n (tables_numbers es)) h).1)
  where
    both : (ltb e.0 n ≡ true) × (numbers_below n (tables_numbers es) ≡ true)
    both = and_parts (ltb e.0 n) (numbers_below n (tables_numbers es)) h

    by : (b : Bool) → numbers_below n (tables_numbers (insert_entry nat_eq es k v)) ≡ true → numbers_below n (tables_numbers (if b then (e.0, v) ∷ es else e ∷ insert_entry nat_eq es k v)) ≡ true
    by true more = h
    by false more = rw (both.0) more
