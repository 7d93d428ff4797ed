-- Things by their keys, and by what the keys are equal for.
use Rattle.std.proofs.Common.{◌≡◌, inl, inr, ℕ, ◌≤◌, suc, zero, Bool, true, false, ◌&&◌, ◌||◌, List, [], ◌∷◌, ◌++◌, map, length, Option, Some, None, refl, sym, ap, ◌∙◌, arith}
use Rattle.std.specs.Prelude.{nat_le, if◌then◌else◌, slice_index_or, bytes_eq, unwrap_or}
use Rattle.std.specs.List.{list_any, list_all, position}
use Rattle.std.specs.Option.{option_map}
use Rattle.std.proofs.lemmas.Bool.{eqb-true, eq-eqb, false≢true}
use Rattle.std.proofs.lemmas.List.{length-map, map-append}
use Rattle.std.proofs.lemmas.Bool.Decides.{leb_tells}
use Rattle.lp_choice.proofs.Slots.{slot, position-slot}
use Rattle.lp_expr.specs.Formula.{Formula, truth}
use Rattle.lp_text.specs.Texts.{text_at, place_of, place_of-Some, place_of-None, has_text-at, same_text-true, true-same_text}
use Rattle.lp_text.specs.declared.names.NameId.{NameId}
use Rattle.lp_model.specs.Agreement.{name_texts}
use Rattle.lp_spec_design.specs.Keys.{same_bool}
use Rattle.lp_spec_fit.specs.Equality.{choices, once, chosen, are_equal}
use Rattle.lp_choice.specs.Keys.{key_of, keys_of, same_key}
use Rattle.lp_choice.specs.Wires.{bit_at, level, agree, named_wire}

-- ---- slots of choices

bit-behind : (b : Bool) (c : List Bool) (o : Option ℕ) → bit_at (b ∷ c) (option_map suc o) ≡ bit_at c o
bit-behind b c None = refl
bit-behind b c (Some s) = refl

bit-nowhere : (o : Option ℕ) → bit_at [] o ≡ false
bit-nowhere None = refl
bit-nowhere (Some s) = refl

chosen-slot : {K : Type 0} (same : K → K → Bool) (js : List K) (c : List Bool) (k : K) → bit_at c (slot (λ j. same j k) js) ≡ chosen same js c k
chosen-slot same [] c k = refl
chosen-slot same (j ∷ js) [] k = bit-nowhere (slot (λ l. same l k) (j ∷ js))
chosen-slot same (j ∷ js) (b ∷ c) k = by (same j k) (chosen-slot same js c k)
  where
    by : (s : Bool) → bit_at c (slot (λ l. same l k) js) ≡ chosen same js c k
        → bit_at (b ∷ c) (if s then Some 0 else option_map suc (slot (λ l. same l k) js)) ≡ (if s then b else chosen same js c k)
    by true rest = refl
    by false rest = bit-behind b c (slot (λ l. same l k) js) ∙ rest

-- what a choice gives to one of its things stands at the slot of it
pub chosen-bit : {K : Type 0} (same : K → K → Bool) (js : List K) (c : List Bool) (k : K) → bit_at c (position (λ j. same j k) js) ≡ chosen same js c k
chosen-bit same js c k = ap (bit_at c) (position-slot (λ j. same j k) js) ∙ chosen-slot same js c k

-- ---- things with keys

module _ {A K : Type 0} (same : K → K → Bool) (text : A → K) (key : A → ℕ) (agrees : (a b : A) → same_key (key a) (key b) ≡ same (text a) (text b)) where
  abbrev alike : A → A → Bool
  alike a b = same (text a) (text b)

  any-key : (a : A) (xs : List A) → list_any (same_key (key a)) (map key xs) ≡ list_any (alike a) xs
  any-key a [] = refl
  any-key a (x ∷ xs) = λ i. agrees a x i || any-key a xs i

  any-text : (a : A) (xs : List A) → list_any (same (text a)) (map text xs) ≡ list_any (alike a) xs
  any-text a [] = refl
  any-text a (x ∷ xs) = ap (λ b. alike a x || b) (any-text a xs)

  map-if : {B : Type 0} (f : A → B) (b : Bool) (x : A) (xs : List A) → (if b then map f xs else f x ∷ map f xs) ≡ map f (if b then xs else x ∷ xs)
  map-if f true x xs = refl
  map-if f false x xs = refl

  pub once-key : (xs : List A) → once same_key (map key xs) ≡ map key (once alike xs)
  once-key [] = refl
  once-key (x ∷ xs) = (λ i. if any-key x xs i then once-key xs i else key x ∷ once-key xs i) ∙ map-if key (list_any (alike x) xs) x (once alike xs)

  pub once-text : (xs : List A) → once same (map text xs) ≡ map text (once alike xs)
  once-text [] = refl
  once-text (x ∷ xs) = (λ i. if any-text x xs i then once-text xs i else text x ∷ once-text xs i) ∙ map-if text (list_any (alike x) xs) x (once alike xs)

  slot-key : (a : A) (xs : List A) → slot (λ other. same_key other (key a)) (map key xs) ≡ slot (λ other. same other (text a)) (map text xs)
  slot-key a [] = refl
  slot-key a (x ∷ xs) = λ i. if agrees x a i then Some 0 else option_map suc (slot-key a xs i)

  place-key : (a : A) (xs : List A) → position (λ other. same_key other (key a)) (map key xs) ≡ position (λ other. same other (text a)) (map text xs)
  place-key a xs = position-slot (λ other. same_key other (key a)) (map key xs) ∙ (slot-key a xs ∙ sym (position-slot (λ other. same other (text a)) (map text xs)))

  -- the value of a thing where it stands among others
  pub level-key : (xs : List A) (c : List Bool) (a : A)
      → bit_at c (position (λ other. same_key other (key a)) (once same_key (map key xs))) ≡ chosen same (once same (map text xs)) c (text a)
  level-key xs c a =
      ap (λ ks. bit_at c (position (λ other. same_key other (key a)) ks)) (once-key xs)
      ∙ (ap (bit_at c) (place-key a (once alike xs))
      ∙ (ap (λ ks. bit_at c (position (λ other. same other (text a)) ks)) (sym (once-text xs))
      ∙ chosen-bit same (once same (map text xs)) c (text a)))

  pub count-key : (xs : List A) → length (once same_key (map key xs)) ≡ length (once same (map text xs))
  count-key xs = ap length (once-key xs) ∙ (length-map (once alike xs) key ∙ (sym (length-map (once alike xs) text) ∙ sym (ap length (once-text xs))))

-- ---- names

module _ (texts : List (List ℕ)) where
  text-beyond : (xs : List (List ℕ)) (k : ℕ) → length xs ≤ k → slice_index_or xs k [] ≡ []
  text-beyond [] k h = refl
  text-beyond (x ∷ xs) zero h = absurd (omega (arith, h))
  text-beyond (x ∷ xs) (suc k) h = text-beyond xs k (omega (arith, h))

  no-place : (a : ℕ) → place_of (text_at texts a) texts ≡ None → text_at texts a ≡ []
  no-place a e = elim (leb_tells (length texts) a) [
    | inl h ↦ text-beyond texts a h.1
    | inr h ↦ absurd (false≢true (sym (place_of-None (text_at texts a) texts e) ∙ has_text-at texts a h.1))
  ]

  one-key : (a b : ℕ) → key_of texts a ≡ key_of texts b → text_at texts a ≡ text_at texts b
  one-key a b e = by (place_of (text_at texts a) texts) refl (place_of (text_at texts b) texts) refl e
    where
      by : (r : Option ℕ) → place_of (text_at texts a) texts ≡ r → (s : Option ℕ) → place_of (text_at texts b) texts ≡ s → unwrap_or r (length texts) ≡ unwrap_or s (length texts) → text_at texts a ≡ text_at texts b
      by None p None q f = no-place a p ∙ sym (no-place b q)
      by (Some i) p (Some j) q f = sym (place_of-Some (text_at texts a) texts i p).1 ∙ (ap (λ k. slice_index_or texts k []) f ∙ (place_of-Some (text_at texts b) texts j q).1)
      by (Some i) p None q f = let h = (place_of-Some (text_at texts a) texts i p).0 in absurd (omega (arith, h, f))
      by None p (Some j) q f = let h = (place_of-Some (text_at texts b) texts j q).0 in absurd (omega (arith, h, f))

  name-agrees : (a b : NameId) → same_key (key_of texts a.0) (key_of texts b.0) ≡ bytes_eq (text_at texts a.0) (text_at texts b.0)
  name-agrees a b = by (bytes_eq (text_at texts a.0) (text_at texts b.0)) refl (same_key (key_of texts a.0) (key_of texts b.0)) refl
    where
      by : (s : Bool) → bytes_eq (text_at texts a.0) (text_at texts b.0) ≡ s → (r : Bool) → same_key (key_of texts a.0) (key_of texts b.0) ≡ r → r ≡ s
      by true e true f = refl
      by false e false f = refl
      by true e false f = absurd (false≢true (sym f ∙ eq-eqb (key_of texts a.0) (key_of texts b.0) (ap (λ t. unwrap_or (place_of t texts) (length texts)) (same_text-true (text_at texts a.0) (text_at texts b.0) e))))
      by false e true f = absurd (false≢true (sym e ∙ true-same_text (text_at texts a.0) (text_at texts b.0) (one-key a.0 b.0 (eqb-true (key_of texts a.0) (key_of texts b.0) f))))

  abbrev text_of : NameId → List ℕ
  text_of n = text_at texts n.0

  abbrev number_of : NameId → ℕ
  number_of n = key_of texts n.0

  values-named : (xs : List NameId) (c : List Bool) (vs : List NameId)
      → map (level c) (map (named_wire texts (once same_key (keys_of texts xs))) vs) ≡ map (chosen bytes_eq (once bytes_eq (name_texts texts xs)) c) (name_texts texts vs)
  values-named xs c [] = refl
  values-named xs c (v ∷ vs) = λ i. level-key bytes_eq text_of number_of name-agrees xs c v i ∷ values-named xs c vs i

  abbrev Named : Formula → List NameId → (List ℕ → Bool) → Bool
  Named e vs v = truth e.steps (map v (name_texts texts vs))

  agree-among : (xs : List NameId) (e f : Formula) (vs ws : List NameId) → (let keys = once same_key (keys_of texts xs) in agree e (map (named_wire texts keys) vs) f (map (named_wire texts keys) ws) (length keys)) ≡ are_equal bytes_eq (name_texts texts xs) (Named e vs) (Named f ws)
  agree-among xs e f vs ws = λ i.
      nat_le (count-key bytes_eq text_of number_of name-agrees xs i) 12
      && list_all (λ c. same_bool (truth e.steps (values-named xs c vs i)) (truth f.steps (values-named xs c ws i))) (choices (count-key bytes_eq text_of number_of name-agrees xs i))

  -- two functions of names are equal where they agree by the keys of the names
  pub agree-named : (e f : Formula) (vs ws : List NameId) (keys : List ℕ) → keys ≡ once same_key (keys_of texts vs ++ keys_of texts ws)
      → agree e (map (named_wire texts keys) vs) f (map (named_wire texts keys) ws) (length keys) ≡ are_equal bytes_eq (name_texts texts vs ++ name_texts texts ws) (Named e vs) (Named f ws)
  agree-named e f vs ws keys is =
      ap (λ ks. agree e (map (named_wire texts ks) vs) f (map (named_wire texts ks) ws) (length ks)) (is ∙ ap (λ ks. once same_key ks) (sym (map-append number_of vs ws)))
      ∙ (agree-among (vs ++ ws) e f vs ws
      ∙ ap (λ ns. are_equal bytes_eq ns (Named e vs) (Named f ws)) (map-append text_of vs ws))
