-- The set's words on the owned texts, as words on their bytes.
use Rattle.std.proofs.Common.{◌≡◌, ℕ, ◌+◌, Bool, true, false, not, ◌||◌, cond, List, [], ◌∷◌, length, Option, None, Some, refl, sym, ap, ◌∙◌, arith, position, take, drop, get_or, ◌++◌, ◌<◌, suc, Result, Ok, Err, OnErr}
use Rattle.std.specs.Prelude.{map}
use Rattle.std.specs.List.{list_any, position_from}
use Rattle.std.specs.Option.{option_map}
use Rattle.std.proofs.lemmas.List.{take-append-drop, drop_more}
use Rattle.std.proofs.lemmas.Iterator.Adapters.{position_from-zero}
use Rattle.lp_text.specs.Texts.{same_text, has_text, place_of, distinct, distinct-repeated}

module _ {K : Type 0} (bytes : K → List ℕ) (text : List ℕ) where
  pub has_text-map : (keys : List K) → list_any (λ key. same_text text (bytes key)) keys ≡ has_text text (map bytes keys)
  has_text-map [] = refl
  has_text-map (key ∷ keys) = ap (λ b. same_text text (bytes key) || b) (has_text-map keys)

  position_from-map : (keys : List K) (start : ℕ) → position_from (λ key. same_text text (bytes key)) start keys ≡ option_map (λ n. start + n) (place_of text (map bytes keys))
  position_from-map [] start = refl
  position_from-map (key ∷ keys) start = by (same_text text (bytes key)) (place_of text (map bytes keys)) (position_from-map keys (start + 1))
    where
      by : (b : Bool) (r : Option ℕ) → position_from (λ k. same_text text (bytes k)) (start + 1) keys ≡ option_map (λ n. start + 1 + n) r → cond b (Some start) (position_from (λ k. same_text text (bytes k)) (start + 1) keys) ≡ option_map (λ n. start + n) (cond b (Some 0) (option_map suc r))
      by true r e = let same : start ≡ start + 0 = omega arith in ap (λ n. Some n) same
      by false None e = e
      by false (Some k) e = let same : start + 1 + k ≡ start + suc k = omega arith in e ∙ ap (λ n. Some n) same

  -- `get_index_of` finds the place
  pub position-map : (keys : List K) → position (λ key. same_text text (bytes key)) keys ≡ place_of text (map bytes keys)
  position-map keys = position_from-zero (λ key. same_text text (bytes key)) keys ∙ position_from-map keys 0 ∙ from_zero (place_of text (map bytes keys))
    where
      from_zero : (r : Option ℕ) → option_map (λ n. 0 + n) r ≡ r
      from_zero None = refl
      from_zero (Some k) = let same : 0 + k ≡ k = omega arith in ap (λ n. Some n) same

-- a fact that holds in any case holds at an error
pub OnErr-always : {T E P : Type 0} (r : Result T E) → P → OnErr r P
OnErr-always (Ok x) p = tt
OnErr-always (Err e) p = p

-- a text that stands before already
pub distinct-take_repeated : (texts : List (List ℕ)) (i : ℕ) → i < length texts → has_text (get_or texts i []) (take i texts) ≡ true → distinct texts ≡ false
distinct-take_repeated texts i h e =
    let parts : take i texts ++ get_or texts i [] ∷ drop (i + 1) texts ≡ texts = ap (λ rest. take i texts ++ rest) (sym (drop_more texts i [] h)) ∙ take-append-drop i texts in
    sym (ap distinct parts) ∙ distinct-repeated (take i texts) (get_or texts i []) (drop (i + 1) texts) e

pub true-from_not : (b : Bool) → not b ≡ false → b ≡ true
true-from_not true e = refl
true-from_not false e = sym e
