-- A reserved word is one of those that begin with its first byte.
use Rattle.std.proofs.Common.{◌≡◌, ℕ, ◌<◌, Bool, true, false, List, [], ◌∷◌, refl, sym, ap, length, map, get_or, ◌≤◌, ◌∙◌, inl, inr, arith}
use Rattle.std.specs.Prelude.{◌&&◌, ◌==◌, bytes_eq, if◌then◌else◌, zero, suc}
use Rattle.std.specs.List.{list_any}
use Rattle.std.proofs.lemmas.Bool.{and_parts, cases_eq, false_from_ne_true}
use Rattle.lp_text.specs.Texts.{has_text, same_text, same_text-true, same_text_comm}
use Rattle.lp_verilog_tokens.specs.Reserved.{reserved_words, words_from}

abbrev pub begins : ℕ → List ℕ → Bool
begins b [] = false
begins b (c ∷ rest) = c == b

-- those of the words that begin with a byte
abbrev pub beginning : ℕ → List (List ℕ) → List (List ℕ)
beginning b [] = []
beginning b (w ∷ ws) = if begins b w then w ∷ beginning b ws else beginning b ws

begins_same : (b : ℕ) (rest w : List ℕ) → begins b w ≡ false → same_text (b ∷ rest) w ≡ false
begins_same b rest w h = false_from_ne_true (same_text (b ∷ rest) w) (λ e. let is : b ∷ rest ≡ w = same_text-true (b ∷ rest) w e in let yes : begins b (b ∷ rest) ≡ true = eq_self b in let f : true ≡ false = sym yes ∙ ap (begins b) is ∙ h in absurd cc)
  where
    eq_self : (n : ℕ) → (n == n) ≡ true
    eq_self n = grind arith

has_beginning : (b : ℕ) (rest : List ℕ) (ws : List (List ℕ)) → has_text (b ∷ rest) ws ≡ has_text (b ∷ rest) (beginning b ws)
has_beginning b rest [] = refl
has_beginning b rest (w ∷ ws) = by (begins b w) refl (has_beginning b rest ws)
  where
    by : (t : Bool) → begins b w ≡ t → has_text (b ∷ rest) ws ≡ has_text (b ∷ rest) (beginning b ws) → has_text (b ∷ rest) (w ∷ ws) ≡ has_text (b ∷ rest) (if t then w ∷ beginning b ws else beginning b ws)
    by true e more = rw more refl
    by false e more = rw (begins_same b rest w e) more

abbrev pub same_words : List (List ℕ) → List (List ℕ) → Bool
same_words [] [] = true
same_words (a ∷ us) (b ∷ vs) = same_text a b && same_words us vs
same_words _ _ = false

same_words-true : (a b : List (List ℕ)) → same_words a b ≡ true → a ≡ b
same_words-true [] [] e = refl
same_words-true (a ∷ us) (b ∷ vs) e =
    let parts = and_parts (same_text a b) (same_words us vs) e in
    rw (same_text-true a b parts.0, same_words-true us vs parts.1) refl
same_words-true [] (b ∷ vs) e = absurd cc
same_words-true (a ∷ us) [] e = absurd cc

abbrev pub same_lists : ℕ → Bool
same_lists zero = true
same_lists (suc n) = same_words (beginning n reserved_words) (words_from n) && same_lists n

same_lists-at : (n b : ℕ) → same_lists n ≡ true → b < n → beginning b reserved_words ≡ words_from b
same_lists-at zero b e l = absurd (omega arith)
same_lists-at (suc n) b e l =
    let parts = and_parts (same_words (beginning n reserved_words) (words_from n)) (same_lists n) e in
    elim (cases_eq b n) [
      | inl is ↦ rw is (same_words-true (beginning n reserved_words) (words_from n) parts.0)
      | inr other ↦ same_lists-at n b parts.1 (omega arith)
    ]

lists : same_lists 256 ≡ true
unfolding reserved_words
lists = refl

reserved_at : (b : ℕ) (rest : List ℕ) → b < 256 → has_text (b ∷ rest) reserved_words ≡ has_text (b ∷ rest) (words_from b)
reserved_at b rest l = has_beginning b rest reserved_words ∙ ap (has_text (b ∷ rest)) (same_lists-at 256 b lists l)

pub reserved_empty : (w : List ℕ) → length w ≡ 0 → has_text w reserved_words ≡ false
unfolding reserved_words
reserved_empty [] e = refl
reserved_empty (b ∷ w) e = absurd (omega arith)

-- a search among texts that are seen by a view
pub among : {X : Type 0} (view : X → List ℕ) (word : List ℕ) (xs : List X) → list_any (λ x. bytes_eq (view x) word) xs ≡ has_text word (map view xs)
among view word [] = refl
among view word (x ∷ xs) = rw (same_text_comm (view x) word, among view word xs) refl

pub reserved_from : (w : List ℕ) → 1 ≤ length w → get_or w 0 0 < 256 → has_text w reserved_words ≡ has_text w (words_from (get_or w 0 0))
reserved_from [] h l = absurd (omega arith)
reserved_from (b ∷ w) h l = reserved_at b w l
