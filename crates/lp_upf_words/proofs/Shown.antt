-- The reader's words by the texts of their names, when the table of names grows.
use Rattle.std.proofs.Common.{◌≡◌, ℕ, ◌+◌, ◌<◌, ◌≤◌, ◌&&◌, length-append, true, List, [], ◌∷◌, ◌++◌, length, map, refl, sym, ap, ◌∙◌, arith}
use Rattle.std.specs.Prelude.{ltb}
use Rattle.std.specs.List.{flat_map}
use Rattle.std.proofs.lemmas.Bool.{and_parts, lt-ltb, ltb-true}
use Rattle.std.proofs.lemmas.List.{map-append, append-nil}
use Rattle.std.proofs.lemmas.List.Folds.{list_all-append}
use Rattle.std.proofs.lemmas.List.Concat.{flat_map-append}
use Rattle.lp_text.specs.Texts.{text_at, Grown}
use Rattle.lp_text.specs.declared.place.Place.{Place}
use Rattle.lp_model.specs.declared.upf.UpfWord.{UpfWord}
use Rattle.lp_model.specs.Agreement.{numbers_below, Agree, Agree-left, Agree-right, Agree-grown, map-same}
use Rattle.lp_model.specs.CommandsView.{WordView, word_view, word_numbers, line_view, line_numbers}
use Rattle.lp_upf_words.specs.Words.{Gathered, with_word, with_end}

abbrev pub shown : List (List ℕ) → List (List UpfWord) → List Place → List UpfWord → Gathered
shown names commands ends words = record { commands = map (line_view names) commands; ends = ends; words = line_view names words }

abbrev pub numbers : List (List UpfWord) → List UpfWord → List ℕ
numbers commands words = flat_map line_numbers commands ++ line_numbers words

module _ (old new : List (List ℕ)) where
  word_same : (w : UpfWord) → Agree old new (word_numbers w) → word_view new w ≡ word_view old w
  word_same w a = rw (a.0) refl

  line_same : (words : List UpfWord) → Agree old new (line_numbers words) → line_view new words ≡ line_view old words
  line_same words a = map-same old new word_numbers word_view word_same words a

  -- the table has grown
  pub shown_same : (commands : List (List UpfWord)) (ends : List Place) (words : List UpfWord) → Grown old new → numbers_below (length old) (numbers commands words) ≡ true → shown new commands ends words ≡ shown old commands ends words
  shown_same commands ends words grown below =
      let agree = Agree-grown old new grown (numbers commands words) below in
      let c : map (line_view new) commands ≡ map (line_view old) commands = map-same old new line_numbers line_view line_same commands (Agree-left old new (flat_map line_numbers commands) (line_numbers words) agree) in
      let w : line_view new words ≡ line_view old words = line_same words (Agree-right old new (flat_map line_numbers commands) (line_numbers words) agree) in
      rw (c, w) refl

  -- and the command has one word more
  pub shown_word : (commands : List (List UpfWord)) (ends : List Place) (words : List UpfWord) (w : UpfWord) (text : List ℕ) → Grown old new → numbers_below (length old) (numbers commands words) ≡ true → text_at new w.name.0 ≡ text
      → shown new commands ends (words ++ w ∷ []) ≡ with_word (record { text = text; form = w.form; place = w.place }) (shown old commands ends words)
  shown_word commands ends words w text grown below t =
      let same = shown_same commands ends words grown below in
      let c : map (line_view new) commands ≡ map (line_view old) commands = ap (λ (g : Gathered). g.commands) same in
      let s : line_view new words ≡ line_view old words = ap (λ (g : Gathered). g.words) same in
      let more : line_view new (words ++ w ∷ []) ≡ line_view old words ++ record { text = text; form = w.form; place = w.place } ∷ [] =
      map-append (word_view new) words (w ∷ []) ∙ ap (λ (xs : List WordView). xs ++ word_view new w ∷ []) s ∙ ap (λ x. line_view old words ++ record { text = x; form = w.form; place = w.place } ∷ []) t in
      rw (c, more) refl

-- the command ends
pub shown_end : (names : List (List ℕ)) (commands : List (List UpfWord)) (ends : List Place) (words : List UpfWord) (p : Place) → shown names (commands ++ words ∷ []) (ends ++ p ∷ []) [] ≡ with_end p (shown names commands ends words)
shown_end names commands ends words p = let c : map (line_view names) (commands ++ words ∷ []) ≡ map (line_view names) commands ++ line_view names words ∷ [] = map-append (line_view names) commands (words ∷ []) in rw (c) refl

-- ---- numbers

pub below_more : (m n : ℕ) (xs : List ℕ) → m ≤ n → numbers_below m xs ≡ true → numbers_below n xs ≡ true
below_more m n [] h e = refl
below_more m n (x ∷ xs) h e =
    let both = and_parts (ltb x m) (numbers_below m xs) e in
    let less : x < m = ltb-true x m both.0 in
    let under : x < n = omega arith in
    rw (lt-ltb x n under) (below_more m n xs h both.1)

pub below_join : (n : ℕ) (xs ys : List ℕ) → numbers_below n xs ≡ true → numbers_below n ys ≡ true → numbers_below n (xs ++ ys) ≡ true
below_join n xs ys a b = list_all-append (λ x. ltb x n) xs ys ∙ ap (λ c. c && numbers_below n ys) a ∙ b

pub below_parts : (n : ℕ) (xs ys : List ℕ) → numbers_below n (xs ++ ys) ≡ true → (numbers_below n xs ≡ true) × (numbers_below n ys ≡ true)
below_parts n xs ys h = and_parts (numbers_below n xs) (numbers_below n ys) (sym (list_all-append (λ x. ltb x n) xs ys) ∙ h)

pub word_below : (m n : ℕ) (commands : List (List UpfWord)) (words : List UpfWord) (w : UpfWord) → m ≤ n → numbers_below m (numbers commands words) ≡ true → w.name.0 < n → numbers_below n (numbers commands (words ++ w ∷ [])) ≡ true
word_below m n commands words w h e less =
    let parts = below_parts n (flat_map line_numbers commands) (line_numbers words) (below_more m n (numbers commands words) h e) in
    let one : numbers_below n (w.name.0 ∷ []) ≡ true = rw (lt-ltb w.name.0 n less) refl in
    let more : line_numbers (words ++ w ∷ []) ≡ line_numbers words ++ (w.name.0 ∷ []) = flat_map-append word_numbers words (w ∷ []) in
    below_join n (flat_map line_numbers commands) (line_numbers (words ++ w ∷ [])) parts.0 (ap (numbers_below n) more ∙ below_join n (line_numbers words) (w.name.0 ∷ []) parts.1 one)

pub end_below : (n : ℕ) (commands : List (List UpfWord)) (words : List UpfWord) → numbers_below n (numbers commands words) ≡ true → numbers_below n (numbers (commands ++ words ∷ []) []) ≡ true
end_below n commands words e =
    let same : numbers (commands ++ words ∷ []) [] ≡ numbers commands words = append-nil (flat_map line_numbers (commands ++ words ∷ [])) ∙ flat_map-append line_numbers commands (words ∷ []) ∙ ap (λ xs. flat_map line_numbers commands ++ xs) (append-nil (line_numbers words)) in
    ap (numbers_below n) same ∙ e

pub grown_length : (old new : List (List ℕ)) → Grown old new → length old ≤ length new
grown_length old new grown = let size : length new ≡ length old + length grown.more = ap length grown.is ∙ length-append old grown.more in omega arith
