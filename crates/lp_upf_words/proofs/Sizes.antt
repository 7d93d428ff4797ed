-- Words are no longer than their text, and stand in it.
use Rattle.std.proofs.Common.{◌≡◌, ℕ, ◌+◌, ◌<◌, ◌≤◌, Bool, true, false, ◌&&◌, List, [], ◌∷◌, ◌++◌, Option, Some, None, length, length-append, refl, sym, ap, ◌∙◌, arith}
use Rattle.std.specs.Prelude.{ltb, nat_lt, ◌==◌}
use Rattle.std.specs.List.{list_all}
use Rattle.std.proofs.lemmas.Bool.{and_parts, ltb-true, lt-ltb, le-leb}
use Rattle.std.proofs.lemmas.List.Folds.{list_all-append}
use Rattle.lp_text.specs.Places.{past, past_byte}
use Rattle.lp_text.specs.declared.place.Place.{Place}
use Rattle.lp_model.specs.declared.upf.WordForm.{WordForm}
use Rattle.lp_model.specs.declared.upf.WordForm.TheVariants as forms
use Rattle.lp_model.specs.CommandsView.{WordView}
use Rattle.lp_upf_words.specs.Bytes.{characters}
use Rattle.lp_upf_words.specs.Elements.{byte_of, bytes_after}
use Rattle.lp_upf_words.specs.declared.kind.Kind.{Kind}
use Rattle.lp_upf_words.specs.declared.mode.Stop.{Stop}
use Rattle.lp_upf_words.specs.Sizes.{is_within, sizes, sizes_of_all}
use Rattle.lp_upf_words.specs.Words as words
use Rattle.lp_upf_words.specs.Words.{Token, Word, End, Saying, Spells, Stand, Gathered, with_tokens, with_word, with_end}
use Rattle.lp_upf_words.proofs.Content.{come_back}

abbrev pub are_bytes : List ℕ → Bool
are_bytes bytes = list_all (λ b. ltb b 256) bytes

parts : (xs ys : List ℕ) → are_bytes (xs ++ ys) ≡ true → (are_bytes xs ≡ true) × (are_bytes ys ≡ true)
parts xs ys h = and_parts (are_bytes xs) (are_bytes ys) (sym (list_all-append (λ b. ltb b 256) xs ys) ∙ h)

tail : (b : ℕ) (ys : List ℕ) → are_bytes (b ∷ ys) ≡ true → are_bytes ys ≡ true
tail b ys h = (and_parts (ltb b 256) (are_bytes ys) h).1

pub both : (a b : Bool) → a ≡ true → b ≡ true → (a && b) ≡ true
both a b x y = rw (x, y) refl

joined : (xs ys : List ℕ) → are_bytes xs ≡ true → are_bytes ys ≡ true → are_bytes (xs ++ ys) ≡ true
joined xs ys h k = list_all-append (λ b. ltb b 256) xs ys ∙ both (are_bytes xs) (are_bytes ys) h k

-- the content of each word is bytes
pub after_bytes : (lead : Option ℕ) (text : List ℕ) → are_bytes (bytes_after lead text) ≡ true
after_bytes lead [] = refl
after_bytes (Some l) (c ∷ rest) =
    let small : byte_of l c < 256 = omega arith in
    both (ltb (byte_of l c) 256) (are_bytes (bytes_after None rest)) (lt-ltb (byte_of l c) 256 small) (after_bytes None rest)
after_bytes None (c ∷ rest) = by (nat_lt c 128) refl (after_bytes None rest) (after_bytes (Some c) rest)
  where
    by : (b : Bool) → nat_lt c 128 ≡ b → are_bytes (bytes_after None rest) ≡ true → are_bytes (bytes_after (Some c) rest) ≡ true → are_bytes (bytes_after None (c ∷ rest)) ≡ true
    by true e plain lead =
        let low : c < 128 = ltb-true c 128 e in
        let small : c < 256 = omega arith in
        rw (e) (both (ltb c 256) (are_bytes (bytes_after None rest)) (lt-ltb c 256 small) plain)
    by false e plain lead = rw (e) lead

-- ---- places

past_byte_line : (p : Place) (b : ℕ) → (past_byte p b).line ≤ p.line + 1
past_byte_line p b = by (b == 10) refl
  where
    by : (x : Bool) → (b == 10) ≡ x → (past_byte p b).line ≤ p.line + 1
    by true e = rw (e) (omega arith)
    by false e = rw (e) (omega arith)

past_byte_column : (p : Place) (b : ℕ) → (past_byte p b).column ≤ p.column + 1
past_byte_column p b = by (b == 10) refl
  where
    by : (x : Bool) → (b == 10) ≡ x → (past_byte p b).column ≤ p.column + 1
    by true e = rw (e) (omega arith)
    by false e = rw (e) (omega arith)

past_line : (p : Place) (xs : List ℕ) → (past p xs).line ≤ p.line + length xs
past_line p [] = omega arith
past_line p (x ∷ xs) = omega (arith, past_line (past_byte p x) xs, past_byte_line p x)

past_column : (p : Place) (xs : List ℕ) → (past p xs).column ≤ p.column + length xs
past_column p [] = omega arith
past_column p (x ∷ xs) = omega (arith, past_column (past_byte p x) xs, past_byte_column p x)

-- ---- tokens

abbrev word_of : Token → Option WordView
word_of (Word form text p) = Some (record { text = text; form = form; place = p })
word_of (End p) = None

abbrev pub token_sizes : List Token → ℕ
token_sizes [] = 0
token_sizes (Word form text p ∷ ts) = length (bytes_after None text) + token_sizes ts
token_sizes (End p ∷ ts) = token_sizes ts

abbrev pub are_within : ℕ → ℕ → List Token → Bool
are_within m n [] = true
are_within m n (Word form text p ∷ ts) = is_within m n (record { text = text; form = form; place = p }) && are_within m n ts
are_within m n (End p ∷ ts) = are_within m n ts

-- a text from a place on ends within bounds
pub record Bound (m n : ℕ) (p : Place) (text : List ℕ) : Type 0 where
  pub bytes : are_bytes text ≡ true
  pub len : length text ≤ m
  pub line : p.line + length text ≤ n
  pub column : p.column + length text ≤ n

pub record Fits (m n : ℕ) (text : List ℕ) (ts : List Token) : Type 0 where
  pub few : token_sizes ts ≤ length text
  pub within : are_within m n ts ≡ true

module _ (m n : ℕ) where
  on : (p : Place) (front rest text : List ℕ) → length text ≡ length front + length rest → are_bytes rest ≡ true → Bound m n p text → Bound m n (past p front) rest
  on p front rest text e h b = record { bytes = h; len = omega arith; line = omega (arith, past_line p front); column = omega (arith, past_column p front) }

  longer : (rest text : List ℕ) (ts : List Token) → length rest ≤ length text → Fits m n rest ts → Fits m n text ts
  longer rest text ts h f = record { few = omega arith; within = f.within }

  none : (text : List ℕ) → Fits m n text []
  none text = record { few = omega arith; within = refl }

  -- one word, which says bytes of the front
  word : (form : WordForm) (p : Place) (said front rest text : List ℕ) (ts : List Token) → length text ≡ length front + length rest → are_bytes said ≡ true → length said ≤ length front → Bound m n p text → Fits m n rest ts
      → Fits m n text (Word form (characters said) p ∷ ts)
  word form p said front rest text ts e h short b f =
      let back : length (bytes_after None (characters said)) ≡ length said = ap (λ (xs : List ℕ). length xs) (come_back said h) in
      let size : length (bytes_after None (characters said)) ≤ m = omega arith in
      let line : p.line ≤ n = omega arith in
      let column : p.column ≤ n = omega arith in
      record {
        few = omega arith;
        within = rw (le-leb (length (bytes_after None (characters said))) m size, le-leb p.line n line, le-leb p.column n column) f.within;
      }

-- ---- what bytes of a word say

module _ (kind : ℕ → Kind) (q : Bool) where
  said_few : (raw said : List ℕ) → Saying kind q raw said → length said ≤ length raw
  said_few raw said words.Nothing = omega arith
  said_few raw said (words.Plain b r t e more) = let few = said_few r t more in omega arith
  said_few raw said (words.Escaped a b r t eq ea eb more) = let few = said_few r t more in omega arith
  said_few raw said (words.Index a digits b r t ea h sd eb more) =
      let few = said_few r t more in
      omega (arith, length-append digits (b ∷ r), length-append digits (b ∷ t))

  said_bytes : (raw said : List ℕ) → Saying kind q raw said → are_bytes raw ≡ true → are_bytes said ≡ true
  said_bytes raw said words.Nothing h = h
  said_bytes raw said (words.Plain b r t e more) h =
      let p = and_parts (ltb b 256) (are_bytes r) h in
      both (ltb b 256) (are_bytes t) p.0 (said_bytes r t more p.1)
  said_bytes raw said (words.Escaped a b r t eq ea eb more) h =
      let p = and_parts (ltb b 256) (are_bytes r) (tail a (b ∷ r) h) in
      both (ltb b 256) (are_bytes t) p.0 (said_bytes r t more p.1)
  said_bytes raw said (words.Index a digits b r t ea h sd eb more) k =
      let first = and_parts (ltb a 256) (are_bytes (digits ++ (b ∷ r))) k in
      let two = parts digits (b ∷ r) first.1 in
      let p = and_parts (ltb b 256) (are_bytes r) two.1 in
      both (ltb a 256) (are_bytes (digits ++ (b ∷ t))) first.0 (joined digits (b ∷ t) two.0 (both (ltb b 256) (are_bytes t) p.0 (said_bytes r t more p.1)))

-- ---- the words of a text

behind : (inner : List ℕ) (b : ℕ) (rest : List ℕ) → length (inner ++ (b ∷ rest)) ≡ length (inner ++ b ∷ []) + length rest
behind inner b rest = omega (arith, length-append inner (b ∷ rest), length-append inner (b ∷ []))

module _ (kind : ℕ → Kind) (m n : ℕ) where
  ended : (p : Place) (text rest : List ℕ) (ts : List Token) → Fits m n text ts → Fits m n text (End p ∷ ts)
  ended p text rest ts f = record { few = f.few; within = f.within }

  pub fits : (s : Stand) (p : Place) (text : List ℕ) (ts : List Token) (x : Option Stop) → Spells kind s p text ts x → Bound m n p text → Fits m n text ts
  fits s p text ts x (words.Blank s0 p0 b rest ts0 x0 e more) h =
      longer m n rest text ts (omega arith) (fits (words.apart s) (past_byte p b) rest ts x more (on m n p (b ∷ []) rest text (omega arith) (tail b rest h.bytes) h))
  fits s p text ts x (words.Join s0 p0 a b rest ts0 x0 ea eb more) h =
      longer m n rest text ts (omega arith) (fits (words.apart s) (past p (a ∷ b ∷ [])) rest ts x more (on m n p (a ∷ b ∷ []) rest text (omega arith) (tail b rest (tail a (b ∷ rest) h.bytes)) h))
  fits s p text ts x (words.Idle p0 b rest ts0 x0 e more) h =
      longer m n rest text ts (omega arith) (fits words.Fresh (past_byte p b) rest ts x more (on m n p (b ∷ []) rest text (omega arith) (tail b rest h.bytes) h))
  fits s p text ts x (words.Comment p0 a inner b rest ts0 x0 ea hi eb more) h =
      let size = behind inner b rest in
      longer m n rest text ts (omega (arith, size)) (
      fits words.Fresh (past p (a ∷ (inner ++ b ∷ []))) rest ts x more
      (on m n p (a ∷ (inner ++ b ∷ [])) rest text (omega (arith, size)) (tail b rest (parts inner (b ∷ rest) (tail a (inner ++ (b ∷ rest)) h.bytes)).1) h))
  fits s p text ts x (words.LastComment p0 a inner ea hi) h = none m n text
  fits s p text ts x (words.EndOf s0 p0 b rest ts0 x0 begun e more) h =
      ended p text rest ts0 (longer m n rest text ts0 (omega arith) (fits words.Fresh (past_byte p b) rest ts0 x0 more (on m n p (b ∷ []) rest text (omega arith) (tail b rest h.bytes) h)))
  fits s p text ts x (words.Done p0) h = none m n text
  fits s p text ts x (words.DoneIn s0 p0 begun) h = ended p text [] [] (none m n text)
  fits s p text ts x (words.Bare s0 p0 raw said rest ts0 x0 hs some may inner more) h =
      let size = length-append raw rest in
      let two = parts raw rest h.bytes in
      word m n forms.Bare p said raw rest text ts0 size (said_bytes kind false raw said inner two.0) (said_few kind false raw said inner) h
      (fits words.Ended (past p raw) rest ts0 x0 more (on m n p raw rest text size two.1 h))
  fits s p text ts x (words.Braces s0 p0 a inner b rest ts0 x0 hs ea nb eb more) h =
      let size = behind inner b rest in
      let two = parts inner (b ∷ rest) (tail a (inner ++ (b ∷ rest)) h.bytes) in
      word m n forms.Braces p inner (a ∷ (inner ++ b ∷ [])) rest text ts0 (omega (arith, size)) two.0 (omega (arith, length-append inner (b ∷ []))) h
      (fits words.Behind (past p (a ∷ (inner ++ b ∷ []))) rest ts0 x0 more (on m n p (a ∷ (inner ++ b ∷ [])) rest text (omega (arith, size)) (tail b rest two.1) h))
  fits s p text ts x (words.Quotes s0 p0 a raw said b rest ts0 x0 hs ea inner eb more) h =
      let size = behind raw b rest in
      let two = parts raw (b ∷ rest) (tail a (raw ++ (b ∷ rest)) h.bytes) in
      let few = said_few kind true raw said inner in
      word m n forms.Quotes p said (a ∷ (raw ++ b ∷ [])) rest text ts0 (omega (arith, size)) (said_bytes kind true raw said inner two.0) (omega (arith, length-append raw (b ∷ []), few)) h
      (fits words.Behind (past p (a ∷ (raw ++ b ∷ []))) rest ts0 x0 more (on m n p (a ∷ (raw ++ b ∷ [])) rest text (omega (arith, size)) (tail b rest two.1) h))
  fits s p text ts x (words.InBare s0 p0 raw said rest x0 hs may inner f) h = none m n text
  fits s p text ts x (words.InBraces s0 p0 a inner hs ea nb) h = none m n text
  fits s p text ts x (words.InQuotes s0 p0 a raw said rest x0 hs ea inner f) h = none m n text
  fits s p text ts x (words.Glued p0 b rest e) h = none m n text
  fits s p text ts x (words.GluedEscape p0 a b rest ea eb) h = none m n text
  fits s p text ts x (words.LastEscape p0 a ea) h = none m n text

-- ---- the words of commands

sizes-append : (xs : List WordView) (w : WordView) → sizes (xs ++ w ∷ []) ≡ sizes xs + length (bytes_after None w.text)
sizes-append [] w = omega arith
sizes-append (x ∷ xs) w = omega (arith, sizes-append xs w)

all_sizes-append : (xs : List (List WordView)) (line : List WordView) → sizes_of_all (xs ++ line ∷ []) ≡ sizes_of_all xs + sizes line
all_sizes-append [] line = omega arith
all_sizes-append (x ∷ xs) line = omega (arith, all_sizes-append xs line)

pub record AreWithin (m n size : ℕ) (g : Gathered) : Type 0 where
  pub commands : list_all (list_all (is_within m n)) g.commands ≡ true
  pub words : list_all (is_within m n) g.words ≡ true
  pub together : sizes_of_all g.commands + sizes g.words ≤ size

module _ (m n : ℕ) where
  last : (A : Type 0) (good : A → Bool) (xs : List A) (x : A) → list_all good xs ≡ true → good x ≡ true → list_all good (xs ++ x ∷ []) ≡ true
  last A good xs x h e = list_all-append good xs (x ∷ []) ∙ both (list_all good xs) (list_all good (x ∷ [])) h (both (good x) true e refl)

  pub gathers : (ts : List Token) (g : Gathered) (size : ℕ) → AreWithin m n size g → are_within m n ts ≡ true → AreWithin m n (size + token_sizes ts) (with_tokens g ts)
  gathers [] g size h e = record { commands = h.commands; words = h.words; together = let t = h.together in omega arith }
  gathers (Word form text p ∷ ts) g size h e =
      let w : WordView = record { text = text; form = form; place = p } in
      let two = and_parts (is_within m n w) (are_within m n ts) e in
      let t = h.together in
      let more = gathers ts (with_word w g) (size + length (bytes_after None text)) (record {
        commands = h.commands;
        words = last WordView (is_within m n) g.words w h.words two.0;
        together = omega (arith, sizes-append g.words w, t);
      }) two.1 in
      record { commands = more.commands; words = more.words; together = let u = more.together in omega (arith, u) }
  gathers (End p ∷ ts) g size h e =
      let t = h.together in
      gathers ts (with_end p g) size (record {
        commands = last (List WordView) (list_all (is_within m n)) g.commands g.words h.commands h.words;
        words = refl;
        together = omega (arith, all_sizes-append g.commands g.words, t);
      }) e
