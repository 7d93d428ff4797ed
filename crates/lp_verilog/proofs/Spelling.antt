-- The bytes of a token spell it wherever they stand before a blank, or before the byte that stood behind them.
use Rattle.std.proofs.Common.{◌≡◌, ℕ, suc, ◌+◌, ◌⊎◌, inl, inr, Bool, true, false, List, [], ◌∷◌, ◌++◌, length, take, drop, Some, None, refl, sym, ap, ◌∙◌, subst, arith, append_assoc}
use Rattle.std.specs.Prelude.{cond, nat_lt, ◌&&◌, ◌||◌, ◌==◌, if◌then◌else◌}
use Rattle.std.specs.List.{list_all, prefix_len}
use Rattle.std.proofs.lemmas.Bool.{true≢false, and_parts, and_from, eqb-true, cases_Bool}
use Rattle.std.proofs.lemmas.Bool.Decides.{nat_tests}
use Rattle.std.proofs.lemmas.List.{take-append-drop}
use Rattle.lp_verilog_tokens.specs.declared.token.Token.{Token}
use Rattle.lp_verilog_tokens.specs.declared.token.Token.TheVariants as tokens
use Rattle.lp_verilog_tokens.specs.declared.gap.GapMode.TheVariants.{Between}
use Rattle.lp_verilog_tokens.specs.declared.gap.Inside.TheVariants as insides
use Rattle.lp_verilog_tokens.specs.Lexical.{is_blank, is_lead, is_digit, is_inner, is_number_byte, is_constant_byte, is_visible}
use Rattle.lp_verilog_tokens.specs.Constants.{number_of, constant_of, constant_with, base_of, are_digits}
use Rattle.lp_verilog_tokens.specs.Cutting.{Lexeme, Named, Plain, Whole, word_lexeme, word_front, quoted_front, number_front, number_at, escaped_front, escaped_at, directive_front, mark_of, front_of, opening, opened, gap_step}
use Rattle.lp_verilog_tokens.proofs.Visible.{front_passes}

abbrev pub heads : (ℕ → Bool) → List ℕ → Bool
heads p [] = false
heads p (c ∷ rest) = p c

-- begins with a blank, or as other bytes do
abbrev pub Like : List ℕ → List ℕ → Type 0
Like ys zs = ((more : List ℕ) × (zs ≡ 32 ∷ more)) ⊎ ((c : ℕ) × (xs more : List ℕ) × (ys ≡ c ∷ xs) × (zs ≡ c ∷ more))

pub like_heads : (p : ℕ → Bool) (ys zs : List ℕ) → Like ys zs → heads p ys ≡ false → p 32 ≡ false → heads p zs ≡ false
like_heads p ys zs (inl blank) h blank_not = ap (heads p) blank.1 ∙ blank_not
like_heads p ys zs (inr same) h blank_not = ap (heads p) same.4 ∙ sym (ap (heads p) same.3) ∙ h

prefix_stop : (p : ℕ → Bool) (xs zs : List ℕ) → list_all p xs ≡ true → heads p zs ≡ false → prefix_len p (xs ++ zs) ≡ length xs
prefix_stop p [] [] h stop = refl
prefix_stop p [] (z ∷ zs) h stop = rw stop refl
prefix_stop p (x ∷ xs) zs h stop =
    let parts = and_parts (p x) (list_all p xs) h in
    let more = prefix_stop p xs zs parts.1 stop in
    rw (parts.0, more) (omega arith)

pub prefix_ends : (p : ℕ → Bool) (xs : List ℕ) → heads p (drop (prefix_len p xs) xs) ≡ false
prefix_ends p [] = refl
prefix_ends p (x ∷ xs) = by (p x) refl (prefix_ends p xs)
  where
    by : (t : Bool) → p x ≡ t → heads p (drop (prefix_len p xs) xs) ≡ false → heads p (drop (cond t (1 + prefix_len p xs) 0) (x ∷ xs)) ≡ false
    by true e more = let next : 1 + prefix_len p xs ≡ suc (prefix_len p xs) = omega arith in rw next more
    by false e more = e

pub take_front : {A : Type 0} (xs ys : List A) → take (length xs) (xs ++ ys) ≡ xs
take_front [] ys = refl
take_front (x ∷ xs) ys = ap (λ r. x ∷ r) (take_front xs ys)

pub drop_front : {A : Type 0} (xs ys : List A) → drop (length xs) (xs ++ ys) ≡ ys
drop_front [] ys = refl
drop_front (x ∷ xs) ys = drop_front xs ys

pub word_cut : (xs zs : List ℕ) → list_all is_inner xs ≡ true → heads is_inner zs ≡ false → word_front (xs ++ zs) ≡ Whole (length xs) (word_lexeme xs)
word_cut xs zs h stop = ap (λ n. Whole n (word_lexeme (take n (xs ++ zs)))) (prefix_stop is_inner xs zs h stop) ∙ ap (λ w. Whole (length xs) (word_lexeme w)) (take_front xs zs)

pub number_cut : (xs zs : List ℕ) → list_all is_number_byte xs ≡ true → heads is_number_byte zs ≡ false → number_at (xs ++ zs) ≡ number_front (length xs) xs zs
number_cut xs zs h stop = ap (λ n. number_front n (take n (xs ++ zs)) (drop n (xs ++ zs))) (prefix_stop is_number_byte xs zs h stop) ∙ ap (λ w. number_front (length xs) w (drop (length xs) (xs ++ zs))) (take_front xs zs) ∙ ap (number_front (length xs) xs) (drop_front xs zs)

pub quoted_cut : (n : ℕ) (run body zs : List ℕ) → list_all is_constant_byte body ≡ true → heads is_constant_byte zs ≡ false → quoted_front n run (body ++ zs) ≡ Whole (n + 1 + length body) (Plain (constant_of run body))
quoted_cut n run body zs h stop = ap (λ m. Whole (n + 1 + m) (Plain (constant_of run (take m (body ++ zs))))) (prefix_stop is_constant_byte body zs h stop) ∙ ap (λ w. Whole (n + 1 + length body) (Plain (constant_of run w))) (take_front body zs)

pub escaped_cut : (name : List ℕ) (c : ℕ) (zs : List ℕ) → list_all is_visible name ≡ true → is_visible c ≡ false → escaped_at (name ++ c ∷ zs) ≡ escaped_front (length name) name (c ∷ zs)
escaped_cut name c zs h stop = ap (λ n. escaped_front n (take n (name ++ c ∷ zs)) (drop n (name ++ c ∷ zs))) (prefix_stop is_visible name (c ∷ zs) h stop) ∙ ap (λ w. escaped_front (length name) w (drop (length name) (name ++ c ∷ zs))) (take_front name (c ∷ zs)) ∙ ap (escaped_front (length name) name) (drop_front name (c ∷ zs))

-- a token that a step may take
abbrev pub may_stand : Lexeme → Bool
may_stand (Named text) = true
may_stand (Plain (tokens.Mark mark)) = true
may_stand (Plain (tokens.Keyword word)) = true
may_stand (Plain (tokens.Number (Some v))) = true
may_stand (Plain (tokens.Constant size value)) = true
may_stand (Plain _) = false

-- the bytes behind the first one of a token, and what stands behind them; they spell it before other bytes too
pub record Bytes (b : ℕ) (rest : List ℕ) (size : ℕ) (lexeme : Lexeme) : Type 0 where
  pub word : List ℕ
  pub left : List ℕ
  pub parts : rest ≡ word ++ left
  pub long : size ≡ suc (length word)
  pub again : (zs : List ℕ) → Like left zs → front_of b (word ++ zs) ≡ Whole size lexeme
  pub begins : (f : Bool) (zs : List ℕ) → Like left zs → gap_step (Between f) b (word ++ zs) ≡ None

same_size : (m n : ℕ) (k l : Lexeme) → Whole m k ≡ Whole n l → m ≡ n
same_size m n k l e = cc

same_lexeme : (m n : ℕ) (k l : Lexeme) → Whole m k ≡ Whole n l → k ≡ l
same_lexeme m n k l e = cc

inner_blank : is_inner 32 ≡ false
unfolding is_inner
inner_blank = refl

pub lead_inner : (b : ℕ) → is_lead b ≡ true → is_inner b ≡ true
unfolding is_lead is_inner
lead_inner b e = grind (arith, nat_tests)

pub blank_hidden : (c : ℕ) → is_blank c ≡ true → is_visible c ≡ false
unfolding is_blank
blank_hidden c e = grind (arith, nat_tests)

lead_sign : (b : ℕ) → is_lead b ≡ true → (is_blank b ≡ false) × ((b == 47) ≡ false) × ((b == 96) ≡ false) × ((b == 40) ≡ false)
unfolding is_lead is_blank
lead_sign b e = (grind (arith, nat_tests), grind (arith, nat_tests), grind (arith, nat_tests), grind (arith, nat_tests))

pub digit_sign : (b : ℕ) → is_digit b ≡ true → (is_blank b ≡ false) × ((b == 47) ≡ false) × ((b == 96) ≡ false) × ((b == 40) ≡ false)
unfolding is_blank
digit_sign b e = (grind (arith, nat_tests), grind (arith, nat_tests), grind (arith, nat_tests), grind (arith, nat_tests))

no_opening : (f : Bool) (b : ℕ) (xs : List ℕ) → (b == 47) ≡ false → (b == 96) ≡ false → ((b == 40) && heads (λ c. c == 42) xs) ≡ false → opening f b xs ≡ None
no_opening f b [] slash quote star = refl
no_opening f b (c ∷ xs) slash quote star = rw (slash, quote, star) refl

pub no_gap : (f : Bool) (b : ℕ) (xs : List ℕ) → is_blank b ≡ false → (b == 47) ≡ false → (b == 96) ≡ false → ((b == 40) && heads (λ c. c == 42) xs) ≡ false → gap_step (Between f) b xs ≡ None
no_gap f b xs blank slash quote star = rw (blank, no_opening f b xs slash quote star) refl

first_all : (p : ℕ → Bool) (b : ℕ) (xs : List ℕ) → p b ≡ true → list_all p xs ≡ true → list_all p (b ∷ xs) ≡ true
first_all p b xs h k = and_from (p b) (list_all p xs) h k

-- words
word_bytes : (b : ℕ) (rest : List ℕ) (size : ℕ) (lexeme : Lexeme) → is_lead b ≡ true → front_of b rest ≡ Whole size lexeme → Bytes b rest size lexeme
word_bytes b rest size lexeme lead front =
    let n = prefix_len is_inner rest in
    let w = take n rest in
    let ys = drop n rest in
    let split : rest ≡ w ++ ys = sym (take-append-drop n rest) in
    let inside : list_all is_inner (b ∷ w) ≡ true = first_all is_inner b w (lead_inner b lead) (front_passes is_inner rest) in
    let cut : (zs : List ℕ) → heads is_inner zs ≡ false → front_of b (w ++ zs) ≡ Whole (length (b ∷ w)) (word_lexeme (b ∷ w)) = λ zs stop. rw lead (word_cut (b ∷ w) zs inside stop) in
    let here : Whole (length (b ∷ w)) (word_lexeme (b ∷ w)) ≡ Whole size lexeme = sym (cut ys (prefix_ends is_inner rest)) ∙ ap (front_of b) (sym split) ∙ front in
    let sign = lead_sign b lead in
    record {
      word = w;
      left = ys;
      parts = split;
      long = sym (same_size (length (b ∷ w)) size (word_lexeme (b ∷ w)) lexeme here);
      again = λ zs like. cut zs (like_heads is_inner ys zs like (prefix_ends is_inner rest) inner_blank) ∙ here;
      begins = λ f zs like. no_gap f b (w ++ zs) sign.0 sign.1 sign.2 (ap (λ x. x && heads (λ c. c == 42) (w ++ zs)) sign.3);
    }

digit_number : (b : ℕ) → is_digit b ≡ true → is_number_byte b ≡ true
digit_number b e = grind (arith, nat_tests)

-- a number, where no quote follows
pub plain_number : (n : ℕ) (run zs : List ℕ) → heads (λ c. c == 39) zs ≡ false → number_front n run zs ≡ Whole n (Plain (tokens.Number (number_of run)))
plain_number n run [] h = refl
plain_number n run (c ∷ zs) h = rw h refl

pub digit_front : (b : ℕ) (xs : List ℕ) → is_lead b ≡ false → is_digit b ≡ true → front_of b xs ≡ number_at (b ∷ xs)
digit_front b xs lead digit = rw (lead, digit) refl

number_bytes : (b : ℕ) (rest : List ℕ) (size : ℕ) (lexeme : Lexeme) → is_lead b ≡ false → is_digit b ≡ true → front_of b rest ≡ Whole size lexeme → Bytes b rest size lexeme
number_bytes b rest size lexeme lead digit front = by ys split (prefix_ends is_number_byte rest)
  where
    n : ℕ
    n = prefix_len is_number_byte rest

    w : List ℕ
    w = take n rest

    ys : List ℕ
    ys = drop n rest

    split : rest ≡ w ++ ys
    split = sym (take-append-drop n rest)

    inside : list_all is_number_byte (b ∷ w) ≡ true
    inside = first_all is_number_byte b w (digit_number b digit) (front_passes is_number_byte rest)

    cut : (zs : List ℕ) → heads is_number_byte zs ≡ false → front_of b (w ++ zs) ≡ number_front (length (b ∷ w)) (b ∷ w) zs
    cut zs stop = digit_front b (w ++ zs) lead digit ∙ number_cut (b ∷ w) zs inside stop

    calm : (f : Bool) (xs : List ℕ) → gap_step (Between f) b xs ≡ None
    calm f xs = let sign = digit_sign b digit in no_gap f b xs sign.0 sign.1 sign.2 (ap (λ x. x && heads (λ c. c == 42) xs) sign.3)

    plain : (left : List ℕ) → rest ≡ w ++ left → heads is_number_byte left ≡ false → heads (λ c. c == 39) left ≡ false → Bytes b rest size lexeme
    plain left parts stop quote =
        let number = Plain (tokens.Number (number_of (b ∷ w))) in
        let here : Whole (length (b ∷ w)) number ≡ Whole size lexeme = sym (plain_number (length (b ∷ w)) (b ∷ w) left quote) ∙ sym (cut left stop) ∙ ap (front_of b) (sym parts) ∙ front in
        record {
          word = w;
          left = left;
          parts = parts;
          long = sym (same_size (length (b ∷ w)) size number lexeme here);
          again = λ zs like. cut zs (like_heads is_number_byte left zs like stop refl) ∙ plain_number (length (b ∷ w)) (b ∷ w) zs (like_heads (λ c. c == 39) left zs like quote refl) ∙ here;
          begins = λ f zs like. calm f (w ++ zs);
        }

    quoted : (c : ℕ) (more : List ℕ) → (c == 39) ≡ true → rest ≡ w ++ c ∷ more → Bytes b rest size lexeme
    quoted c more quote parts =
        let m = prefix_len is_constant_byte more in
        let body = take m more in
        let left = drop m more in
        let is : c ≡ 39 = eqb-true c 39 quote in
        let whole : rest ≡ (w ++ c ∷ body) ++ left = parts ∙ ap (λ r. w ++ c ∷ r) (sym (take-append-drop m more)) ∙ sym (append_assoc w (c ∷ body) left) in
        let constant = Plain (constant_of (b ∷ w) body) in
        let total = length (b ∷ w) + 1 + length body in
        let stop : heads is_number_byte (c ∷ []) ≡ false = ap is_number_byte is in
        let spell : (zs : List ℕ) → heads is_constant_byte zs ≡ false → front_of b ((w ++ c ∷ body) ++ zs) ≡ Whole total constant = λ zs end.
        ap (front_of b) (append_assoc w (c ∷ body) zs) ∙ cut (c ∷ (body ++ zs)) stop ∙ rw quote (quoted_cut (length (b ∷ w)) (b ∷ w) body zs (front_passes is_constant_byte more) end) in
        let here : Whole total constant ≡ Whole size lexeme = sym (spell left (prefix_ends is_constant_byte more)) ∙ ap (front_of b) (sym whole) ∙ front in
        record {
          word = w ++ c ∷ body;
          left = left;
          parts = whole;
          long = sym (same_size total size constant lexeme here) ∙ sizes w c body;
          again = λ zs like. spell zs (like_heads is_constant_byte left zs like (prefix_ends is_constant_byte more) refl) ∙ here;
          begins = λ f zs like. calm f ((w ++ c ∷ body) ++ zs);
        }
      where
        sizes : (xs : List ℕ) (d : ℕ) (zs : List ℕ) → length (b ∷ xs) + 1 + length zs ≡ suc (length (xs ++ d ∷ zs))
        sizes [] d zs = omega arith
        sizes (x ∷ xs) d zs = let more2 = sizes xs d zs in omega (arith, more2)

    by : (left : List ℕ) → rest ≡ w ++ left → heads is_number_byte left ≡ false → Bytes b rest size lexeme
    by [] parts stop = plain [] parts stop refl
    by (c ∷ more) parts stop = elim (cases_Bool (c == 39)) [ inl quote ↦ quoted c more quote parts | inr none ↦ plain (c ∷ more) parts stop none ]

not_broken : (lexeme : Lexeme) → may_stand lexeme ≡ true → (token : Token) → may_stand (Plain token) ≡ false → Plain token ≡ lexeme → ⊥
not_broken lexeme h token bad e = absurd (true≢false (sym h ∙ ap may_stand (sym e) ∙ bad))

-- escaped names
pub escaped_sign : (is_blank 92 ≡ false) × (is_blank 32 ≡ true)
unfolding is_blank
escaped_sign = (refl, refl)

pub escaped_cuts : (xs : List ℕ) → front_of 92 xs ≡ escaped_at xs
unfolding is_lead
escaped_cuts xs = refl

pub escaped_whole : (n c : ℕ) (name zs : List ℕ) → is_blank c ≡ true → nat_lt 0 n ≡ true → escaped_front n name (c ∷ zs) ≡ Whole (n + 1) (Named name)
escaped_whole n c name zs blank some = rw (blank, some) refl

escaped_bytes : (rest : List ℕ) (size : ℕ) (lexeme : Lexeme) → may_stand lexeme ≡ true → front_of 92 rest ≡ Whole size lexeme → Bytes 92 rest size lexeme
escaped_bytes rest size lexeme stands front = let cut = sym (escaped_cuts rest) ∙ front in by (drop n rest) (sym (take-append-drop n rest)) (prefix_ends is_visible rest) cut cut
  where
    n : ℕ
    n = prefix_len is_visible rest

    name : List ℕ
    name = take n rest

    seen : list_all is_visible name ≡ true
    seen = front_passes is_visible rest

    -- the first byte behind the name is a blank
    ended : (c : ℕ) (more : List ℕ) → rest ≡ name ++ c ∷ more → is_visible c ≡ false → is_blank c ≡ true → nat_lt 0 (length name) ≡ true → Whole (length name + 1) (Named name) ≡ Whole size lexeme → Bytes 92 rest size lexeme
    ended c more parts stop blank some here =
        record {
          word = name;
          left = c ∷ more;
          parts = parts;
          long = sym (same_size (length name + 1) size (Named name) lexeme here) ∙ omega arith;
          again = again;
          begins = λ f zs like. no_gap f 92 (name ++ zs) escaped_sign.0 refl refl refl;
        }
      where
        with_blank : (z : ℕ) (zs : List ℕ) → is_blank z ≡ true → front_of 92 (name ++ z ∷ zs) ≡ Whole size lexeme
        with_blank z zs is = escaped_cuts (name ++ z ∷ zs) ∙ escaped_cut name z zs seen (blank_hidden z is) ∙ escaped_whole (length name) z name zs is some ∙ here

        first_same : (a b : ℕ) (xs ys : List ℕ) → a ∷ xs ≡ b ∷ ys → a ≡ b
        first_same a b xs ys e = cc

        again : (zs : List ℕ) → Like (c ∷ more) zs → front_of 92 (name ++ zs) ≡ Whole size lexeme
        again zs (inl is) = ap (λ r. front_of 92 (name ++ r)) is.1 ∙ with_blank 32 is.0 escaped_sign.1
        again zs (inr is) = ap (λ r. front_of 92 (name ++ r)) is.4 ∙ with_blank is.0 is.2 (ap is_blank (sym (first_same c is.0 more is.1 is.3)) ∙ blank)

    by : (left : List ℕ) → rest ≡ name ++ left → heads is_visible left ≡ false → escaped_front n name left ≡ Whole size lexeme → escaped_at rest ≡ Whole size lexeme → Bytes 92 rest size lexeme
    by [] parts stop e e2 = absurd cc
    by (c ∷ more) parts stop e e2 = inside (is_blank c) (nat_lt 0 (length name)) refl refl (sym (escaped_cut name c more seen stop) ∙ ap escaped_at (sym parts) ∙ e2)
      where
        inside : (s t : Bool) → is_blank c ≡ s → nat_lt 0 (length name) ≡ t → (if s && t then Whole (length name + 1) (Named name) else Whole 1 (Plain tokens.Broken)) ≡ Whole size lexeme → Bytes 92 rest size lexeme
        inside true true s t e3 = ended c more parts stop s t e3
        inside true false s t e3 = absurd (not_broken lexeme stands tokens.Broken refl (same_lexeme 1 size (Plain tokens.Broken) lexeme e3))
        inside false t s u e3 = absurd (not_broken lexeme stands tokens.Broken refl (same_lexeme 1 size (Plain tokens.Broken) lexeme e3))

-- ---- all tokens

unsized_bad : (xs : List ℕ) → may_stand (Plain (constant_of [] xs)) ≡ false
unsized_bad [] = refl
unsized_bad (b ∷ xs) = by (nat_lt 0 (base_of b) && are_digits (base_of b) xs)
  where
    by : (t : Bool) → may_stand (Plain (if t then constant_with [] (base_of b) xs else tokens.Broken)) ≡ false
    by true = refl
    by false = refl

directive_bad : (rest : List ℕ) (size : ℕ) (lexeme : Lexeme) → may_stand lexeme ≡ true → directive_front rest ≡ Whole size lexeme → ⊥
directive_bad [] size lexeme stands e = not_broken lexeme stands tokens.Broken refl (same_lexeme 1 size (Plain tokens.Broken) lexeme e)
directive_bad (c ∷ rest) size lexeme stands e = by (is_lead c) e
  where
    by : (t : Bool) → (if t then Whole (prefix_len is_inner (c ∷ rest) + 1) (Plain tokens.Foreign) else Whole 1 (Plain tokens.Broken)) ≡ Whole size lexeme → ⊥
    by true f = not_broken lexeme stands tokens.Foreign refl (same_lexeme (prefix_len is_inner (c ∷ rest) + 1) size (Plain tokens.Foreign) lexeme f)
    by false f = not_broken lexeme stands tokens.Broken refl (same_lexeme 1 size (Plain tokens.Broken) lexeme f)

mark_bytes : (f : Bool) (b : ℕ) (rest : List ℕ) (size : ℕ) (lexeme : Lexeme) → may_stand lexeme ≡ true → (b == 96) ≡ false → ((zs : List ℕ) → front_of b zs ≡ Whole 1 (Plain (mark_of b))) → gap_step (Between f) b rest ≡ None → front_of b rest ≡ Whole size lexeme → Bytes b rest size lexeme
mark_bytes f b rest size lexeme stands quote cut none front =
    record {
      word = [];
      left = rest;
      parts = refl;
      long = sym (same_size 1 size (Plain (mark_of b)) lexeme here);
      again = λ zs like. cut zs ∙ here;
      begins = λ g zs like. no_gap g b zs blank slash quote (star zs like);
    }
  where
    here : Whole 1 (Plain (mark_of b)) ≡ Whole size lexeme
    here = sym (cut rest) ∙ front

    blank : is_blank b ≡ false
    blank = by (is_blank b) refl
      where
        by : (t : Bool) → is_blank b ≡ t → t ≡ false
        by true is = let some : gap_step (Between f) b rest ≡ Some (Between (f || (b == 10))) = rw is refl in let no : Some (Between (f || (b == 10))) ≡ None = sym some ∙ none in absurd cc
        by false is = refl

    slash : (b == 47) ≡ false
    slash = by (b == 47) refl
      where
        by : (t : Bool) → (b == 47) ≡ t → t ≡ false
        by true is = absurd (not_broken lexeme stands (mark_of b) (ap (λ c. may_stand (Plain (mark_of c))) (eqb-true b 47 is)) (same_lexeme 1 size (Plain (mark_of b)) lexeme here))
        by false is = refl

    no_star : (xs : List ℕ) → gap_step (Between f) b xs ≡ None → ((b == 40) && heads (λ c. c == 42) xs) ≡ false
    no_star [] e = by (b == 40)
      where
        by : (t : Bool) → (t && false) ≡ false
        by true = refl
        by false = refl
    no_star (c ∷ xs) e = by ((b == 40) && (c == 42)) refl
      where
        by : (t : Bool) → ((b == 40) && (c == 42)) ≡ t → t ≡ false
        by true is = let some : gap_step (Between f) b (c ∷ xs) ≡ opened (Some insides.Attribute) = rw (blank, slash, is) refl in let no : opened (Some insides.Attribute) ≡ None = sym some ∙ e in absurd cc
        by false is = refl

    star : (zs : List ℕ) → Like rest zs → ((b == 40) && heads (λ c. c == 42) zs) ≡ false
    star zs like = by (b == 40) (no_star rest none)
      where
        by : (t : Bool) → (t && heads (λ c. c == 42) rest) ≡ false → (t && heads (λ c. c == 42) zs) ≡ false
        by true e = like_heads (λ c. c == 42) rest zs like e refl
        by false e = refl

pub token_bytes : (f : Bool) (b : ℕ) (rest : List ℕ) (size : ℕ) (lexeme : Lexeme) → may_stand lexeme ≡ true → gap_step (Between f) b rest ≡ None → front_of b rest ≡ Whole size lexeme → Bytes b rest size lexeme
token_bytes f b rest size lexeme stands none front = lead (is_lead b) refl
  where
    sign : is_lead b ≡ false → is_digit b ≡ false → (s1 s2 s3 : Bool) → (b == 39) ≡ s1 → (b == 92) ≡ s2 → (b == 96) ≡ s3 → Bytes b rest size lexeme
    sign l d true s2 s3 e1 e2 e3 =
        let cut : front_of b rest ≡ quoted_front 0 [] rest = rw (l, d, e1) refl in
        let m = prefix_len is_constant_byte rest in
        absurd (not_broken lexeme stands (constant_of [] (take m rest)) (unsized_bad (take m rest)) (same_lexeme (0 + 1 + m) size (Plain (constant_of [] (take m rest))) lexeme (sym cut ∙ front)))
    sign l d false true s3 e1 e2 e3 =
        let is : b ≡ 92 = eqb-true b 92 e2 in
        subst (λ c. Bytes c rest size lexeme) (sym is) (escaped_bytes rest size lexeme stands (ap (λ c. front_of c rest) (sym is) ∙ front))
    sign l d false false true e1 e2 e3 =
        let cut : front_of b rest ≡ directive_front rest = rw (l, d, e1, e2, e3) refl in
        absurd (directive_bad rest size lexeme stands (sym cut ∙ front))
    sign l d false false false e1 e2 e3 = mark_bytes f b rest size lexeme stands e3 (λ zs. rw (l, d, e1, e2, e3) refl) none front

    digit : is_lead b ≡ false → (t : Bool) → is_digit b ≡ t → Bytes b rest size lexeme
    digit l true d = number_bytes b rest size lexeme l d front
    digit l false d = sign l d (b == 39) (b == 92) (b == 96) refl refl refl

    lead : (t : Bool) → is_lead b ≡ t → Bytes b rest size lexeme
    lead true l = word_bytes b rest size lexeme l front
    lead false l = digit l (is_digit b) refl
