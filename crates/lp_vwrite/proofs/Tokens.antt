-- How the words of a written text are cut: each in front of what follows it.
use Rattle.std.proofs.Common.{◌≡◌, ℕ, suc, ◌+◌, ◌*◌, ◌-◌, ◌<◌, ◌≤◌, Bool, true, false, not, cond, List, [], ◌∷◌, ◌++◌, length, take, drop, Option, None, Some, refl, sym, ap, ◌∙◌, arith}
use Rattle.std.specs.Prelude.{IsTrue, ◌&&◌, ◌||◌, ◌==◌, nat_le, nat_lt, decimal, codes, if◌then◌else◌}
use Rattle.std.specs.List.{list_all, prefix_len}
use Rattle.std.proofs.lemmas.Bool.{and_parts, and_from}
use Rattle.std.proofs.lemmas.Bool.Decides.{nat_tests}
use Rattle.std.proofs.Math.Seq.{take-append_seam, drop-append_seam}
use Rattle.std.proofs.lemmas.Fmt.{decimal_is_IsNumeral}
use Rattle.std.specs.Str.Parse.{AllDigits, digits_value_after}
use Rattle.std.specs.Char.{digit_value}
use Rattle.lp_verilog_tokens.specs.Lexical.{is_blank, is_lead, is_digit, is_inner, is_number_byte, is_constant_byte, is_visible}
use Rattle.lp_verilog_tokens.specs.Constants.{number_behind, number_of}
use Rattle.lp_verilog_tokens.specs.Cutting.{Lexeme, Named, Plain, Whole, Front, placed, opening, gap_behind, piece_behind, front_of, word_front, word_lexeme, number_at, number_front, escaped_front, mark_of}
use Rattle.lp_verilog_tokens.specs.declared.gap.GapMode.TheVariants.{Between}
use Rattle.lp_verilog_tokens.specs.declared.token.Token.TheVariants as tokens
use Rattle.lp_verilog_tokens.specs.declared.token.Mark.TheVariants as marks

-- a word at the front of a text is cut as this token
pub record Begins (l : Lexeme) (word rest : List ℕ) : Type 0 where
  pub first : (fresh : Bool) (n : ℕ) → gap_behind (Between fresh) n (word ++ rest) ≡ Some n
  pub piece : (end gap : ℕ) → piece_behind end gap (word ++ rest) ≡ Some (record { gap = gap; size = length word; lexeme = l })
  pub filled : 1 ≤ length word

not_opening : (fresh : Bool) (b : ℕ) (rest : List ℕ) → (b == 47) ≡ false → (b == 40) ≡ false → (b == 96) ≡ false → opening fresh b rest ≡ None
not_opening fresh b [] h k l = refl
not_opening fresh b (c ∷ rest) h k l = rw (h, k, l) refl

starts : (fresh : Bool) (n b : ℕ) (rest : List ℕ) → is_blank b ≡ false → opening fresh b rest ≡ None → gap_behind (Between fresh) n (b ∷ rest) ≡ Some n
starts fresh n b rest h k = rw (h, k) refl

-- a byte that begins no gap
record Starts (b : ℕ) : Type 0 where
  solid : is_blank b ≡ false
  slash : (b == 47) ≡ false
  paren : (b == 40) ≡ false
  quote : (b == 96) ≡ false

begins_by : (l : Lexeme) (b : ℕ) (word rest : List ℕ) → Starts b → front_of b (word ++ rest) ≡ Whole (suc (length word)) l → Begins l (b ∷ word) rest
begins_by l b word rest s f = record {
  first = λ fresh n. starts fresh n b (word ++ rest) s.solid (not_opening fresh b (word ++ rest) s.slash s.paren s.quote);
  piece = λ end gap. ap (λ (x : Front). Some (placed end gap x)) f;
  filled = omega arith;
}

-- ---- runs of bytes

pub prefix_whole : (p : ℕ → Bool) (xs ys : List ℕ) → IsTrue (list_all p xs) → prefix_len p ys ≡ 0 → prefix_len p (xs ++ ys) ≡ length xs
prefix_whole p [] ys h k = k
prefix_whole p (x ∷ xs) ys h k =
    let parts = and_parts (p x) (list_all p xs) h in
    rw (parts.0, prefix_whole p xs ys parts.1 k) (omega arith)

-- ---- marks

mark_begins : (b : ℕ) (rest : List ℕ) → is_blank b ≡ false → is_lead b ≡ false → (is_digit b || ((b == 39) || ((b == 92) || ((b == 96) || ((b == 47) || (b == 40)))))) ≡ false → Begins (Plain (mark_of b)) (b ∷ []) rest
mark_begins b rest blank lead others =
    begins_by (Plain (mark_of b)) b [] rest (record { solid = blank; slash = slash_no; paren = paren_no; quote = back_no }) (rw (lead, digit_no, quote_no, escape_no, back_no) refl)
  where
    digit_no : is_digit b ≡ false
    digit_no = grind (arith, nat_tests)

    quote_no : (b == 39) ≡ false
    quote_no = grind (arith, nat_tests)

    escape_no : (b == 92) ≡ false
    escape_no = grind (arith, nat_tests)

    back_no : (b == 96) ≡ false
    back_no = grind (arith, nat_tests)

    slash_no : (b == 47) ≡ false
    slash_no = grind (arith, nat_tests)

    paren_no : (b == 40) ≡ false
    paren_no = grind (arith, nat_tests)

pub close_begins : (rest : List ℕ) → Begins (Plain (tokens.Mark marks.Close)) (41 ∷ []) rest
unfolding is_blank is_lead
close_begins rest = mark_begins 41 rest refl refl refl

pub comma_begins : (rest : List ℕ) → Begins (Plain (tokens.Mark marks.Comma)) (44 ∷ []) rest
unfolding is_blank is_lead
comma_begins rest = mark_begins 44 rest refl refl refl

pub semicolon_begins : (rest : List ℕ) → Begins (Plain (tokens.Mark marks.Semicolon)) (59 ∷ []) rest
unfolding is_blank is_lead
semicolon_begins rest = mark_begins 59 rest refl refl refl

pub colon_begins : (rest : List ℕ) → Begins (Plain (tokens.Mark marks.Colon)) (58 ∷ []) rest
unfolding is_blank is_lead
colon_begins rest = mark_begins 58 rest refl refl refl

pub dot_begins : (rest : List ℕ) → Begins (Plain (tokens.Mark marks.Dot)) (46 ∷ []) rest
unfolding is_blank is_lead
dot_begins rest = mark_begins 46 rest refl refl refl

pub equals_begins : (rest : List ℕ) → Begins (Plain (tokens.Mark marks.Equals)) (61 ∷ []) rest
unfolding is_blank is_lead
equals_begins rest = mark_begins 61 rest refl refl refl

pub open_bracket_begins : (rest : List ℕ) → Begins (Plain (tokens.Mark marks.OpenBracket)) (91 ∷ []) rest
unfolding is_blank is_lead
open_bracket_begins rest = mark_begins 91 rest refl refl refl

pub close_bracket_begins : (rest : List ℕ) → Begins (Plain (tokens.Mark marks.CloseBracket)) (93 ∷ []) rest
unfolding is_blank is_lead
close_bracket_begins rest = mark_begins 93 rest refl refl refl

pub open_brace_begins : (rest : List ℕ) → Begins (Plain (tokens.Mark marks.OpenBrace)) (123 ∷ []) rest
unfolding is_blank is_lead
open_brace_begins rest = mark_begins 123 rest refl refl refl

pub close_brace_begins : (rest : List ℕ) → Begins (Plain (tokens.Mark marks.CloseBrace)) (125 ∷ []) rest
unfolding is_blank is_lead
close_brace_begins rest = mark_begins 125 rest refl refl refl

-- what begins with no star
abbrev pub is_starless : List ℕ → Bool
is_starless [] = true
is_starless (b ∷ rest) = not (b == 42)

not_attribute : (fresh : Bool) (rest : List ℕ) → is_starless rest ≡ true → opening fresh 40 rest ≡ None
not_attribute fresh [] h = refl
not_attribute fresh (c ∷ rest) h = by (c == 42) refl
  where
    by : (t : Bool) → (c == 42) ≡ t → opening fresh 40 (c ∷ rest) ≡ None
    by true e = let no : false ≡ true = sym (ap not e) ∙ h in absurd cc
    by false e = rw e refl

-- `(` in front of no star
pub open_begins : (rest : List ℕ) → is_starless rest ≡ true → Begins (Plain (tokens.Mark marks.Open)) (40 ∷ []) rest
unfolding is_blank is_lead
open_begins rest h = record {
  first = λ fresh n. starts fresh n 40 rest refl (not_attribute fresh rest h);
  piece = λ end gap. refl;
  filled = omega arith;
}

-- ---- words

-- what ends a word and a constant
abbrev pub is_apart : List ℕ → Bool
is_apart [] = true
is_apart (b ∷ rest) = not (is_inner b) && not (is_constant_byte b)

apart_inner : (rest : List ℕ) → is_apart rest ≡ true → prefix_len is_inner rest ≡ 0
apart_inner [] h = refl
apart_inner (b ∷ rest) h = by (is_inner b) refl
  where
    by : (t : Bool) → is_inner b ≡ t → cond (is_inner b) (1 + prefix_len is_inner rest) 0 ≡ 0
    by true e = let no : false ≡ true = sym (ap not e) ∙ (and_parts (not (is_inner b)) (not (is_constant_byte b)) h).0 in absurd cc
    by false e = rw e refl

apart_constant : (rest : List ℕ) → is_apart rest ≡ true → prefix_len is_constant_byte rest ≡ 0
apart_constant [] h = refl
apart_constant (b ∷ rest) h = by (is_constant_byte b) refl
  where
    by : (t : Bool) → is_constant_byte b ≡ t → cond (is_constant_byte b) (1 + prefix_len is_constant_byte rest) 0 ≡ 0
    by true e = let no : false ≡ true = sym (ap not e) ∙ (and_parts (not (is_inner b)) (not (is_constant_byte b)) h).1 in absurd cc
    by false e = rw e refl

lead_starts : (b : ℕ) → is_lead b ≡ true → Starts b
unfolding is_lead is_blank
lead_starts b h = record { solid = grind (arith, nat_tests); slash = grind (arith, nat_tests); paren = grind (arith, nat_tests); quote = grind (arith, nat_tests) }

pub lead_inner : (b : ℕ) → is_lead b ≡ true → is_inner b ≡ true
unfolding is_lead is_inner
lead_inner b h = grind (arith, nat_tests)

-- a whole word, in front of a byte that ends it
pub word_begins : (b : ℕ) (w rest : List ℕ) → is_lead b ≡ true → IsTrue (list_all is_inner w) → is_apart rest ≡ true → Begins (word_lexeme (b ∷ w)) (b ∷ w) rest
word_begins b w rest lead inner apart =
    let all : IsTrue (list_all is_inner (b ∷ w)) = and_from (is_inner b) (list_all is_inner w) (lead_inner b lead) inner in
    let run : prefix_len is_inner (b ∷ (w ++ rest)) ≡ length (b ∷ w) = prefix_whole is_inner (b ∷ w) rest all (apart_inner rest apart) in
    let front : take (length (b ∷ w)) ((b ∷ w) ++ rest) ≡ b ∷ w = take-append_seam (b ∷ w) rest in
    begins_by (word_lexeme (b ∷ w)) b w rest (lead_starts b lead) (rw (lead) (cut run front))
  where
    cut : prefix_len is_inner (b ∷ (w ++ rest)) ≡ length (b ∷ w) → take (length (b ∷ w)) (b ∷ (w ++ rest)) ≡ b ∷ w → word_front (b ∷ (w ++ rest)) ≡ Whole (suc (length w)) (word_lexeme (b ∷ w))
    cut run front = ap (λ n. Whole n (word_lexeme (take n (b ∷ (w ++ rest))))) run ∙ ap (λ x. Whole (suc (length w)) (word_lexeme x)) front

-- a name that is escaped, and the blank behind it
pub escaped_begins : (b : ℕ) (w rest : List ℕ) → IsTrue (list_all is_visible (b ∷ w)) → Begins (Named (b ∷ w)) (92 ∷ (b ∷ w)) (32 ∷ rest)
unfolding is_blank is_lead
escaped_begins b w rest h =
    let run : prefix_len is_visible ((b ∷ w) ++ (32 ∷ rest)) ≡ length (b ∷ w) = prefix_whole is_visible (b ∷ w) (32 ∷ rest) h refl in
    let front : take (length (b ∷ w)) ((b ∷ w) ++ (32 ∷ rest)) ≡ b ∷ w = take-append_seam (b ∷ w) (32 ∷ rest) in
    let behind : drop (length (b ∷ w)) ((b ∷ w) ++ (32 ∷ rest)) ≡ 32 ∷ rest = drop-append_seam (b ∷ w) (32 ∷ rest) in
    let more : nat_lt 0 (suc (length w)) ≡ true = grind arith in
    let size : suc (length w) + 1 ≡ suc (suc (length w)) = omega arith in
    begins_by (Named (b ∷ w)) 92 (b ∷ w) (32 ∷ rest) (record { solid = refl; slash = refl; paren = refl; quote = refl })
    (ap (λ n. escaped_front n (take n (b ∷ (w ++ (32 ∷ rest)))) (drop n (b ∷ (w ++ (32 ∷ rest))))) run ∙ rw (front, behind, more, size) refl)

-- ---- numbers

chosen : {A : Type 0} (x y : Bool) → x ≡ true → y ≡ true → (a b : A) → (if x && y then a else b) ≡ a
chosen true true e f a b = refl
chosen true false e f a b = absurd cc
chosen false y e f a b = absurd cc

second : {A : Type 0} (x y : Bool) → x ≡ false → y ≡ true → (a b c : A) → (if x then a else if y then b else c) ≡ b
second true y e f a b c = absurd cc
second false true e f a b c = refl
second false false e f a b c = absurd cc

pub number_reads : (value : ℕ) (ds : List ℕ) → AllDigits 10 ds → digits_value_after 10 value ds ≤ 4294967295 → number_behind value ds ≡ Some (digits_value_after 10 value ds)
number_reads value [] h k = refl
number_reads value (b ∷ ds) h k =
    let digit = is_digit_from b h.0 in
    let same : b - 48 ≡ digit_value b = digit_of b h.0 in
    let more = number_reads (value * 10 + digit_value b) ds h.1 k in
    let small : value * 10 + digit_value b ≤ 4294967295 = let up = grows (value * 10 + digit_value b) ds in omega (arith, up) in
    let fits : nat_le (value * 10 + digit_value b) 4294967295 ≡ true = grind arith in
    ap (λ d. if is_digit b && nat_le (value * 10 + d) 4294967295 then number_behind (value * 10 + d) ds else None) same ∙ chosen (is_digit b) (nat_le (value * 10 + digit_value b) 4294967295) digit fits (number_behind (value * 10 + digit_value b) ds) None ∙ more
  where
    is_digit_from : (c : ℕ) → digit_value c < 10 → is_digit c ≡ true
    is_digit_from c l = grind (arith, nat_tests)

    digit_of : (c : ℕ) → digit_value c < 10 → c - 48 ≡ digit_value c
    digit_of c l = grind (arith, nat_tests)

    grows : (v : ℕ) (cs : List ℕ) → v ≤ digits_value_after 10 v cs
    grows v [] = omega arith
    grows v (c ∷ cs) = let up = grows (v * 10 + digit_value c) cs in omega (arith, up)

digits_number : (ds : List ℕ) → AllDigits 10 ds → IsTrue (list_all is_number_byte ds)
digits_number [] h = refl
digits_number (b ∷ ds) h = and_from (is_number_byte b) (list_all is_number_byte ds) (here b h.0) (digits_number ds h.1)
  where
    here : (c : ℕ) → digit_value c < 10 → is_number_byte c ≡ true
    here c l = grind (arith, nat_tests)

-- what ends a number: no digit, no `_` and no quote
abbrev pub is_behind_number : List ℕ → Bool
is_behind_number [] = true
is_behind_number (b ∷ rest) = not (is_number_byte b) && not (b == 39)

number_of_run : (n : ℕ) (run rest : List ℕ) (v : Option ℕ) → number_of run ≡ v → is_behind_number rest ≡ true → number_front n run rest ≡ Whole n (Plain (tokens.Number v))
number_of_run n run [] v e h = ap (λ x. Whole n (Plain (tokens.Number x))) e
number_of_run n run (b ∷ rest) v e h = by (b == 39) refl
  where
    by : (t : Bool) → (b == 39) ≡ t → number_front n run (b ∷ rest) ≡ Whole n (Plain (tokens.Number v))
    by true k = let no : false ≡ true = sym (ap not k) ∙ (and_parts (not (is_number_byte b)) (not (b == 39)) h).1 in absurd cc
    by false k = rw (k, e) refl

behind_number : (rest : List ℕ) → is_behind_number rest ≡ true → prefix_len is_number_byte rest ≡ 0
behind_number [] h = refl
behind_number (b ∷ rest) h = by (is_number_byte b) refl
  where
    by : (t : Bool) → is_number_byte b ≡ t → cond (is_number_byte b) (1 + prefix_len is_number_byte rest) 0 ≡ 0
    by true e = let no : false ≡ true = sym (ap not e) ∙ (and_parts (not (is_number_byte b)) (not (b == 39)) h).0 in absurd cc
    by false e = rw e refl

digit_starts : (b : ℕ) → digit_value b < 10 → Starts b
unfolding is_blank
digit_starts b h = record { solid = grind (arith, nat_tests); slash = grind (arith, nat_tests); paren = grind (arith, nat_tests); quote = grind (arith, nat_tests) }

digit_no_lead : (b : ℕ) → digit_value b < 10 → is_lead b ≡ false
unfolding is_lead
digit_no_lead b h = grind (arith, nat_tests)

digit_is : (b : ℕ) → digit_value b < 10 → is_digit b ≡ true
digit_is b h = grind (arith, nat_tests)

digits_begin : (ds rest : List ℕ) (v : Option ℕ) → 0 < length ds → AllDigits 10 ds → number_of ds ≡ v → is_behind_number rest ≡ true → Begins (Plain (tokens.Number v)) ds rest
digits_begin [] rest v filled all e h = absurd (omega arith)
digits_begin (b ∷ ds) rest v filled all e h =
    let run : prefix_len is_number_byte (b ∷ (ds ++ rest)) ≡ length (b ∷ ds) = prefix_whole is_number_byte (b ∷ ds) rest (digits_number (b ∷ ds) all) (behind_number rest h) in
    let front : take (length (b ∷ ds)) ((b ∷ ds) ++ rest) ≡ b ∷ ds = take-append_seam (b ∷ ds) rest in
    let behind : drop (length (b ∷ ds)) ((b ∷ ds) ++ rest) ≡ rest = drop-append_seam (b ∷ ds) rest in
    let cut : number_at (b ∷ (ds ++ rest)) ≡ Whole (suc (length ds)) (Plain (tokens.Number v)) =
    ap (λ n. number_front n (take n (b ∷ (ds ++ rest))) (drop n (b ∷ (ds ++ rest)))) run ∙ rw (front, behind) (number_of_run (suc (length ds)) (b ∷ ds) rest v e h)
    in
    begins_by (Plain (tokens.Number v)) b ds rest (digit_starts b all.0) (second (is_lead b) (is_digit b) (digit_no_lead b all.0) (digit_is b all.0) _ _ _ ∙ cut)

-- a number of 32 bits, in front of what ends it
pub number_begins : (n : ℕ) (rest : List ℕ) → n ≤ 4294967295 → is_behind_number rest ≡ true → Begins (Plain (tokens.Number (Some n))) (decimal n) rest
number_begins n rest small h =
    let facts = decimal_is_IsNumeral n (omega arith) in
    let value : digits_value_after 10 0 (decimal n) ≡ n = facts.1 in
    digits_begin (decimal n) rest (Some n) facts.0.0 facts.0.1 (number_reads 0 (decimal n) facts.0.1 (omega (arith, value)) ∙ ap (λ (k : ℕ). Some k) value) h

-- ---- constants of one bit

pub zero_begins : (rest : List ℕ) → is_apart rest ≡ true → Begins (Plain (tokens.Constant 1 0)) (codes "1'b0") rest
unfolding is_blank is_lead
zero_begins rest h = begins_by (Plain (tokens.Constant 1 0)) 49 (codes "'b0") rest (record { solid = refl; slash = refl; paren = refl; quote = refl }) (rw (apart_constant rest h) refl)

pub one_begins : (rest : List ℕ) → is_apart rest ≡ true → Begins (Plain (tokens.Constant 1 1)) (codes "1'b1") rest
unfolding is_blank is_lead
one_begins rest h = begins_by (Plain (tokens.Constant 1 1)) 49 (codes "'b1") rest (record { solid = refl; slash = refl; paren = refl; quote = refl }) (rw (apart_constant rest h) refl)
