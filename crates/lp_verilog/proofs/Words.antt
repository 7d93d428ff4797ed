-- How the tokens by which a text is led to its end are spelled.
use Rattle.std.proofs.Common.{◌≡◌, ℕ, zero, suc, ◌+◌, ◌*◌, ◌-◌, ◌<◌, Bool, true, false, List, [], ◌∷◌, ◌++◌, length, Some, None, refl, sym, ap, ◌∙◌, subst, arith}
use Rattle.std.specs.Prelude.{nat_lt, ◌/◌, ◌%◌, ◌^◌, ◌&&◌, ◌==◌, codes}
use Rattle.std.specs.List.{list_all}
use Rattle.std.proofs.lemmas.Bool.{true≢false, and_parts, and_from, eqb-true}
use Rattle.std.proofs.lemmas.Bool.Decides.{nat_tests}
use Rattle.lp_text.specs.Texts.{text_at}
use Rattle.lp_verilog_tokens.specs.declared.token.Token.{Token}
use Rattle.lp_verilog_tokens.specs.declared.token.Token.TheVariants as tokens
use Rattle.lp_verilog_tokens.specs.declared.token.Keyword.TheVariants as keywords
use Rattle.lp_verilog_tokens.specs.declared.token.Mark.{Mark}
use Rattle.lp_verilog_tokens.specs.declared.token.Mark.TheVariants as marks
use Rattle.lp_verilog_tokens.specs.declared.gap.GapMode.TheVariants.{Between}
use Rattle.lp_verilog_tokens.specs.Lexical.{is_blank, is_lead, is_digit, is_inner, is_number_byte, is_visible}
use Rattle.lp_verilog_tokens.specs.Constants.{number_of, number_behind}
use Rattle.lp_verilog_tokens.specs.Reserved.{reserved_words}
use Rattle.lp_verilog_tokens.specs.Cutting.{Lexeme, Named, Plain, Whole, front_of, gap_step, piece_of}
use Rattle.lp_verilog.proofs.Shapes.{is_small}
use Rattle.lp_verilog.proofs.Ending.{spelled_ok}
use Rattle.lp_verilog.proofs.Spelling.{heads, number_cut, escaped_cut, no_gap, escaped_cuts, escaped_whole, escaped_sign, digit_front, plain_number, digit_sign, blank_hidden}
use Rattle.lp_verilog.proofs.Pieces.{nameable, made_piece}

-- digits of a number before others, the last digits last
abbrev pub digits : ℕ → ℕ → List ℕ → List ℕ
digits zero v more = more
digits (suc n) v more = digits n (v / 10) ((48 + v % 10) ∷ more)

digit_read : (v : ℕ) → is_digit (48 + v % 10) ≡ true
digit_read v = grind (arith, nat_tests)

digits_read : (n v : ℕ) (more : List ℕ) → v < 10 ^ n → is_small v ≡ true → number_behind 0 (digits n v more) ≡ number_behind v more
digits_read zero v more h small = let none : v ≡ 0 = omega (arith, h) in ap (λ x. number_behind x more) (sym none)
digits_read (suc n) v more h small =
    let power : 10 ^ suc n ≡ 10 * 10 ^ n = power_next n in
    let less : v / 10 < 10 ^ n = omega (arith, h, power) in
    let lower : is_small (v / 10) ≡ true = smaller v small in
    let same : (v / 10) * 10 + ((48 + v % 10) - 48) ≡ v = omega arith in
    digits_read n (v / 10) ((48 + v % 10) ∷ more) less lower ∙ rw (digit_read v, same, small) refl
  where
    power_next : (m : ℕ) → 10 ^ suc m ≡ 10 * 10 ^ m
    power_next m = omega arith

    smaller : (w : ℕ) → is_small w ≡ true → is_small (w / 10) ≡ true
    smaller w k = grind (arith, nat_tests)

-- all ten digits
abbrev pub decimal : ℕ → List ℕ
decimal v = digits 10 v []

pub decimal_read : (v : ℕ) → is_small v ≡ true → number_of (decimal v) ≡ Some v
decimal_read v small = digits_read 10 v [] (ten v small) small
  where
    ten : (w : ℕ) → is_small w ≡ true → w < 10 ^ 10
    ten w k = grind (arith, nat_tests)

-- a number of ten digits has a first one, and digits behind it
pub record Digits (v : ℕ) : Type 0 where
  pub first : ℕ
  pub more : List ℕ
  pub is : decimal v ≡ first ∷ more
  pub digit : is_digit first ≡ true
  pub all : list_all is_number_byte (first ∷ more) ≡ true

number_bytes : (n v : ℕ) (more : List ℕ) → list_all is_number_byte more ≡ true → list_all is_number_byte (digits n v more) ≡ true
number_bytes zero v more h = h
number_bytes (suc n) v more h = number_bytes n (v / 10) ((48 + v % 10) ∷ more) (and_from (is_number_byte (48 + v % 10)) (list_all is_number_byte more) (number_digit v) h)
  where
    number_digit : (w : ℕ) → is_number_byte (48 + w % 10) ≡ true
    number_digit w = grind (arith, nat_tests)

first_digit : (n v : ℕ) (c : ℕ) (more : List ℕ) → is_digit c ≡ true → (d : ℕ) × (ds : List ℕ) × (digits n v (c ∷ more) ≡ d ∷ ds) × (is_digit d ≡ true)
first_digit zero v c more h = (c, more, refl, h)
first_digit (suc n) v c more h = first_digit n (v / 10) (48 + v % 10) (c ∷ more) (digit_read v)

pub decimal_digits : (v : ℕ) → Digits v
decimal_digits v =
    let f = first_digit 9 (v / 10) (48 + v % 10) [] (digit_read v) in
    record { first = f.0; more = f.1; is = f.2; digit = f.3; all = subst (λ xs. list_all is_number_byte xs ≡ true) f.2 (number_bytes 10 v [] refl) }

-- ---- tokens and their bytes

abbrev pub mark_byte : Mark → ℕ
mark_byte marks.Open = 40
mark_byte marks.Close = 41
mark_byte marks.OpenBracket = 91
mark_byte marks.CloseBracket = 93
mark_byte marks.OpenBrace = 123
mark_byte marks.CloseBrace = 125
mark_byte marks.Comma = 44
mark_byte marks.Semicolon = 59
mark_byte marks.Colon = 58
mark_byte marks.Dot = 46
mark_byte marks.Equals = 61

abbrev pub spelled : List (List ℕ) → Token → List ℕ
spelled names (tokens.Name id) = 92 ∷ text_at names id.0
spelled names (tokens.Number (Some v)) = decimal v
spelled names (tokens.Number None) = []
spelled names (tokens.Constant size value) = codes "1'b0"
spelled names (tokens.Mark mark) = mark_byte mark ∷ []
spelled names (tokens.Keyword keywords.Input) = codes "input"
spelled names (tokens.Keyword _) = codes "endmodule"
spelled names _ = []

abbrev pub lexeme_of : List (List ℕ) → Token → Lexeme
lexeme_of names (tokens.Name id) = Named (text_at names id.0)
lexeme_of names (tokens.Mark mark) = Plain (tokens.Mark mark)
lexeme_of names (tokens.Keyword word) = Plain (tokens.Keyword word)
lexeme_of names (tokens.Number v) = Plain (tokens.Number v)
lexeme_of names (tokens.Constant size value) = Plain (tokens.Constant size value)
lexeme_of names tokens.Unread = Plain tokens.Unread
lexeme_of names tokens.Foreign = Plain tokens.Foreign
lexeme_of names tokens.Broken = Plain tokens.Broken

-- how bytes before a blank spell a token
pub record Spells (bytes : List ℕ) (lexeme : Lexeme) : Type 0 where
  pub first : ℕ
  pub more : List ℕ
  pub is : bytes ≡ first ∷ more
  pub none : (h : Bool) (xs : List ℕ) → gap_step (Between h) first (more ++ 32 ∷ xs) ≡ None
  pub front : (xs : List ℕ) → front_of first (more ++ 32 ∷ xs) ≡ Whole (length (first ∷ more)) lexeme

mark_spells : (names : List (List ℕ)) (mark : Mark) → Spells (spelled names (tokens.Mark mark)) (Plain (tokens.Mark mark))
unfolding is_lead is_blank
mark_spells names marks.Open = record { first = 40; more = []; is = refl; none = λ h xs. refl; front = λ xs. refl }
mark_spells names marks.Close = record { first = 41; more = []; is = refl; none = λ h xs. refl; front = λ xs. refl }
mark_spells names marks.OpenBracket = record { first = 91; more = []; is = refl; none = λ h xs. refl; front = λ xs. refl }
mark_spells names marks.CloseBracket = record { first = 93; more = []; is = refl; none = λ h xs. refl; front = λ xs. refl }
mark_spells names marks.OpenBrace = record { first = 123; more = []; is = refl; none = λ h xs. refl; front = λ xs. refl }
mark_spells names marks.CloseBrace = record { first = 125; more = []; is = refl; none = λ h xs. refl; front = λ xs. refl }
mark_spells names marks.Comma = record { first = 44; more = []; is = refl; none = λ h xs. refl; front = λ xs. refl }
mark_spells names marks.Semicolon = record { first = 59; more = []; is = refl; none = λ h xs. refl; front = λ xs. refl }
mark_spells names marks.Colon = record { first = 58; more = []; is = refl; none = λ h xs. refl; front = λ xs. refl }
mark_spells names marks.Dot = record { first = 46; more = []; is = refl; none = λ h xs. refl; front = λ xs. refl }
mark_spells names marks.Equals = record { first = 61; more = []; is = refl; none = λ h xs. refl; front = λ xs. refl }

word_spells : (names : List (List ℕ)) → Spells (spelled names (tokens.Keyword keywords.Input)) (Plain (tokens.Keyword keywords.Input)) × Spells (spelled names (tokens.Keyword keywords.EndModule)) (Plain (tokens.Keyword keywords.EndModule))
unfolding is_lead is_blank is_inner reserved_words
word_spells names = (
  record { first = 105; more = codes "nput"; is = refl; none = λ h xs. refl; front = λ xs. refl },
  record { first = 101; more = codes "ndmodule"; is = refl; none = λ h xs. refl; front = λ xs. refl },
)

constant_spells : Spells (codes "1'b0") (Plain (tokens.Constant 1 0))
unfolding is_lead is_blank
constant_spells = record { first = 49; more = codes "'b0"; is = refl; none = λ h xs. refl; front = λ xs. refl }

digit_lead : (b : ℕ) → is_digit b ≡ true → is_lead b ≡ false
unfolding is_lead
digit_lead b h = grind (arith, nat_tests)

number_spells : (names : List (List ℕ)) (v : ℕ) → is_small v ≡ true → Spells (decimal v) (Plain (tokens.Number (Some v)))
number_spells names v small =
    let d = decimal_digits v in
    let sign = digit_sign d.first d.digit in
    record {
      first = d.first;
      more = d.more;
      is = d.is;
      none = λ h xs. no_gap h d.first (d.more ++ 32 ∷ xs) sign.0 sign.1 sign.2 (ap (λ x. x && heads (λ c. c == 42) (d.more ++ 32 ∷ xs)) sign.3);
      front = λ xs. digit_front d.first (d.more ++ 32 ∷ xs) (digit_lead d.first d.digit) d.digit ∙ number_cut (d.first ∷ d.more) (32 ∷ xs) d.all refl ∙ plain_number (length (d.first ∷ d.more)) (d.first ∷ d.more) (32 ∷ xs) refl
          ∙ ap (λ o. Whole (length (d.first ∷ d.more)) (Plain (tokens.Number o))) (ap number_of (sym d.is) ∙ decimal_read v small);
    }

name_spells : (text : List ℕ) → nameable text ≡ true → Spells (92 ∷ text) (Named text)
name_spells text h =
    let parts = and_parts (list_all is_visible text) (nat_lt 0 (length text)) h in
    record {
      first = 92;
      more = text;
      is = refl;
      none = λ g xs. no_gap g 92 (text ++ 32 ∷ xs) escaped_sign.0 refl refl refl;
      front = λ xs. escaped_cuts (text ++ 32 ∷ xs) ∙ escaped_cut text 32 xs parts.0 (blank_hidden 32 escaped_sign.1) ∙ escaped_whole (length text) 32 text xs escaped_sign.1 parts.1 ∙ ap (λ n. Whole n (Named text)) (omega arith);
    }

pub token_spells : (names : List (List ℕ)) (b : ℕ) (t : Token) → spelled_ok b t ≡ true → ((i : ℕ) → nat_lt i b ≡ true → nameable (text_at names i) ≡ true) → Spells (spelled names t) (lexeme_of names t)
token_spells names b (tokens.Name id) ok all = name_spells (text_at names id.0) (all id.0 ok)
token_spells names b (tokens.Number (Some v)) ok all = number_spells names v ok
token_spells names b (tokens.Constant size value) ok all =
    let parts = and_parts (size == 1) (value == 0) ok in
    let s : size ≡ 1 = eqb-true size 1 parts.0 in
    let z : value ≡ 0 = eqb-true value 0 parts.1 in
    subst (λ x. Spells (codes "1'b0") (Plain (tokens.Constant x value))) (sym s) (subst (λ x. Spells (codes "1'b0") (Plain (tokens.Constant 1 x))) (sym z) constant_spells)
token_spells names b (tokens.Mark mark) ok all = mark_spells names mark
token_spells names b (tokens.Keyword keywords.Input) ok all = (word_spells names).0
token_spells names b (tokens.Keyword keywords.EndModule) ok all = (word_spells names).1
token_spells names b _ ok all = absurd (true≢false (sym ok))

-- a token behind one blank, and before another
pub token_piece : (f : Bool) (names : List (List ℕ)) (b : ℕ) (t : Token) (xs : List ℕ) → spelled_ok b t ≡ true → ((i : ℕ) → nat_lt i b ≡ true → nameable (text_at names i) ≡ true) → piece_of f (32 ∷ (spelled names t ++ 32 ∷ xs)) ≡ Some (record { gap = 1; size = length (spelled names t); lexeme = lexeme_of names t })
token_piece f names b t xs ok all =
    let s = token_spells names b t ok all in
    ap (λ bytes. piece_of f (32 ∷ (bytes ++ 32 ∷ xs))) s.is
    ∙ made_piece f 1 s.first (length (s.first ∷ s.more)) (s.more ++ 32 ∷ xs) (lexeme_of names t) (λ h. s.none h xs) (s.front xs)
    ∙ ap (λ bytes. Some (record { gap = 1; size = length bytes; lexeme = lexeme_of names t })) (sym s.is)
