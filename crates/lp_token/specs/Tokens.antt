-- How a text spells tokens: blanks, a token, that it ends there, and so on to the text's end.
-- Blanks and words are those of Liberty and of IEEE 1364-2005 (2.2, 2.3, 2.7), in the subset that is read.
use Rattle.std.specs.Prelude.{◌≡◌, ℕ, Bool, true, false, not, ◌&&◌, ◌||◌, ◌==◌, nat_lt, nat_le, List, [], ◌∷◌, ◌++◌, IsTrue}
use Rattle.std.specs.List.{list_all, list_any}
use Rattle.lp_token.specs.declared.token.Language.{Language}
use Rattle.lp_token.specs.declared.token.Language.TheVariants.{Liberty, Verilog}

-- what a byte is to a language: a blank, a part of a word, a mark of its own, the quote of a string, or none of these
pub data Class : Type 0 where
  Blank : Class
  Inner : Class
  Single : Class
  Quote : Class
  Foreign : Class

-- space, tab, line feed, form feed and carriage return
abbrev pub blanks : List ℕ
blanks = 32 ∷ 9 ∷ 10 ∷ 12 ∷ 13 ∷ []

-- the marks of Liberty: ( ) { } : ;
abbrev pub liberty_marks : List ℕ
liberty_marks = 40 ∷ 41 ∷ 123 ∷ 125 ∷ 58 ∷ 59 ∷ []

-- the marks of Verilog: ( ) , ; .
abbrev pub verilog_marks : List ℕ
verilog_marks = 40 ∷ 41 ∷ 44 ∷ 59 ∷ 46 ∷ []

abbrev pub is_one_of : List ℕ → ℕ → Bool
is_one_of bytes b = list_any (λ x. x == b) bytes

abbrev pub is_between : ℕ → ℕ → ℕ → Bool
is_between low high b = nat_le low b && nat_le b high

abbrev pub is_letter : ℕ → Bool
is_letter b = is_between 97 122 b || is_between 65 90 b

abbrev pub is_digit : ℕ → Bool
is_digit b = is_between 48 57 b

-- a letter, a digit or _
abbrev pub is_name_byte : ℕ → Bool
is_name_byte b = is_letter b || is_digit b || (b == 95)

abbrev pub first_of : Bool → Class → Class → Class
first_of true c other = c
first_of false c other = other

-- a word of Liberty has any ASCII character that is no blank, no mark, no comma and no quote
unfoldable pub class_of : Language → ℕ → Class
class_of Liberty b = first_of (is_one_of blanks b) Blank (first_of (is_one_of liberty_marks b) Single (first_of (b == 34) Quote (first_of (nat_lt b 128 && not (b == 44)) Inner Foreign)))
class_of Verilog b = first_of (is_one_of blanks b) Blank (first_of (is_one_of verilog_marks b) Single (first_of (is_name_byte b) Inner Foreign))

abbrev pub is_blank_class : Class → Bool
is_blank_class Blank = true
is_blank_class _ = false

abbrev pub is_inner_class : Class → Bool
is_inner_class Inner = true
is_inner_class _ = false

abbrev pub is_single_class : Class → Bool
is_single_class Single = true
is_single_class _ = false

abbrev pub is_quote_class : Class → Bool
is_quote_class Quote = true
is_quote_class _ = false

abbrev pub is_blank : Language → ℕ → Bool
is_blank language b = is_blank_class (class_of language b)

abbrev pub is_inner : Language → ℕ → Bool
is_inner language b = is_inner_class (class_of language b)

pub data Token : Type 0 where
  Word : List ℕ → Token
  Mark : ℕ → Token
  Quoted : List ℕ → Token

-- the bytes of a token
abbrev pub token_bytes : Token → List ℕ
token_bytes (Word w) = w
token_bytes (Mark m) = m ∷ []
token_bytes (Quoted s) = 34 ∷ s ++ 34 ∷ []

-- a byte that may stand in a string: neither the quote nor a backslash
abbrev pub is_quotable : ℕ → Bool
is_quotable b = not (b == 34) && not (b == 92)

abbrev pub is_filled : {A : Type 0} → List A → Bool
is_filled [] = false
is_filled (x ∷ xs) = true

-- a word has a byte and only inner bytes
abbrev pub is_token : Language → Token → Bool
is_token language (Word w) = is_filled w && list_all (is_inner language) w
is_token language (Mark m) = is_single_class (class_of language m)
is_token language (Quoted s) = is_quote_class (class_of language 34) && list_all is_quotable s

-- no inner byte comes first
abbrev pub is_apart : Language → List ℕ → Bool
is_apart language [] = true
is_apart language (b ∷ rest) = not (is_inner language b)

-- a word is the longest run of inner bytes
abbrev pub ends_before : Language → Token → List ℕ → Bool
ends_before language (Word w) rest = is_apart language rest
ends_before language (Mark m) rest = true
ends_before language (Quoted s) rest = true

-- the text is blanks, the token, which ends there, and then the rest
pub record BeginsWith (language : Language) (token : Token) (text rest : List ℕ) : Type 0 where
  pub gap : List ℕ
  pub gap_blank : IsTrue (list_all (is_blank language) gap)
  pub spelled : text ≡ gap ++ (token_bytes token ++ rest)
  pub good : IsTrue (is_token language token)
  pub ended : IsTrue (ends_before language token rest)

-- the tokens spell the text up to the rest
abbrev pub SpellsTo : Language → List Token → List ℕ → List ℕ → Type 0
SpellsTo language [] text rest = text ≡ rest
SpellsTo language (token ∷ tokens) text rest = (after : List ℕ) × (BeginsWith language token text after × SpellsTo language tokens after rest)

-- the tokens spell the whole text, blanks at its end included
abbrev pub Spells : Language → List Token → List ℕ → Type 0
Spells language tokens text = (rest : List ℕ) × (SpellsTo language tokens text rest × IsTrue (list_all (is_blank language) rest))

-- a list whose parts are separated by a mark
abbrev pub separated : {A : Type 0} → ℕ → (A → List Token) → List A → List Token
separated mark f [] = []
separated mark f (x ∷ []) = f x
separated mark f (x ∷ y ∷ more) = f x ++ (Mark mark ∷ separated mark f (y ∷ more))
