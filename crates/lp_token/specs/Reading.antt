-- Reading a token from the front of a text, as a function on lists.
use Rattle.std.specs.Prelude.{ℕ, Bool, List, [], ◌∷◌, Option, Some, None, ◌==◌, if◌then◌else◌, take_while, bytes_eq}
use Rattle.std.specs.List.{list_all}
use Rattle.lp_token.specs.declared.token.Language.{Language}
use Rattle.lp_token.specs.Tokens.{Class, Inner, Single, Quote, class_of, is_blank, is_inner, is_quotable, Token, Word, Mark, Quoted}

-- one step of a reader after another, up to the first that reads nothing
infixl 10 ◌>>=◌
abbrev pub ◌>>=◌ : {A B : Type 0} → Option A → (A → Option B) → Option B
None >>= f = None
(Some x) >>= f = f x

-- what is left of a list after the longest front whose elements pass
abbrev pub drop_while : {A : Type 0} → (A → Bool) → List A → List A
drop_while p [] = []
drop_while p (x ∷ xs) = if p x then drop_while p xs else x ∷ xs

-- a string up to the quote that ends it
abbrev pub string_to : List ℕ → List ℕ → Option (Token × List ℕ)
string_to inside [] = None
string_to inside (b ∷ rest) = if b == 34 then Some (Quoted inside, rest) else None

-- a string whose opening quote stands before the text
abbrev pub string_at : List ℕ → Option (Token × List ℕ)
string_at text = string_to (take_while is_quotable text) (drop_while is_quotable text)

-- the token that begins with this byte of this class
abbrev pub token_from : Class → Language → ℕ → List ℕ → Option (Token × List ℕ)
token_from Inner language b rest = Some (Word (b ∷ take_while (is_inner language) rest), drop_while (is_inner language) rest)
token_from Single language b rest = Some (Mark b, rest)
token_from Quote language b rest = string_at rest
token_from _ language b rest = None

abbrev pub front_token : Language → List ℕ → Option (Token × List ℕ)
front_token language [] = None
front_token language (b ∷ rest) = token_from (class_of language b) language b rest

-- the first token and what is left behind it
unfoldable pub token_at : Language → List ℕ → Option (Token × List ℕ)
token_at language text = front_token language (drop_while (is_blank language) text)

-- what is left where the token is this word
abbrev pub behind_word : List ℕ → Token → List ℕ → Option (List ℕ)
behind_word word (Word w) rest = if bytes_eq w word then Some rest else None
behind_word word (Mark m) rest = None
behind_word word (Quoted s) rest = None

-- what is left where the token is this mark
abbrev pub behind_mark : ℕ → Token → List ℕ → Option (List ℕ)
behind_mark mark (Word w) rest = None
behind_mark mark (Mark m) rest = if m == mark then Some rest else None
behind_mark mark (Quoted s) rest = None

abbrev pub word_of : Token → List ℕ → Option (List ℕ × List ℕ)
word_of (Word w) rest = Some (w, rest)
word_of (Mark m) rest = None
word_of (Quoted s) rest = None

abbrev pub inside_of : Token → List ℕ → Option (List ℕ × List ℕ)
inside_of (Word w) rest = None
inside_of (Mark m) rest = None
inside_of (Quoted s) rest = Some (s, rest)

-- what is left behind the first token, where that is this word
unfoldable pub word_is : Language → List ℕ → List ℕ → Option (List ℕ)
word_is language word text = token_at language text >>= λ x. behind_word word x.0 x.1

-- what is left behind the first token, where that is this mark
unfoldable pub mark_is : Language → ℕ → List ℕ → Option (List ℕ)
mark_is language mark text = token_at language text >>= λ x. behind_mark mark x.0 x.1

-- the first token, where that is a word, and what is left behind it
unfoldable pub word_at : Language → List ℕ → Option (List ℕ × List ℕ)
word_at language text = token_at language text >>= λ x. word_of x.0 x.1

-- the first token, where that is a string, without its quotes, and what is left behind it
unfoldable pub quoted_at : Language → List ℕ → Option (List ℕ × List ℕ)
quoted_at language text = token_at language text >>= λ x. inside_of x.0 x.1

-- nothing but blanks
abbrev pub is_blank_text : Language → List ℕ → Bool
is_blank_text language text = list_all (is_blank language) text
