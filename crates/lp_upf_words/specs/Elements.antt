-- The content of a word as a list (IEEE 1801-2015, Tcl syntax).
use Rattle.std.specs.Prelude.{◌≡◌, ℕ, ◌+◌, ◌*◌, ◌%◌, Bool, true, false, nat_lt, List, [], ◌∷◌, Option, Some, None, if◌then◌else◌}
use Rattle.lp_text.specs.Places.{past, past_byte}
use Rattle.lp_text.specs.declared.place.Place.{Place}
use Rattle.lp_model.specs.declared.upf.WordForm.{WordForm}
use Rattle.lp_model.specs.declared.upf.WordForm.TheVariants as forms
use Rattle.lp_model.specs.CommandsView.{WordView, line_view}
use Rattle.lp_upf_words.specs.declared.kind.Kind.{Kind}
use Rattle.lp_upf_words.specs.declared.elements.Elements.{Elements}
use Rattle.lp_upf_words.specs.Bytes.{kind_of, list_kind_of}
use Rattle.lp_upf_words.specs.Words.{Outcome}
use Rattle.lp_upf_words.specs.Reading.{read, start_at}

-- a byte from 128 on has its bits in two: two in the first, six in the second
abbrev pub byte_of : ℕ → ℕ → ℕ
byte_of lead c = (lead % 4) * 64 + c % 64

-- the bytes of a text, where each was taken as the character with its code
abbrev pub bytes_after : Option ℕ → List ℕ → List ℕ
bytes_after lead [] = []
bytes_after None (c ∷ rest) = if nat_lt c 128 then c ∷ bytes_after None rest else bytes_after (Some c) rest
bytes_after (Some lead) (c ∷ rest) = byte_of lead c ∷ bytes_after None rest

abbrev pub content_of : WordView → List ℕ
content_of w = bytes_after None w.text

-- the place of the first byte of a word's content
abbrev pub content_place : WordForm → Place → Place
content_place forms.Bare p = p
content_place forms.Braces p = past_byte p 123
content_place forms.Quotes p = past_byte p 34

abbrev pub inside_place : WordView → Place
inside_place w = content_place w.form w.place

-- one past the content of a word
abbrev pub content_end : WordView → Place
content_end w = past (inside_place w) (content_of w)

-- what bytes are in a text, or else in a list
abbrev pub kind_in : Bool → ℕ → Kind
kind_in true = list_kind_of
kind_in false = kind_of

-- the elements of a content as a list
abbrev pub elements_at : Place → List ℕ → Outcome
elements_at p content = read list_kind_of (start_at false p) content

abbrev pub elements_of : WordView → Outcome
elements_of w = elements_at (inside_place w) (content_of w)

abbrev pub words_in : List (List WordView) → List WordView → List WordView
words_in [] open_ones = open_ones
words_in (line ∷ lines) open_ones = line

-- the words of a content as a list; its end ends the one command that they are
abbrev pub words_of : Outcome → List WordView
words_of outcome = words_in outcome.gathered.commands outcome.gathered.words

-- these are the elements of a word
pub record ReadsElements (w : WordView) (names : List (List ℕ)) (e : Elements) : Type 0 where
  pub words : line_view names e.words ≡ words_of (elements_of w)
  pub stop : e.stop ≡ (elements_of w).stop
  pub end : e.stop ≡ None → e.end ≡ content_end w
