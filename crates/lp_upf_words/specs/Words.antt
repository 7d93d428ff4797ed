-- Which words a UPF text has, apart from any reader (IEEE 1801-2015, Tcl syntax; the subset is an own rule).
use Rattle.std.specs.Prelude.{◌≡◌, ℕ, zero, suc, ◌+◌, ◌==◌, Bool, true, false, not, List, [], ◌∷◌, ◌++◌, Option, Some, None, if◌then◌else◌}
use Rattle.std.specs.List.{list_all}
use Rattle.lp_text.specs.Places as places
use Rattle.lp_text.specs.Places.{past, past_byte}
use Rattle.lp_text.specs.declared.place.Place.{Place}
use Rattle.lp_model.specs.declared.upf.WordForm.{WordForm}
use Rattle.lp_model.specs.declared.upf.WordForm.TheVariants as forms
use Rattle.lp_model.specs.CommandsView.{WordView}
use Rattle.lp_upf_words.specs.declared.kind.Kind.{Kind}
use Rattle.lp_upf_words.specs.declared.kind.Kind.TheVariants as kinds
use Rattle.lp_upf_words.specs.declared.mode.Stop.{Stop}
use Rattle.lp_upf_words.specs.declared.mode.Stop.TheVariants as stops
use Rattle.lp_upf_words.specs.Bytes.{kind_of, list_kind_of, is_line_end, is_apart, is_digit, is_end, characters}

-- ---- the inside of words, by what bytes are in a text or in a list

-- bytes that stand for themselves in a bare word or, where quoted, in quotes
abbrev pub is_plain : Bool → Kind → Bool
is_plain true kinds.Quote = false
is_plain true kinds.Dollar = false
is_plain true kinds.OpenBracket = false
is_plain true k = true
is_plain false kinds.Blank = false
is_plain false kinds.LineEnd = false
is_plain false kinds.Feed = false
is_plain false kinds.Semicolon = false
is_plain false kinds.Backslash = false
is_plain false kinds.Dollar = false
is_plain false kinds.OpenBracket = false
is_plain false k = true

abbrev pub are_digits : (ℕ → Kind) → List ℕ → Bool
are_digits kind digits = list_all (λ b. is_digit (kind b)) digits

abbrev pub has_some : List ℕ → Bool
has_some [] = false
has_some (b ∷ bytes) = true

-- bytes of a bare word or of quotes, and what they say: a backslash in a bare word takes the next byte as it is, but no line end; brackets hold digits
pub data Saying (kind : ℕ → Kind) (quoted : Bool) : List ℕ → List ℕ → Type 0 where
  Nothing : Saying kind quoted [] []
  Plain : (b : ℕ) (raw said : List ℕ) → is_plain quoted (kind b) ≡ true → Saying kind quoted raw said → Saying kind quoted (b ∷ raw) (b ∷ said)
  Escaped : (a b : ℕ) (raw said : List ℕ) → quoted ≡ false → kind a ≡ kinds.Backslash → is_line_end (kind b) ≡ false → Saying kind quoted raw said → Saying kind quoted (a ∷ (b ∷ raw)) (b ∷ said)
  Index : (a : ℕ) (digits : List ℕ) (b : ℕ) (raw said : List ℕ) → kind a ≡ kinds.OpenBracket → are_digits kind digits ≡ true → has_some digits ≡ true → kind b ≡ kinds.CloseBracket
      → Saying kind quoted raw said → Saying kind quoted (a ∷ (digits ++ (b ∷ raw))) (a ∷ (digits ++ (b ∷ said)))

-- how many braces are open behind a byte, none where it closes one that is not
abbrev pub depth_after : Kind → ℕ → Option ℕ
depth_after kinds.OpenBrace depth = Some (depth + 1)
depth_after kinds.CloseBrace zero = None
depth_after kinds.CloseBrace (suc depth) = Some depth
depth_after k depth = Some depth

abbrev pub nests_on : (ℕ → Bool) → Option ℕ → Bool
nests_on rest None = false
nests_on rest (Some depth) = rest depth

-- bytes behind open braces that close none beside these and their own; where `all` says so they close all
abbrev pub nests : (ℕ → Kind) → Bool → ℕ → List ℕ → Bool
nests kind all depth [] = if all then depth == 0 else true
nests kind all depth (b ∷ rest) = nests_on (λ d. nests kind all d rest) (depth_after (kind b) depth)

-- all braces in these bytes are closed
abbrev pub are_balanced : (ℕ → Kind) → List ℕ → Bool
are_balanced kind inside = nests kind true 0 inside

-- no brace in these bytes closes one before them
abbrev pub are_open : (ℕ → Kind) → List ℕ → Bool
are_open kind inside = nests kind false 0 inside

-- ---- where a text leaves the form within a word

-- digits behind a bracket that end without their closing bracket
abbrev pub breaks_at : Bool → Kind → Bool
breaks_at some kinds.Digit = false
breaks_at some kinds.CloseBracket = not some
breaks_at some k = true

abbrev pub breaks : (ℕ → Kind) → Bool → List ℕ → Bool
breaks kind some [] = true
breaks kind some (b ∷ rest) = breaks_at some (kind b)

-- a variable, a bracket that begins no index, or an end of the text within the word
pub data Fault (kind : ℕ → Kind) (quoted : Bool) (p : Place) : List ℕ → Stop → Type 0 where
  Dollar : (b : ℕ) (rest : List ℕ) → kind b ≡ kinds.Dollar → Fault kind quoted p (b ∷ rest) (stops.Dollar p)
  Bracket : (b : ℕ) (digits rest : List ℕ) → kind b ≡ kinds.OpenBracket → are_digits kind digits ≡ true → breaks kind (has_some digits) rest ≡ true → Fault kind quoted p (b ∷ (digits ++ rest)) (stops.Bracket p)
  Escape : (b : ℕ) → quoted ≡ false → kind b ≡ kinds.Backslash → Fault kind quoted p (b ∷ []) (stops.Syntax (past_byte p b))
  Unquoted : quoted ≡ true → Fault kind quoted p [] (stops.Syntax p)

-- ---- the text

-- where a command may begin, where a further word of one may, behind a bare word, and behind a word in braces or quotes
pub data Stand : Type 0 where
  Fresh : Stand
  Between : Stand
  Ended : Stand
  Behind : Stand

-- a word may begin here
abbrev pub takes_word : Stand → Bool
takes_word Fresh = true
takes_word Between = true
takes_word Ended = false
takes_word Behind = false

-- a command has begun
abbrev pub is_begun : Stand → Bool
is_begun Fresh = false
is_begun Between = true
is_begun Ended = true
is_begun Behind = true

-- behind a blank
abbrev pub apart : Stand → Stand
apart Fresh = Fresh
apart Between = Between
apart Ended = Between
apart Behind = Between

-- the first byte of a bare word
abbrev pub begins_bare : Stand → Kind → Bool
begins_bare s kinds.OpenBrace = false
begins_bare s kinds.Quote = false
begins_bare Fresh kinds.Hash = false
begins_bare s k = true

abbrev pub may_begin : (ℕ → Kind) → Stand → List ℕ → Bool
may_begin kind s [] = true
may_begin kind s (b ∷ raw) = begins_bare s (kind b)

-- a byte right behind the brace or the quote that closes a word
abbrev pub is_glued : Kind → Bool
is_glued kinds.Blank = false
is_glued kinds.LineEnd = false
is_glued kinds.Feed = false
is_glued kinds.Semicolon = false
is_glued kinds.Backslash = false
is_glued k = true

-- a word, or the end of a command and its place: its line end, its semicolon, or the end of the text
pub data Token : Type 0 where
  Word : WordForm → List ℕ → Place → Token
  End : Place → Token

-- the words and the ends of commands in the rest of a text, from a stand and a place on, and where it leaves the form, if it does
pub data Spells (kind : ℕ → Kind) : Stand → Place → List ℕ → List Token → Option Stop → Type 0 where
  Blank : (s : Stand) (p : Place) (b : ℕ) (rest : List ℕ) (ts : List Token) (x : Option Stop) → is_apart (kind b) ≡ true → Spells kind (apart s) (past_byte p b) rest ts x → Spells kind s p (b ∷ rest) ts x
  -- a backslash before a line end joins two lines
  Join : (s : Stand) (p : Place) (a b : ℕ) (rest : List ℕ) (ts : List Token) (x : Option Stop) → kind a ≡ kinds.Backslash → is_line_end (kind b) ≡ true
      → Spells kind (apart s) (past p (a ∷ b ∷ [])) rest ts x → Spells kind s p (a ∷ (b ∷ rest)) ts x
  -- an end of a command that has not begun
  Idle : (p : Place) (b : ℕ) (rest : List ℕ) (ts : List Token) (x : Option Stop) → is_end (kind b) ≡ true → Spells kind Fresh (past_byte p b) rest ts x → Spells kind Fresh p (b ∷ rest) ts x
  -- a comment ends with its line, whatever it holds
  Comment : (p : Place) (a : ℕ) (inner : List ℕ) (b : ℕ) (rest : List ℕ) (ts : List Token) (x : Option Stop)
      → kind a ≡ kinds.Hash → list_all (λ c. not (is_line_end (kind c))) inner ≡ true → is_line_end (kind b) ≡ true
      → Spells kind Fresh (past p (a ∷ (inner ++ b ∷ []))) rest ts x → Spells kind Fresh p (a ∷ (inner ++ (b ∷ rest))) ts x
  LastComment : (p : Place) (a : ℕ) (inner : List ℕ) → kind a ≡ kinds.Hash → list_all (λ c. not (is_line_end (kind c))) inner ≡ true → Spells kind Fresh p (a ∷ inner) [] None
  EndOf : (s : Stand) (p : Place) (b : ℕ) (rest : List ℕ) (ts : List Token) (x : Option Stop) → is_begun s ≡ true → is_end (kind b) ≡ true
      → Spells kind Fresh (past_byte p b) rest ts x → Spells kind s p (b ∷ rest) (End p ∷ ts) x
  Done : (p : Place) → Spells kind Fresh p [] [] None
  DoneIn : (s : Stand) (p : Place) → is_begun s ≡ true → Spells kind s p [] (End p ∷ []) None
  Bare : (s : Stand) (p : Place) (raw said rest : List ℕ) (ts : List Token) (x : Option Stop) → takes_word s ≡ true → has_some raw ≡ true → may_begin kind s raw ≡ true → Saying kind false raw said
      → Spells kind Ended (past p raw) rest ts x → Spells kind s p (raw ++ rest) (Word forms.Bare (characters said) p ∷ ts) x
  Braces : (s : Stand) (p : Place) (a : ℕ) (inner : List ℕ) (b : ℕ) (rest : List ℕ) (ts : List Token) (x : Option Stop) → takes_word s ≡ true
      → kind a ≡ kinds.OpenBrace → are_balanced kind inner ≡ true → kind b ≡ kinds.CloseBrace
      → Spells kind Behind (past p (a ∷ (inner ++ b ∷ []))) rest ts x → Spells kind s p (a ∷ (inner ++ (b ∷ rest))) (Word forms.Braces (characters inner) p ∷ ts) x
  Quotes : (s : Stand) (p : Place) (a : ℕ) (raw said : List ℕ) (b : ℕ) (rest : List ℕ) (ts : List Token) (x : Option Stop) → takes_word s ≡ true
      → kind a ≡ kinds.Quote → Saying kind true raw said → kind b ≡ kinds.Quote
      → Spells kind Behind (past p (a ∷ (raw ++ b ∷ []))) rest ts x → Spells kind s p (a ∷ (raw ++ (b ∷ rest))) (Word forms.Quotes (characters said) p ∷ ts) x
  -- from here on, where the text leaves the form: within a word, and right behind braces or quotes
  InBare : (s : Stand) (p : Place) (raw said rest : List ℕ) (x : Stop) → takes_word s ≡ true → may_begin kind s raw ≡ true → Saying kind false raw said
      → Fault kind false (past p raw) rest x → Spells kind s p (raw ++ rest) [] (Some x)
  InBraces : (s : Stand) (p : Place) (a : ℕ) (inner : List ℕ) → takes_word s ≡ true → kind a ≡ kinds.OpenBrace → are_open kind inner ≡ true
      → Spells kind s p (a ∷ inner) [] (Some (stops.Syntax (past p (a ∷ inner))))
  InQuotes : (s : Stand) (p : Place) (a : ℕ) (raw said rest : List ℕ) (x : Stop) → takes_word s ≡ true → kind a ≡ kinds.Quote → Saying kind true raw said
      → Fault kind true (past p (a ∷ raw)) rest x → Spells kind s p (a ∷ (raw ++ rest)) [] (Some x)
  Glued : (p : Place) (b : ℕ) (rest : List ℕ) → is_glued (kind b) ≡ true → Spells kind Behind p (b ∷ rest) [] (Some (stops.Syntax p))
  GluedEscape : (p : Place) (a b : ℕ) (rest : List ℕ) → kind a ≡ kinds.Backslash → is_line_end (kind b) ≡ false → Spells kind Behind p (a ∷ (b ∷ rest)) [] (Some (stops.Syntax p))
  LastEscape : (p : Place) (a : ℕ) → kind a ≡ kinds.Backslash → Spells kind Behind p (a ∷ []) [] (Some (stops.Syntax (past_byte p a)))

-- ---- commands

-- the commands that end, the place of each end, and the words of the command that does not
pub record Gathered : Type 0 where
  pub commands : List (List WordView)
  pub ends : List Place
  pub words : List WordView

abbrev pub none_yet : Gathered
none_yet = record { commands = []; ends = []; words = [] }

abbrev pub with_word : WordView → Gathered → Gathered
with_word w g = record { commands = g.commands; ends = g.ends; words = g.words ++ w ∷ [] }

abbrev pub with_end : Place → Gathered → Gathered
with_end p g = record { commands = g.commands ++ g.words ∷ []; ends = g.ends ++ p ∷ []; words = [] }

abbrev pub with_tokens : Gathered → List Token → Gathered
with_tokens g [] = g
with_tokens g (Word form text p ∷ ts) = with_tokens (with_word (record { text = text; form = form; place = p }) g) ts
with_tokens g (End p ∷ ts) = with_tokens (with_end p g) ts

-- what is read of a text, and where it leaves the form, if it does
pub record Outcome : Type 0 where
  pub gathered : Gathered
  pub stop : Option Stop

abbrev pub outcome_of : Gathered → Option Stop → Outcome
outcome_of g stop = record { gathered = g; stop = stop }

-- what is read of a whole text, in which a command may begin at once
pub record Denotes (text : List ℕ) (outcome : Outcome) : Type 0 where
  pub tokens : List Token
  pub stop : Option Stop
  pub spelled : Spells kind_of Fresh places.start text tokens stop
  pub is : outcome ≡ outcome_of (with_tokens none_yet tokens) stop

-- what is read of the content of a word as a list, whose first byte has a place: its elements are the words of one command
pub record DenotesList (p : Place) (content : List ℕ) (outcome : Outcome) : Type 0 where
  pub tokens : List Token
  pub stop : Option Stop
  pub spelled : Spells list_kind_of Between p content tokens stop
  pub is : outcome ≡ outcome_of (with_tokens none_yet tokens) stop
