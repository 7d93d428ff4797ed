-- The tokens of a Liberty text (own rule).
use Rattle.std.specs.Prelude.{ℕ, ◌+◌, ◌==◌, Bool, true, false, not, ◌&&◌, ◌||◌, nat_lt, List, [], ◌∷◌, ◌++◌, length, drop, Option, Some, None, if◌then◌else◌, encode_utf8}
use Rattle.lp_liberty.specs.declared.mark.Mark.{Mark}
use Rattle.lp_liberty.specs.declared.mark.Mark.TheVariants as marks
use Rattle.lp_liberty.specs.declared.mark.Sort.{Sort}
use Rattle.lp_liberty.specs.declared.mark.Sort.TheVariants as sorts
use Rattle.lp_liberty.specs.declared.mark.Context.{Context}
use Rattle.lp_liberty.specs.declared.mark.Context.TheVariants as contexts
use Rattle.lp_liberty.specs.declared.mark.Gap.{Gap}
use Rattle.lp_liberty.specs.declared.mark.Gap.TheVariants as gaps
use Rattle.lp_liberty.specs.declared.gap.Skipped.{Skipped}
use Rattle.lp_liberty.specs.declared.lexed.Lexed.{Lexed}

abbrev pub begins_with : ℕ → List ℕ → Bool
begins_with b [] = false
begins_with b (c ∷ text) = c == b

-- ---- what stands between tokens

-- space, line feed, tab, carriage return and form feed
abbrev pub is_blank : ℕ → Bool
is_blank b = (b == 32) || ((b == 10) || ((b == 9) || ((b == 13) || (b == 12))))

abbrev pub gap_start : Gap
gap_start = gaps.Plain false

-- a gap separates names where it has a blank or a comment
abbrev pub separates : Gap → Bool
separates (gaps.Plain s) = s
separates (gaps.Joined s) = s
separates gaps.Opening = true
separates gaps.Comment = true
separates gaps.Closing = true

abbrev pub is_cut : Gap → Bool
is_cut (gaps.Plain s) = false
is_cut (gaps.Joined s) = false
is_cut gaps.Opening = true
is_cut gaps.Comment = true
is_cut gaps.Closing = true

-- a backslash before a line feed joins two lines; a slash before a star opens a comment, up to the next star before a slash
abbrev pub gap_step : Bool → Gap → ℕ → List ℕ → Option Gap
gap_step lines (gaps.Plain s) b rest =
    if (b == 92) && begins_with 10 rest then Some (gaps.Joined s)
    else if (b == 47) && begins_with 42 rest then Some gaps.Opening
    else if is_blank b && not (lines && (b == 10)) then Some (gaps.Plain true)
    else None
gap_step lines (gaps.Joined s) b rest = Some (gaps.Plain s)
gap_step lines gaps.Opening b rest = Some gaps.Comment
gap_step lines gaps.Comment b rest = if (b == 42) && begins_with 47 rest then Some gaps.Closing else Some gaps.Comment
gap_step lines gaps.Closing b rest = Some (gaps.Plain true)

abbrev pub skip_on : Gap → ℕ → (Gap → Skipped) → Option Gap → Skipped
skip_on gap at more None = record { size = at; gap = separates gap; cut = false }
skip_on gap at more (Some next) = more next

abbrev pub skip : Bool → Gap → ℕ → List ℕ → Skipped
skip lines gap at [] = record { size = at; gap = separates gap; cut = is_cut gap }
skip lines gap at (b ∷ rest) = skip_on gap at (λ next. skip lines next (at + 1) rest) (gap_step lines gap b rest)

-- ---- words and strings

-- the marks of the form but for the colon, and the quote
abbrev pub is_sign : ℕ → Bool
is_sign b = (b == 40) || ((b == 41) || ((b == 123) || ((b == 125) || ((b == 59) || ((b == 44) || (b == 34))))))

-- ASCII characters but for blanks, marks and the quote; the colon is one among arguments
abbrev pub is_word : Bool → ℕ → Bool
is_word in_args b = if is_blank b then false else if is_sign b then false else if b == 58 then in_args else nat_lt b 128

-- a word goes on with bytes of words that open no comment, and with a line feed right behind a backslash
abbrev pub goes_on : Bool → Bool → ℕ → List ℕ → Bool
goes_on in_args joining b rest = if is_word in_args b then not ((b == 47) && begins_with 42 rest) else joining && (b == 10)

abbrev pub word_end : Bool → Bool → ℕ → List ℕ → ℕ
word_end in_args joining at [] = at
word_end in_args joining at (b ∷ rest) = if goes_on in_args joining b rest then word_end in_args (b == 92) (at + 1) rest else at

-- a string ends with the first quote that does not stand right behind a backslash
abbrev pub string_end : Bool → ℕ → List ℕ → Option ℕ
string_end escaped at [] = None
string_end escaped at (b ∷ rest) = if (b == 34) && not escaped then Some at else string_end (b == 92) (at + 1) rest

-- a backslash before a line feed or a quote stands for nothing
abbrev pub drops : ℕ → List ℕ → Bool
drops b rest = (b == 92) && (begins_with 10 rest || begins_with 34 rest)

-- what a word or a string says, byte by byte: neither such a backslash nor the line feed behind it
abbrev pub said : Bool → List ℕ → List ℕ
said joining [] = []
said joining (b ∷ rest) = if drops b rest then said true rest else if joining && (b == 10) then said false rest else b ∷ said false rest

-- bytes as text, each as the character with its code
abbrev pub characters : List ℕ → List ℕ
characters [] = []
characters (b ∷ bytes) = encode_utf8 b ++ characters bytes

abbrev pub name_of : List ℕ → List ℕ
name_of bytes = characters (said false bytes)

-- ---- tokens

abbrev pub mark_of : ℕ → Mark
mark_of b =
    if b == 40 then marks.ParenOpen
    else if b == 41 then marks.ParenClose
    else if b == 123 then marks.BraceOpen
    else if b == 125 then marks.BraceClose
    else if b == 58 then marks.Colon
    else if b == 59 then marks.Semicolon
    else if b == 44 then marks.Comma
    else if b == 10 then marks.LineEnd
    else marks.Broken

abbrev pub is_end : Sort → Bool
is_end sorts.End = true
is_end sorts.Word = false
is_end sorts.Quoted = false
is_end (sorts.Mark k) = false

abbrev pub is_items : Context → Bool
is_items contexts.Items = true
is_items contexts.Statement = false
is_items contexts.Args = false
is_items contexts.BehindArg = false

abbrev pub is_args : Context → Bool
is_args contexts.Args = true
is_args contexts.BehindArg = true
is_args contexts.Statement = false
is_args contexts.Items = false

-- two arguments have a comma, a blank or a comment between them
abbrev pub is_glued : Context → Bool → Bool
is_glued contexts.BehindArg gap = not gap
is_glued contexts.Statement gap = false
is_glued contexts.Args gap = false
is_glued contexts.Items gap = false

abbrev pub word_at : Context → Bool → ℕ → List ℕ → Lexed
word_at c gap start rest =
    let size = word_end (is_args c) false 0 rest in
    record { start = start; size = size; from = start; «to» = start + size; sort = if is_glued c gap then sorts.Mark marks.Broken else sorts.Word }

-- the bytes of a string behind its first quote, and the bytes of the token
abbrev pub string_size : List ℕ → Option ℕ → ℕ × ℕ
string_size rest (Some end) = (end, end + 2)
string_size rest None = (length rest, length rest + 1)

abbrev pub quoted_at : Context → Bool → ℕ → List ℕ → Lexed
quoted_at c gap start rest =
    let sizes = string_size rest (string_end false 0 rest) in
    record { start = start; size = sizes.1; from = start + 1; «to» = start + 1 + sizes.0; sort = if is_glued c gap then sorts.Mark marks.Broken else sorts.Quoted }

abbrev pub beginning : Context → Bool → ℕ → List ℕ → Lexed
beginning c gap start [] = record { start = start; size = 0; from = start; «to» = start; sort = sorts.End }
beginning c gap start (b ∷ rest) =
    if b == 34 then quoted_at c gap start rest
    else if is_word (is_args c) b then word_at c gap start (b ∷ rest)
    else record { start = start; size = 1; from = start; «to» = start; sort = sorts.Mark (mark_of b) }

-- the first token of a text; where the text ends in a comment, a broken one at its end
abbrev pub behind_gap : Context → List ℕ → Skipped → Lexed
behind_gap c text s =
    if s.cut then record { start = s.size; size = 0; from = s.size; «to» = s.size; sort = sorts.Mark marks.Broken }
    else beginning c s.gap s.size (drop s.size text)

abbrev pub lexed_at : Context → List ℕ → Lexed
lexed_at c text = behind_gap c text (skip (is_items c) gap_start 0 text)
