-- How a text is cut into tokens (IEEE 1364-2005, lexical conventions): the gap before a token, and the longest token.
use Rattle.std.specs.Prelude.{ℕ, ◌+◌, Bool, true, false, ◌&&◌, ◌||◌, ◌==◌, nat_lt, List, [], ◌∷◌, length, take, drop, bytes_eq, codes, Option, Some, None, if◌then◌else◌}
use Rattle.std.specs.List.{prefix_len}
use Rattle.lp_text.specs.Texts.{has_text}
use Rattle.lp_verilog_tokens.specs.Lexical.{is_blank, is_lead, is_digit, is_inner, is_number_byte, is_constant_byte, is_visible}
use Rattle.lp_verilog_tokens.specs.Reserved.{reserved_words, reserved_token}
use Rattle.lp_verilog_tokens.specs.Constants.{number_of, constant_of}
use Rattle.lp_verilog_tokens.specs.declared.token.Token.{Token}
use Rattle.lp_verilog_tokens.specs.declared.token.Token.TheVariants as tokens
use Rattle.lp_verilog_tokens.specs.declared.token.Mark.TheVariants as marks
use Rattle.lp_verilog_tokens.specs.declared.gap.Inside.{Inside}
use Rattle.lp_verilog_tokens.specs.declared.gap.Inside.TheVariants.{Line, Comment, Attribute}
use Rattle.lp_verilog_tokens.specs.declared.gap.GapMode.{GapMode}
use Rattle.lp_verilog_tokens.specs.declared.gap.GapMode.TheVariants.{Between, Opening, Within, Star}

-- the word timescale, and that it ends there
abbrev pub is_timescale : List ℕ → Bool
is_timescale rest = bytes_eq (take (prefix_len is_inner rest) rest) (codes "timescale")

-- what begins with a byte and the bytes behind it: // or /* or (*, or a directive `timescale on a line of its own
abbrev pub opening : Bool → ℕ → List ℕ → Option Inside
opening fresh b [] = None
opening fresh b (c ∷ rest) =
    if (b == 47) && (c == 47) then Some Line
    else if (b == 47) && (c == 42) then Some Comment
    else if (b == 40) && (c == 42) then Some Attribute
    else if (b == 96) && (fresh && is_timescale (c ∷ rest)) then Some Line
    else None

-- the byte that ends it: the end of a line, or / or ) behind a star
abbrev pub within : Inside → ℕ → GapMode
within Line b = if b == 10 then Between true else Within Line
within Comment b = if b == 42 then Star Comment else Within Comment
within Attribute b = if b == 42 then Star Attribute else Within Attribute

abbrev pub closer : Inside → ℕ
closer Line = 10
closer Comment = 47
closer Attribute = 41

abbrev pub opened : Option Inside → Option GapMode
opened None = None
opened (Some inside) = Some (Opening inside)

-- one byte of a gap; none where a token begins
abbrev pub gap_step : GapMode → ℕ → List ℕ → Option GapMode
gap_step (Between fresh) b rest = if is_blank b then Some (Between (fresh || (b == 10))) else opened (opening fresh b rest)
gap_step (Opening inside) b rest = Some (Within inside)
gap_step (Within inside) b rest = Some (within inside b)
gap_step (Star inside) b rest = if b == closer inside then Some (Between false) else Some (within inside b)

-- a comment or an attribute that has not ended
abbrev pub is_open : GapMode → Bool
is_open (Between fresh) = false
is_open (Opening inside) = true
is_open (Within Line) = false
is_open (Within Comment) = true
is_open (Within Attribute) = true
is_open (Star inside) = true

abbrev pub go_on : ℕ → (GapMode → Option ℕ) → Option GapMode → Option ℕ
go_on n more None = Some n
go_on n more (Some mode) = more mode

-- the bytes of a gap, behind n of them; none where the text ends in a comment or an attribute
abbrev pub gap_behind : GapMode → ℕ → List ℕ → Option ℕ
gap_behind mode n [] = if is_open mode then None else Some n
gap_behind mode n (b ∷ rest) = go_on n (λ m. gap_behind m (n + 1) rest) (gap_step mode b rest)

-- a name, or a token that is none
pub data Lexeme : Type 0 where
  Named : List ℕ → Lexeme
  Plain : Token → Lexeme

-- a token and its size, or a text that ends inside a token
pub data Front : Type 0 where
  Whole : ℕ → Lexeme → Front
  Cut : Front

abbrev pub word_lexeme : List ℕ → Lexeme
word_lexeme w = if has_text w reserved_words then Plain (reserved_token w) else Named w

-- letters, digits, _ and $ behind the first byte
abbrev pub word_front : List ℕ → Front
word_front text = Whole (prefix_len is_inner text) (word_lexeme (take (prefix_len is_inner text) text))

abbrev pub quoted_front : ℕ → List ℕ → List ℕ → Front
quoted_front n size rest = Whole (n + 1 + prefix_len is_constant_byte rest) (Plain (constant_of size (take (prefix_len is_constant_byte rest) rest)))

-- a number, or a constant where a quote follows
abbrev pub number_front : ℕ → List ℕ → List ℕ → Front
number_front n run [] = Whole n (Plain (tokens.Number (number_of run)))
number_front n run (b ∷ rest) = if b == 39 then quoted_front n run rest else Whole n (Plain (tokens.Number (number_of run)))

-- visible bytes up to a blank; the backslash before them has been read
abbrev pub escaped_front : ℕ → List ℕ → List ℕ → Front
escaped_front n name [] = Cut
escaped_front n name (b ∷ rest) = if is_blank b && nat_lt 0 n then Whole (n + 1) (Named name) else Whole 1 (Plain tokens.Broken)

-- a directive, whose backquote has been read
abbrev pub directive_front : List ℕ → Front
directive_front [] = Whole 1 (Plain tokens.Broken)
directive_front (b ∷ rest) = if is_lead b then Whole (prefix_len is_inner (b ∷ rest) + 1) (Plain tokens.Foreign) else Whole 1 (Plain tokens.Broken)

abbrev pub mark_of : ℕ → Token
mark_of b =
    if b == 40 then tokens.Mark marks.Open
    else if b == 41 then tokens.Mark marks.Close
    else if b == 91 then tokens.Mark marks.OpenBracket
    else if b == 93 then tokens.Mark marks.CloseBracket
    else if b == 123 then tokens.Mark marks.OpenBrace
    else if b == 125 then tokens.Mark marks.CloseBrace
    else if b == 44 then tokens.Mark marks.Comma
    else if b == 59 then tokens.Mark marks.Semicolon
    else if b == 58 then tokens.Mark marks.Colon
    else if b == 46 then tokens.Mark marks.Dot
    else if b == 61 then tokens.Mark marks.Equals
    else tokens.Broken

abbrev pub number_at : List ℕ → Front
number_at text = number_front (prefix_len is_number_byte text) (take (prefix_len is_number_byte text) text) (drop (prefix_len is_number_byte text) text)

abbrev pub escaped_at : List ℕ → Front
escaped_at rest = escaped_front (prefix_len is_visible rest) (take (prefix_len is_visible rest) rest) (drop (prefix_len is_visible rest) rest)

-- the token that begins with a byte
abbrev pub front_of : ℕ → List ℕ → Front
front_of b rest =
    if is_lead b then word_front (b ∷ rest)
    else if is_digit b then number_at (b ∷ rest)
    else if b == 39 then quoted_front 0 [] rest
    else if b == 92 then escaped_at rest
    else if b == 96 then directive_front rest
    else Whole 1 (Plain (mark_of b))

-- the bytes before a token, its bytes, and what it is
pub record Piece : Type 0 where
  pub gap : ℕ
  pub size : ℕ
  pub lexeme : Lexeme

-- a text that ends inside a token is broken at its end
abbrev pub placed : ℕ → ℕ → Front → Piece
placed end gap (Whole size lexeme) = record { gap = gap; size = size; lexeme = lexeme }
placed end gap Cut = record { gap = end; size = 0; lexeme = Plain tokens.Broken }

abbrev pub piece_behind : ℕ → ℕ → List ℕ → Option Piece
piece_behind end gap [] = None
piece_behind end gap (b ∷ rest) = Some (placed end gap (front_of b rest))

abbrev pub piece_after : List ℕ → Option ℕ → Option Piece
piece_after text None = Some (placed (length text) 0 Cut)
piece_after text (Some gap) = piece_behind (length text) gap (drop gap text)

-- the first token of a text, none where there is only a gap; whether only blanks stand before it on its line
abbrev pub piece_of : Bool → List ℕ → Option Piece
piece_of fresh text = piece_after text (gap_behind (Between fresh) 0 text)
