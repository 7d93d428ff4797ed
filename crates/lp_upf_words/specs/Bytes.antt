-- What bytes are in a UPF text (IEEE 1801-2015, Tcl syntax).
use Rattle.std.specs.Prelude.{ℕ, Bool, true, false, ◌||◌, ◌&&◌, ◌==◌, nat_le, List, [], ◌∷◌, ◌++◌, encode_utf8, if◌then◌else◌}
use Rattle.lp_upf_words.specs.declared.kind.Kind.{Kind}
use Rattle.lp_upf_words.specs.declared.kind.Kind.TheVariants as kinds

-- space, tab, form feed and carriage return
abbrev pub is_blank : ℕ → Bool
is_blank b = (b == 32) || ((b == 9) || ((b == 12) || (b == 13)))

abbrev pub kind_of : ℕ → Kind
kind_of b =
    if is_blank b then kinds.Blank
    else if b == 10 then kinds.LineEnd
    else if b == 59 then kinds.Semicolon
    else if b == 35 then kinds.Hash
    else if b == 92 then kinds.Backslash
    else if b == 123 then kinds.OpenBrace
    else if b == 125 then kinds.CloseBrace
    else if b == 34 then kinds.Quote
    else if b == 36 then kinds.Dollar
    else if b == 91 then kinds.OpenBracket
    else if b == 93 then kinds.CloseBracket
    else if nat_le 48 b && nat_le b 57 then kinds.Digit
    else kinds.Other

-- in a list a line end is a blank, and the other bytes that a command knows are bytes like others
abbrev pub in_list : Kind → Kind
in_list kinds.LineEnd = kinds.Feed
in_list kinds.Semicolon = kinds.Other
in_list kinds.Hash = kinds.Other
in_list kinds.Dollar = kinds.Other
in_list kinds.OpenBracket = kinds.Other
in_list kinds.CloseBracket = kinds.Other
in_list k = k

abbrev pub list_kind_of : ℕ → Kind
list_kind_of b = in_list (kind_of b)

-- a line end, also one in a list
abbrev pub is_line_end : Kind → Bool
is_line_end kinds.LineEnd = true
is_line_end kinds.Feed = true
is_line_end k = false

-- a blank, also a line end in a list
abbrev pub is_apart : Kind → Bool
is_apart kinds.Blank = true
is_apart kinds.Feed = true
is_apart k = false

abbrev pub is_digit : Kind → Bool
is_digit kinds.Digit = true
is_digit k = false

-- a line end or a semicolon ends a command
abbrev pub is_end : Kind → Bool
is_end kinds.LineEnd = true
is_end kinds.Semicolon = true
is_end k = false

-- bytes as text, each as the character with its code
abbrev pub characters : List ℕ → List ℕ
characters [] = []
characters (b ∷ bytes) = encode_utf8 b ++ characters bytes
