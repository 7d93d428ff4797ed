-- Which tokens stand in a Liberty text, apart from any reader (own rule).
use Rattle.std.specs.Prelude.{ℕ, ◌+◌, ◌==◌, Bool, true, false, not, ◌&&◌, ◌||◌, IsTrue, List, [], ◌∷◌, ◌++◌, length, drop, Option, Some, None, if◌then◌else◌}
use Rattle.lp_liberty.specs.declared.mark.Mark.TheVariants as marks
use Rattle.lp_liberty.specs.declared.mark.Context.{Context}
use Rattle.lp_liberty.specs.Grammar.{Token, Name, Sign}
use Rattle.lp_liberty.specs.Lexing.{begins_with, is_blank, is_items, is_args, is_glued, is_word, goes_on, mark_of, name_of}
use Rattle.lp_liberty.specs.Tokens.{Placed, behind}

-- no star before a slash
abbrev pub no_close : List ℕ → Bool
no_close [] = true
no_close (b ∷ rest) = not ((b == 42) && begins_with 47 rest) && no_close rest

-- what stands between tokens, and whether it separates names: blanks, joined lines and comments
pub data Gap (lines : Bool) : List ℕ → Bool → Type 0 where
  Empty : Gap lines [] false
  Blank : (b : ℕ) (rest : List ℕ) (s : Bool) → IsTrue (is_blank b && not (lines && (b == 10))) → Gap lines rest s → Gap lines (b ∷ rest) true
  Join : (rest : List ℕ) (s : Bool) → Gap lines rest s → Gap lines (92 ∷ (10 ∷ rest)) s
  Comment : (body rest : List ℕ) (s : Bool) → IsTrue (no_close body) → Gap lines rest s → Gap lines (47 ∷ (42 ∷ (body ++ (42 ∷ (47 ∷ rest))))) true

-- whether a blank, a joined line or a comment begins here
abbrev pub begins_gap : Bool → List ℕ → Bool
begins_gap lines [] = false
begins_gap lines (b ∷ rest) = ((b == 92) && begins_with 10 rest) || (((b == 47) && begins_with 42 rest) || (is_blank b && not (lines && (b == 10))))

-- the longest run of bytes that belong to a word: each goes on, and the byte behind them does not
abbrev pub ends_word : Bool → Bool → List ℕ → Bool
ends_word in_args joining [] = true
ends_word in_args joining (b ∷ rest) = not (goes_on in_args joining b rest)

abbrev pub is_run : Bool → Bool → List ℕ → List ℕ → Bool
is_run in_args joining [] rest = ends_word in_args joining rest
is_run in_args joining (b ∷ raw) rest = goes_on in_args joining b (raw ++ rest) && is_run in_args (b == 92) raw rest

-- each quote stands right behind a backslash
abbrev pub are_escaped : Bool → List ℕ → Bool
are_escaped escaped [] = true
are_escaped escaped (b ∷ rest) = not ((b == 34) && not escaped) && are_escaped (b == 92) rest

-- whether a quote would be escaped behind these bytes
abbrev pub escapes : Bool → List ℕ → Bool
escapes escaped [] = escaped
escapes escaped (b ∷ rest) = escapes (b == 92) rest

-- a name; right behind an argument it is broken
abbrev pub name_token : Context → Bool → Bool → List ℕ → Token
name_token c gap quoted bytes = if is_glued c gap then Sign marks.Broken else Name quoted (name_of bytes)

-- the token at the front of a text where no gap begins, and its bytes; none where the text ends
pub data Front (c : Context) (gap : Bool) : List ℕ → ℕ → Option Token → Type 0 where
  Ended : Front c gap [] 0 None
  Word : (b : ℕ) (raw rest : List ℕ) → IsTrue (not (b == 34)) → IsTrue (is_word (is_args c) b) → IsTrue (is_run (is_args c) false (b ∷ raw) rest) → Front c gap ((b ∷ raw) ++ rest) (length (b ∷ raw)) (Some (name_token c gap false (b ∷ raw)))
  Quoted : (inside rest : List ℕ) → IsTrue (are_escaped false inside) → IsTrue (not (escapes false inside)) → Front c gap (34 ∷ (inside ++ (34 ∷ rest))) (length inside + 2) (Some (name_token c gap true inside))
  Cut : (inside : List ℕ) → IsTrue (are_escaped false inside) → Front c gap (34 ∷ inside) (length inside + 1) (Some (name_token c gap true inside))
  Marked : (b : ℕ) (rest : List ℕ) → IsTrue (not (b == 34)) → IsTrue (not (is_word (is_args c) b)) → Front c gap (b ∷ rest) 1 (Some (Sign (mark_of b)))

-- the first token of a text, the bytes before it and its own; where the text ends in a comment, a broken one at its end
pub data First (c : Context) : List ℕ → ℕ → ℕ → Option Token → Type 0 where
  Behind : (gap rest : List ℕ) (s : Bool) (size : ℕ) (token : Option Token) → Gap (is_items c) gap s → IsTrue (not (begins_gap (is_items c) rest)) → Front c s rest size token → First c (gap ++ rest) (length gap) size token
  InComment : (gap body : List ℕ) (s : Bool) → Gap (is_items c) gap s → IsTrue (no_close body) → First c (gap ++ (47 ∷ (42 ∷ body))) (length (gap ++ (47 ∷ (42 ∷ body)))) 0 (Some (Sign marks.Broken))

-- the tokens of a text from a byte on
pub data Listed : Context → ℕ → List ℕ → List Placed → Type 0 where
  Done : (c : Context) (at : ℕ) (text : List ℕ) (start size : ℕ) → First c text start size None → Listed c at text []
  More : (c : Context) (at : ℕ) (text : List ℕ) (start size : ℕ) (token : Token) (tokens : List Placed) → First c text start size (Some token)
      → Listed (behind c token) (at + (start + size)) (drop (start + size) text) tokens → Listed c at text (record { at = at + start; size = size; token = token } ∷ tokens)
