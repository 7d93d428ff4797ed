-- How a text is read: token by token, the names numbered in a table.
use Rattle.std.specs.Prelude.{ℕ, ◌+◌, ◌-◌, Bool, true, false, List, [], ◌∷◌, length, take, drop, Option, Some, None, unwrap_or, max, if◌then◌else◌}
use Rattle.lp_text.specs.Texts.{place_of, with_text}
use Rattle.lp_model.specs.declared.netlist.Module.{Module}
use Rattle.lp_verilog_tokens.specs.declared.token.Token.{Token}
use Rattle.lp_verilog_tokens.specs.declared.token.Token.TheVariants as tokens
use Rattle.lp_verilog_draft.specs.declared.stop.Off.{Off}
use Rattle.lp_verilog_draft.specs.declared.stop.Off.TheVariants as offs
use Rattle.lp_verilog_grammar.specs.declared.reader.Reader.{Reader}
use Rattle.lp_verilog_tokens.specs.Cutting.{Lexeme, Named, Plain, Piece, piece_of}
use Rattle.lp_verilog_draft.specs.Verdicts.{Verdict, Goes, Stops}
use Rattle.lp_verilog_grammar.specs.Machine.{step, accepts}

-- the number of a name in a table; a new name comes last
abbrev pub number_in : List (List ℕ) → List ℕ → ℕ
number_in names text = unwrap_or (place_of text (with_text names text)) 0

-- a token that is no name
abbrev pub unnamed : Token → Token
unnamed (tokens.Name n) = tokens.Broken
unnamed token = token

abbrev pub token_in : List (List ℕ) → Lexeme → Token
token_in names (Named text) = tokens.Name (record { 0 = number_in names text })
token_in names (Plain token) = unnamed token

abbrev pub names_with : List (List ℕ) → Lexeme → List (List ℕ)
names_with names (Named text) = with_text names text
names_with names (Plain token) = names

-- the tokens that may be refused as not read
abbrev pub is_unread : Token → Bool
is_unread tokens.Foreign = true
is_unread tokens.Unread = true
is_unread (tokens.Number v) = true
is_unread _ = false

abbrev pub left_out : Lexeme → Bool
left_out (Named text) = false
left_out (Plain token) = is_unread token

-- the modules, or the first token that cannot stand where it does: why, the number of its first byte, and its bytes
pub data Outcome : Type 0 where
  Whole : List Module → Outcome
  Left : Off → ℕ → List ℕ → Outcome

-- the outcome, and the table of names
pub record Reading : Type 0 where
  pub outcome : Outcome
  pub names : List (List ℕ)

-- where a text ends
abbrev pub ending : ℕ → Reader → Outcome
ending size m = if accepts m then Whole m.modules else Left offs.Syntax size []

abbrev pub ended : ℕ → List (List ℕ) → Reader → Reading
ended size names m = record { outcome = ending size m; names = names }

-- what is left behind the first token, which has a byte at least
abbrev pub behind : Piece → List ℕ → List ℕ
behind p rest = drop (max p.size 1) (drop p.gap rest)

abbrev pub piece_bytes : Piece → List ℕ → List ℕ
piece_bytes p rest = take p.size (drop p.gap rest)

abbrev pub stepped : (List (List ℕ) → Reader → Reading) → ℕ → Piece → List ℕ → List (List ℕ) → Verdict Reader → Reading
stepped more at p rest names (Goes m) = more names m
stepped more at p rest names (Stops off) = record { outcome = Left off at (piece_bytes p rest); names = names }

abbrev pub turned : (List ℕ → List (List ℕ) → Reader → Reading) → ℕ → List ℕ → List (List ℕ) → Reader → Option Piece → Reading
turned more size rest names m None = ended size names m
turned more size rest names m (Some p) =
    stepped (λ ns n. more (behind p rest) ns n) (size - length rest + p.gap) p rest (names_with names p.lexeme) (step (token_in names p.lexeme) (size - length rest + p.gap) m)

-- what is left of a text of some size; each byte of the first list gives one token leave
abbrev pub read_rest : List ℕ → ℕ → Bool → List ℕ → List (List ℕ) → Reader → Reading
read_rest [] size fresh rest names m = ended size names m
read_rest (b ∷ fuel) size fresh rest names m = turned (λ r ns n. read_rest fuel size false r ns n) size rest names m (piece_of fresh rest)
