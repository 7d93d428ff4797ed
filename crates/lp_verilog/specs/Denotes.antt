-- What a text denotes: its tokens lead from the start of the grammar to a list of modules, or to the first token that
-- cannot stand where it does. Names are numbers of a table.
use Rattle.std.specs.Prelude.{◌≡◌, ℕ, ◌+◌, ◌-◌, Bool, true, false, List, [], ◌∷◌, length, unwrap_or, Some, None}
use Rattle.lp_text.specs.Texts.{place_of, has_text}
use Rattle.lp_model.specs.declared.netlist.Module.{Module}
use Rattle.lp_verilog_tokens.specs.declared.token.Token.{Token}
use Rattle.lp_verilog_tokens.specs.declared.token.Token.TheVariants as tokens
use Rattle.lp_verilog_grammar.specs.declared.reader.Reader.{Reader}
use Rattle.lp_verilog_tokens.specs.Cutting.{Lexeme, Named, Plain, Piece, piece_of}
use Rattle.lp_verilog_draft.specs.Verdicts.{Verdict, Goes, Stops}
use Rattle.lp_verilog_grammar.specs.Machine.{start, step}
use Rattle.lp_verilog.specs.Reading.{Outcome, Whole, Left, ending, behind, piece_bytes, unnamed}

-- a token whose name is numbered by a table
abbrev pub numbered : List (List ℕ) → Lexeme → Token
numbered names (Named text) = tokens.Name (record { 0 = unwrap_or (place_of text names) 0 })
numbered names (Plain token) = unnamed token

-- a name of the table, or no name
abbrev pub is_known : List (List ℕ) → Lexeme → Bool
is_known names (Named text) = has_text text names
is_known names (Plain token) = true

-- a step goes on, or it stops at the last of the tokens
abbrev pub Follows : (Reader → Type 0) → List Piece → ℕ → List ℕ → Outcome → Verdict Reader → Type 0
Follows more tokens at bytes o (Goes m) = more m
Follows more tokens at bytes o (Stops off) = (tokens ≡ []) × (o ≡ Left off at bytes)

module _ (names : List (List ℕ)) (size : ℕ) where
  -- these tokens stand in what is left of a text of some size, one after the other, and lead from a state to an outcome
  abbrev pub Leads : List Piece → Bool → List ℕ → Reader → Outcome → Type 0
  Leads [] fresh rest m o = (piece_of fresh rest ≡ None) × (o ≡ ending size m)
  Leads (p ∷ tokens) fresh rest m o =
      (piece_of fresh rest ≡ Some p)
      × (is_known names p.lexeme ≡ true)
      × Follows (λ n. Leads tokens false (behind p rest) n o) tokens (size - length rest + p.gap) (piece_bytes p rest) o (step (numbered names p.lexeme) (size - length rest + p.gap) m)

-- the tokens of a text, and the outcome to which they lead
pub record LeadsTo (names : List (List ℕ)) (text : List ℕ) (o : Outcome) : Type 0 where
  pub tokens : List Piece
  pub leads : Leads names (length text) tokens true text start o

-- the text denotes these modules, whose names are numbers of the table
abbrev pub Denotes : List (List ℕ) → List ℕ → List Module → Type 0
Denotes names text modules = LeadsTo names text (Whole modules)
