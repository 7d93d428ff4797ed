-- The tokens of a whole text, each with its place (own rule).
use Rattle.std.specs.Prelude.{ℕ, zero, suc, ◌+◌, ◌-◌, true, false, List, [], ◌∷◌, length, map, take, drop, Option, Some, None}
use Rattle.lp_liberty.specs.declared.mark.Mark.TheVariants as marks
use Rattle.lp_liberty.specs.declared.mark.Sort.{Sort}
use Rattle.lp_liberty.specs.declared.mark.Sort.TheVariants as sorts
use Rattle.lp_liberty.specs.declared.mark.Context.{Context}
use Rattle.lp_liberty.specs.declared.mark.Context.TheVariants as contexts
use Rattle.lp_liberty.specs.declared.lexed.Lexed.{Lexed}
use Rattle.lp_liberty.specs.Lexing.{lexed_at, name_of}
use Rattle.lp_liberty.specs.Grammar.{Token, Name, Sign}

-- a token, the place of its first byte and the number of its bytes
pub record Placed : Type 0 where
  pub at : ℕ
  pub size : ℕ
  pub token : Token

abbrev pub bare : List Placed → List Token
bare tokens = map (λ (t : Placed). t.token) tokens

-- arguments stand in parentheses behind a word, items behind a colon up to a semicolon, a line end or a closing brace
abbrev pub behind_statement : Token → Context
behind_statement (Sign marks.ParenOpen) = contexts.Args
behind_statement (Sign marks.Colon) = contexts.Items
behind_statement t = contexts.Statement

abbrev pub behind_args : Token → Context
behind_args (Name quoted w) = contexts.BehindArg
behind_args (Sign marks.ParenClose) = contexts.Statement
behind_args t = contexts.Args

abbrev pub behind_items : Token → Context
behind_items (Sign marks.Semicolon) = contexts.Statement
behind_items (Sign marks.LineEnd) = contexts.Statement
behind_items (Sign marks.BraceClose) = contexts.Statement
behind_items t = contexts.Items

abbrev pub behind : Context → Token → Context
behind contexts.Statement t = behind_statement t
behind contexts.Args t = behind_args t
behind contexts.BehindArg t = behind_args t
behind contexts.Items t = behind_items t

-- the bytes of a text from one number to another
abbrev pub between : List ℕ → ℕ → ℕ → List ℕ
between text from end = take (end - from) (drop from text)

abbrev pub placed : ℕ → Lexed → Token → Placed
placed at l t = record { at = at + l.start; size = l.size; token = t }

abbrev pub token_of : List ℕ → Lexed → Sort → Option Token
token_of text l sorts.End = None
token_of text l sorts.Word = Some (Name false (name_of (between text l.from l.«to»)))
token_of text l sorts.Quoted = Some (Name true (name_of (between text l.from l.«to»)))
token_of text l (sorts.Mark m) = Some (Sign m)

abbrev pub listed : (Token → List Placed) → Option Token → List Placed
listed more None = []
listed more (Some t) = more t

-- the tokens from a byte on, at most this many
abbrev pub tokens_from : ℕ → Context → ℕ → List ℕ → List Placed
tokens_from zero c at text = []
tokens_from (suc k) c at text =
    let l = lexed_at c text in
    listed (λ t. placed at l t ∷ tokens_from k (behind c t) (at + (l.start + l.size)) (drop (l.start + l.size) text)) (token_of text l l.sort)

-- each token has a byte of its own or stands at the end of a comment that has two
abbrev pub tokens_of : List ℕ → List Placed
tokens_of text = tokens_from (length text) contexts.Statement 0 text
