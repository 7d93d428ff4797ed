-- What stands ahead of a token that is too long, by the tokens that follow.
use Rattle.std.proofs.Common.{◌≡◌, ℕ, suc, ◌+◌, Bool, true, false, ◌||◌, List, [], ◌∷◌, ◌++◌, drop, Option, Some, None, refl, sym, ap, ◌∙◌}
use Rattle.std.specs.Prelude.{IfSome, option_and_then}
use Rattle.std.proofs.lemmas.Bool.{true≢false}
use Rattle.lp_liberty.specs.declared.mark.Mark.TheVariants as marks
use Rattle.lp_liberty.specs.declared.mark.Last.TheVariants as lasts
use Rattle.lp_liberty.specs.declared.mark.Mode.{Mode}
use Rattle.lp_liberty.specs.declared.mark.Mode.TheVariants as modes
use Rattle.lp_liberty.specs.declared.lexed.Lexed.{Lexed}
use Rattle.lp_liberty.specs.Grammar.{Token, Name, Sign, Body, below_64}
use Rattle.lp_liberty.specs.Lexing.{lexed_at}
use Rattle.lp_liberty.specs.Tokens.{bare, behind, listed, placed, token_of, tokens_from}
use Rattle.lp_liberty.specs.Machine.{context_of, goes_to, head_mode, is_deep_if_any, is_deep_token, opens_group}
use Rattle.lp_liberty.proofs.Found.{from_some}
use Rattle.lp_liberty.proofs.Zipper.{Frame, in_statement, step_by}

-- the form of a token is that behind the token before it
head_follows : (mode : Mode) (t : Token) → IfSome (head_mode mode t) (λ next. behind (context_of mode) t ≡ context_of next)
head_follows (modes.Begin semi) t = tt
head_follows modes.Named (Name q w) = tt
head_follows modes.Named (Sign marks.ParenOpen) = refl
head_follows modes.Named (Sign marks.ParenClose) = tt
head_follows modes.Named (Sign marks.BraceOpen) = tt
head_follows modes.Named (Sign marks.BraceClose) = tt
head_follows modes.Named (Sign marks.Colon) = tt
head_follows modes.Named (Sign marks.Semicolon) = tt
head_follows modes.Named (Sign marks.Comma) = tt
head_follows modes.Named (Sign marks.LineEnd) = tt
head_follows modes.Named (Sign marks.Broken) = tt
head_follows (modes.Args lasts.Nothing) (Name q w) = refl
head_follows (modes.Args lasts.Nothing) (Sign marks.ParenOpen) = tt
head_follows (modes.Args lasts.Nothing) (Sign marks.ParenClose) = refl
head_follows (modes.Args lasts.Nothing) (Sign marks.BraceOpen) = tt
head_follows (modes.Args lasts.Nothing) (Sign marks.BraceClose) = tt
head_follows (modes.Args lasts.Nothing) (Sign marks.Colon) = tt
head_follows (modes.Args lasts.Nothing) (Sign marks.Semicolon) = tt
head_follows (modes.Args lasts.Nothing) (Sign marks.Comma) = tt
head_follows (modes.Args lasts.Nothing) (Sign marks.LineEnd) = tt
head_follows (modes.Args lasts.Nothing) (Sign marks.Broken) = tt
head_follows (modes.Args lasts.Name) (Name q w) = refl
head_follows (modes.Args lasts.Name) (Sign marks.ParenOpen) = tt
head_follows (modes.Args lasts.Name) (Sign marks.ParenClose) = refl
head_follows (modes.Args lasts.Name) (Sign marks.BraceOpen) = tt
head_follows (modes.Args lasts.Name) (Sign marks.BraceClose) = tt
head_follows (modes.Args lasts.Name) (Sign marks.Colon) = tt
head_follows (modes.Args lasts.Name) (Sign marks.Semicolon) = tt
head_follows (modes.Args lasts.Name) (Sign marks.Comma) = refl
head_follows (modes.Args lasts.Name) (Sign marks.LineEnd) = tt
head_follows (modes.Args lasts.Name) (Sign marks.Broken) = tt
head_follows (modes.Args lasts.Comma) (Name q w) = refl
head_follows (modes.Args lasts.Comma) (Sign marks.ParenOpen) = tt
head_follows (modes.Args lasts.Comma) (Sign marks.ParenClose) = tt
head_follows (modes.Args lasts.Comma) (Sign marks.BraceOpen) = tt
head_follows (modes.Args lasts.Comma) (Sign marks.BraceClose) = tt
head_follows (modes.Args lasts.Comma) (Sign marks.Colon) = tt
head_follows (modes.Args lasts.Comma) (Sign marks.Semicolon) = tt
head_follows (modes.Args lasts.Comma) (Sign marks.Comma) = tt
head_follows (modes.Args lasts.Comma) (Sign marks.LineEnd) = tt
head_follows (modes.Args lasts.Comma) (Sign marks.Broken) = tt
head_follows modes.Behind t = tt
head_follows modes.Items t = tt

-- the machine takes each token of the head of a group, and its frames stay
abbrev pub Taken : List Frame → Body → Mode → List ℕ → List Token → Token → Mode → Type 0
Taken fs d mode w held t next = (more : List Token) × (step_by below_64 fs d mode w held t ≡ Some (in_statement fs d next w more))

head_taken : (fs : List Frame) (d : Body) (mode : Mode) (w : List ℕ) (held : List Token) (t : Token) → IfSome (head_mode mode t) (Taken fs d mode w held t)
head_taken fs d (modes.Begin semi) w held t = tt
head_taken fs d modes.Named w held (Name q n) = tt
head_taken fs d modes.Named w held (Sign marks.ParenOpen) = ([], refl)
head_taken fs d modes.Named w held (Sign marks.ParenClose) = tt
head_taken fs d modes.Named w held (Sign marks.BraceOpen) = tt
head_taken fs d modes.Named w held (Sign marks.BraceClose) = tt
head_taken fs d modes.Named w held (Sign marks.Colon) = tt
head_taken fs d modes.Named w held (Sign marks.Semicolon) = tt
head_taken fs d modes.Named w held (Sign marks.Comma) = tt
head_taken fs d modes.Named w held (Sign marks.LineEnd) = tt
head_taken fs d modes.Named w held (Sign marks.Broken) = tt
head_taken fs d (modes.Args lasts.Nothing) w held (Name q n) = (held ++ Name q n ∷ [], refl)
head_taken fs d (modes.Args lasts.Nothing) w held (Sign marks.ParenOpen) = tt
head_taken fs d (modes.Args lasts.Nothing) w held (Sign marks.ParenClose) = (held, refl)
head_taken fs d (modes.Args lasts.Nothing) w held (Sign marks.BraceOpen) = tt
head_taken fs d (modes.Args lasts.Nothing) w held (Sign marks.BraceClose) = tt
head_taken fs d (modes.Args lasts.Nothing) w held (Sign marks.Colon) = tt
head_taken fs d (modes.Args lasts.Nothing) w held (Sign marks.Semicolon) = tt
head_taken fs d (modes.Args lasts.Nothing) w held (Sign marks.Comma) = tt
head_taken fs d (modes.Args lasts.Nothing) w held (Sign marks.LineEnd) = tt
head_taken fs d (modes.Args lasts.Nothing) w held (Sign marks.Broken) = tt
head_taken fs d (modes.Args lasts.Name) w held (Name q n) = (held ++ Name q n ∷ [], refl)
head_taken fs d (modes.Args lasts.Name) w held (Sign marks.ParenOpen) = tt
head_taken fs d (modes.Args lasts.Name) w held (Sign marks.ParenClose) = (held, refl)
head_taken fs d (modes.Args lasts.Name) w held (Sign marks.BraceOpen) = tt
head_taken fs d (modes.Args lasts.Name) w held (Sign marks.BraceClose) = tt
head_taken fs d (modes.Args lasts.Name) w held (Sign marks.Colon) = tt
head_taken fs d (modes.Args lasts.Name) w held (Sign marks.Semicolon) = tt
head_taken fs d (modes.Args lasts.Name) w held (Sign marks.Comma) = (held ++ Sign marks.Comma ∷ [], refl)
head_taken fs d (modes.Args lasts.Name) w held (Sign marks.LineEnd) = tt
head_taken fs d (modes.Args lasts.Name) w held (Sign marks.Broken) = tt
head_taken fs d (modes.Args lasts.Comma) w held (Name q n) = (held ++ Name q n ∷ [], refl)
head_taken fs d (modes.Args lasts.Comma) w held (Sign marks.ParenOpen) = tt
head_taken fs d (modes.Args lasts.Comma) w held (Sign marks.ParenClose) = tt
head_taken fs d (modes.Args lasts.Comma) w held (Sign marks.BraceOpen) = tt
head_taken fs d (modes.Args lasts.Comma) w held (Sign marks.BraceClose) = tt
head_taken fs d (modes.Args lasts.Comma) w held (Sign marks.Colon) = tt
head_taken fs d (modes.Args lasts.Comma) w held (Sign marks.Semicolon) = tt
head_taken fs d (modes.Args lasts.Comma) w held (Sign marks.Comma) = tt
head_taken fs d (modes.Args lasts.Comma) w held (Sign marks.LineEnd) = tt
head_taken fs d (modes.Args lasts.Comma) w held (Sign marks.Broken) = tt
head_taken fs d modes.Behind w held t = tt
head_taken fs d modes.Items w held t = tt

pub taken_in_head : (fs : List Frame) (d : Body) (mode : Mode) (w : List ℕ) (held : List Token) (t : Token) (next : Mode) → head_mode mode t ≡ Some next → Taken fs d mode w held t next
taken_in_head fs d mode w held t next e = from_some (Taken fs d mode w held t) (head_mode mode t) next (head_taken fs d mode w held t) e

-- ---- by the next token

-- the next token is the brace, or leads on
abbrev pub by_token : Mode → Option Token → (Token → List Token) → Bool
by_token mode None more = false
by_token mode (Some t) more = is_deep_token mode t || goes_to (λ next. opens_group next (more t)) (head_mode mode t)

pub ahead_one : (mode : Mode) (at k j : ℕ) (text : List ℕ) → k ≡ suc j → (rest : List ℕ) → rest ≡ drop at text → (l : Lexed) → l ≡ lexed_at (context_of mode) rest
    → opens_group mode (bare (tokens_from k (context_of mode) at (drop at text))) ≡ by_token mode (token_of rest l l.sort) (λ t. bare (tokens_from j (behind (context_of mode) t) (at + (l.start + l.size)) (drop (l.start + l.size) rest)))
ahead_one mode at k j text count rest cut l lexed =
    ap (λ n. opens_group mode (bare (tokens_from n (context_of mode) at (drop at text)))) count
    ∙ ap (λ p. opens_group mode (bare (tokens_from (suc j) (context_of mode) at p))) (sym cut)
    ∙ ap (λ (x : Lexed). opens_group mode (bare (listed (λ t. placed at x t ∷ tokens_from j (behind (context_of mode) t) (at + (x.start + x.size)) (drop (x.start + x.size) rest)) (token_of rest x x.sort)))) (sym lexed)
    ∙ of (token_of rest l l.sort)
  where
    of : (o : Option Token) → opens_group mode (bare (listed (λ t. placed at l t ∷ tokens_from j (behind (context_of mode) t) (at + (l.start + l.size)) (drop (l.start + l.size) rest)) o)) ≡ by_token mode o (λ t. bare (tokens_from j (behind (context_of mode) t) (at + (l.start + l.size)) (drop (l.start + l.size) rest)))
    of None = refl
    of (Some t) = refl

pub token_opens : (mode : Mode) (o : Option Token) (more : Token → List Token) → is_deep_if_any mode o ≡ true → by_token mode o more ≡ true
token_opens mode None more e = absurd (true≢false (sym e))
token_opens mode (Some t) more e = ap (λ b. b || goes_to (λ next. opens_group next (more t)) (head_mode mode t)) e

pub token_ends : (mode : Mode) (o : Option Token) (more : Token → List Token) → is_deep_if_any mode o ≡ false → option_and_then (head_mode mode) o ≡ None → by_token mode o more ≡ false
token_ends mode None more e h = refl
token_ends mode (Some t) more e h = rw (e, h) refl

pub token_leads : (mode : Mode) (o : Option Token) (next : Mode) (j at : ℕ) (rest : List ℕ) → is_deep_if_any mode o ≡ false → option_and_then (head_mode mode) o ≡ Some next
    → by_token mode o (λ t. bare (tokens_from j (behind (context_of mode) t) at rest)) ≡ opens_group next (bare (tokens_from j (context_of next) at rest))
token_leads mode None next j at rest e h = absurd cc
token_leads mode (Some t) next j at rest e h =
    ap (λ b. b || goes_to (λ n. opens_group n (bare (tokens_from j (behind (context_of mode) t) at rest))) (head_mode mode t)) e
    ∙ ap (goes_to (λ n. opens_group n (bare (tokens_from j (behind (context_of mode) t) at rest)))) h
    ∙ ap (λ c. opens_group next (bare (tokens_from j c at rest))) (from_some (λ n. behind (context_of mode) t ≡ context_of n) (head_mode mode t) next (head_follows mode t) h)
