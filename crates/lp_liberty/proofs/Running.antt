-- Reading goes on behind a token as the text does.
use Rattle.std.proofs.Common.{◌≡◌, ℕ, zero, suc, ◌+◌, Bool, true, false, List, [], ◌∷◌, length, drop, Option, Some, None, refl, sym, ap, ◌∙◌, subst}
use Rattle.std.specs.Prelude.{if◌then◌else◌, nat_lt, IfSome}
use Rattle.lp_text.specs.declared.names.NameId.{NameId}
use Rattle.lp_text.specs.Texts.{with_text}
use Rattle.lp_liberty.specs.declared.mark.Mark.{Mark}
use Rattle.lp_liberty.specs.declared.mark.Mark.TheVariants as marks
use Rattle.lp_liberty.specs.declared.mark.Sort.{Sort}
use Rattle.lp_liberty.specs.declared.mark.Sort.TheVariants as sorts
use Rattle.lp_liberty.specs.declared.mark.Context.{Context}
use Rattle.lp_liberty.specs.declared.mark.Context.TheVariants as contexts
use Rattle.lp_liberty.specs.declared.lexed.Lexed.{Lexed}
use Rattle.lp_liberty.specs.declared.mark.Last.TheVariants as lasts
use Rattle.lp_liberty.specs.declared.mark.Mode.{Mode}
use Rattle.lp_liberty.specs.declared.mark.Mode.TheVariants as modes
use Rattle.lp_liberty.specs.declared.run.Stop.{Stop}
use Rattle.lp_liberty.specs.declared.run.Stop.TheVariants as stops
use Rattle.lp_liberty.specs.Outcome.{IsStop, RefusedBy}
use Rattle.lp_liberty.specs.Grammar.{Token, Name, Sign}
use Rattle.lp_liberty.specs.Lexing.{lexed_at}
use Rattle.lp_liberty.specs.Tokens.{Placed, bare, behind, placed, listed, token_of, tokens_from}
use Rattle.lp_liberty.specs.Machine.{Machine, context_of, ended, name_by, name_in, mark_by, mark_in, shut_by, begin_mark, is_filled, opened_in, Taken, Refused, Reading, Stopped, Deep, Long, stepped, is_deep_by, numbered_as, taken_in, long_stop, stop_ahead, step_in, step_at, read_on, read_in, finished}

-- where the machine goes on, the next token has the form that it has behind this one
abbrev pub Follows : Mode → Token → Machine → Type 0
Follows mode t m = context_of m.mode ≡ behind (context_of mode) t

if_some : {A : Type 0} (P : A → Type 0) (c : Bool) (x : A) → P x → IfSome (if c then Some x else None) P
if_some P true x h = h
if_some P false x h = tt

if_either : {A : Type 0} (P : A → Type 0) (c : Bool) (o : Option A) → IfSome o P → IfSome (if c then o else None) P
if_either P true o h = h
if_either P false o h = tt

name_context : (mode : Mode) (quoted : Bool) (w : List ℕ) (id : NameId) (at : ℕ) (m : Machine) → IfSome (name_by mode quoted id at m) (Follows mode (Name quoted w))
name_context (modes.Begin semi) true w id at m = tt
name_context (modes.Begin semi) false w id at m = refl
name_context modes.Named quoted w id at m = tt
name_context (modes.Args lasts.Nothing) quoted w id at m = refl
name_context (modes.Args lasts.Name) quoted w id at m = refl
name_context (modes.Args lasts.Comma) quoted w id at m = refl
name_context modes.Behind true w id at m = if_either (Follows modes.Behind (Name true w)) (is_filled m.opened) None tt
name_context modes.Behind false w id at m = if_either (Follows modes.Behind (Name false w)) (is_filled m.opened) (Some (record { groups = (ended true true m).groups; opened = m.opened; mode = modes.Named; word = id; held = []; head = at })) refl
name_context modes.Items quoted w id at m = refl

shut_context : (mode : Mode) (k : Mark) (ns : List ℕ) (m : Machine) → behind (context_of mode) (Sign k) ≡ contexts.Statement → IfSome (shut_by ns m) (Follows mode (Sign k))
shut_context mode k [] m e = tt
shut_context mode k (n ∷ ns) m e = sym e

begin_context : (mode : Mode) (semi : Bool) (k : Mark) (m : Machine) → context_of mode ≡ contexts.Statement → IfSome (begin_mark semi k m) (Follows mode (Sign k))
begin_context mode semi marks.BraceClose m e = shut_context mode marks.BraceClose m.opened m (ap (λ c. behind c (Sign marks.BraceClose)) e)
begin_context mode semi marks.Semicolon m e = if_some (Follows mode (Sign marks.Semicolon)) semi (record { groups = m.groups; opened = m.opened; mode = modes.Begin false; word = m.word; held = m.held; head = m.head }) (sym (ap (λ c. behind c (Sign marks.Semicolon)) e))
begin_context mode semi marks.ParenOpen m e = tt
begin_context mode semi marks.ParenClose m e = tt
begin_context mode semi marks.BraceOpen m e = tt
begin_context mode semi marks.Colon m e = tt
begin_context mode semi marks.Comma m e = tt
begin_context mode semi marks.LineEnd m e = tt
begin_context mode semi marks.Broken m e = tt

mark_context : (mode : Mode) (k : Mark) (m : Machine) → m.mode ≡ mode → IfSome (mark_by mode k m) (Follows mode (Sign k))
mark_context (modes.Begin semi) k m same = begin_context (modes.Begin semi) semi k m refl
mark_context modes.Named marks.ParenOpen m same = refl
mark_context modes.Named marks.Colon m same = if_some (Follows modes.Named (Sign marks.Colon)) (is_filled m.opened) (record { groups = m.groups; opened = m.opened; mode = modes.Items; word = m.word; held = []; head = m.head }) refl
mark_context modes.Named marks.ParenClose m same = tt
mark_context modes.Named marks.BraceOpen m same = tt
mark_context modes.Named marks.BraceClose m same = tt
mark_context modes.Named marks.Semicolon m same = tt
mark_context modes.Named marks.Comma m same = tt
mark_context modes.Named marks.LineEnd m same = tt
mark_context modes.Named marks.Broken m same = tt
mark_context (modes.Args lasts.Nothing) marks.ParenOpen m same = tt
mark_context (modes.Args lasts.Nothing) marks.ParenClose m same = refl
mark_context (modes.Args lasts.Nothing) marks.BraceOpen m same = tt
mark_context (modes.Args lasts.Nothing) marks.BraceClose m same = tt
mark_context (modes.Args lasts.Nothing) marks.Colon m same = tt
mark_context (modes.Args lasts.Nothing) marks.Semicolon m same = tt
mark_context (modes.Args lasts.Nothing) marks.Comma m same = tt
mark_context (modes.Args lasts.Nothing) marks.LineEnd m same = tt
mark_context (modes.Args lasts.Nothing) marks.Broken m same = tt
mark_context (modes.Args lasts.Name) marks.ParenOpen m same = tt
mark_context (modes.Args lasts.Name) marks.ParenClose m same = refl
mark_context (modes.Args lasts.Name) marks.BraceOpen m same = tt
mark_context (modes.Args lasts.Name) marks.BraceClose m same = tt
mark_context (modes.Args lasts.Name) marks.Colon m same = tt
mark_context (modes.Args lasts.Name) marks.Semicolon m same = tt
mark_context (modes.Args lasts.Name) marks.Comma m same = refl
mark_context (modes.Args lasts.Name) marks.LineEnd m same = tt
mark_context (modes.Args lasts.Name) marks.Broken m same = tt
mark_context (modes.Args lasts.Comma) marks.ParenOpen m same = tt
mark_context (modes.Args lasts.Comma) marks.ParenClose m same = tt
mark_context (modes.Args lasts.Comma) marks.BraceOpen m same = tt
mark_context (modes.Args lasts.Comma) marks.BraceClose m same = tt
mark_context (modes.Args lasts.Comma) marks.Colon m same = tt
mark_context (modes.Args lasts.Comma) marks.Semicolon m same = tt
mark_context (modes.Args lasts.Comma) marks.Comma m same = tt
mark_context (modes.Args lasts.Comma) marks.LineEnd m same = tt
mark_context (modes.Args lasts.Comma) marks.Broken m same = tt
mark_context modes.Behind marks.BraceOpen m same = if_some (Follows modes.Behind (Sign marks.BraceOpen)) (nat_lt (length m.opened) 64) (opened_in m) refl
mark_context modes.Behind marks.ParenOpen m same = if_either (Follows modes.Behind (Sign marks.ParenOpen)) (is_filled m.opened) (begin_mark true marks.ParenOpen (ended true true m)) (begin_context modes.Behind true marks.ParenOpen (ended true true m) refl)
mark_context modes.Behind marks.ParenClose m same = if_either (Follows modes.Behind (Sign marks.ParenClose)) (is_filled m.opened) (begin_mark true marks.ParenClose (ended true true m)) (begin_context modes.Behind true marks.ParenClose (ended true true m) refl)
mark_context modes.Behind marks.BraceClose m same = if_either (Follows modes.Behind (Sign marks.BraceClose)) (is_filled m.opened) (begin_mark true marks.BraceClose (ended true true m)) (begin_context modes.Behind true marks.BraceClose (ended true true m) refl)
mark_context modes.Behind marks.Colon m same = if_either (Follows modes.Behind (Sign marks.Colon)) (is_filled m.opened) (begin_mark true marks.Colon (ended true true m)) (begin_context modes.Behind true marks.Colon (ended true true m) refl)
mark_context modes.Behind marks.Semicolon m same = if_either (Follows modes.Behind (Sign marks.Semicolon)) (is_filled m.opened) (begin_mark true marks.Semicolon (ended true true m)) (begin_context modes.Behind true marks.Semicolon (ended true true m) refl)
mark_context modes.Behind marks.Comma m same = if_either (Follows modes.Behind (Sign marks.Comma)) (is_filled m.opened) (begin_mark true marks.Comma (ended true true m)) (begin_context modes.Behind true marks.Comma (ended true true m) refl)
mark_context modes.Behind marks.LineEnd m same = if_either (Follows modes.Behind (Sign marks.LineEnd)) (is_filled m.opened) (begin_mark true marks.LineEnd (ended true true m)) (begin_context modes.Behind true marks.LineEnd (ended true true m) refl)
mark_context modes.Behind marks.Broken m same = if_either (Follows modes.Behind (Sign marks.Broken)) (is_filled m.opened) (begin_mark true marks.Broken (ended true true m)) (begin_context modes.Behind true marks.Broken (ended true true m) refl)
mark_context modes.Items marks.ParenOpen m same = ap context_of same
mark_context modes.Items marks.ParenClose m same = ap context_of same
mark_context modes.Items marks.BraceOpen m same = tt
mark_context modes.Items marks.BraceClose m same = shut_context modes.Items marks.BraceClose m.opened (ended false false m) refl
mark_context modes.Items marks.Colon m same = tt
mark_context modes.Items marks.Semicolon m same = refl
mark_context modes.Items marks.Comma m same = ap context_of same
mark_context modes.Items marks.LineEnd m same = refl
mark_context modes.Items marks.Broken m same = tt

-- a step that is taken leads to the form of the next token
pub step_context : (ahead : Reading) (names new : List (List ℕ)) (m n : Machine) (t : Placed) → step_in ahead names m t ≡ Taken new n → Follows m.mode t.token n
step_context ahead names new m n t e = by (nat_lt 1048576 t.size) e
  where
    of : (P : Machine → Type 0) (stop : Reading) (table : List (List ℕ)) (o : Option Machine) → IfSome o P → stepped stop table o ≡ Taken new n → P n
    of P stop table None h e = absurd cc
    of P stop table (Some u) h e = let same : u ≡ n = cc in subst P same h

    token : (t : Token) (at : ℕ) → taken_in names m at t ≡ Taken new n → Follows m.mode t n
    token (Name quoted w) at e = of (Follows m.mode (Name quoted w)) (Stopped at) (with_text names w) (name_in quoted (numbered_as (with_text names w) w) at m) (name_context m.mode quoted w (numbered_as (with_text names w) w) at m) e
    token (Sign k) at e = of (Follows m.mode (Sign k)) (if is_deep_by m.mode k then Deep m.head else Stopped at) names (mark_in k m) (mark_context m.mode k m refl) e

    by : (c : Bool) → (if c then Refused ahead else taken_in names m t.at t.token) ≡ Taken new n → Follows m.mode t.token n
    by true e = absurd cc
    by false e = token t.token t.at e

-- ---- one token of a text

-- tokens are the same wherever their text stands
bare_at : (k : ℕ) (c : Context) (a b : ℕ) (text : List ℕ) → bare (tokens_from k c a text) ≡ bare (tokens_from k c b text)
bare_at zero c a b text = refl
bare_at (suc k) c a b text = by (token_of text l l.sort) (λ d x y. bare_at k d x y (drop (l.start + l.size) text))
  where
    l : Lexed
    l = lexed_at c text

    by : (o : Option Token) → ((d : Context) (x y : ℕ) → bare (tokens_from k d x (drop (l.start + l.size) text)) ≡ bare (tokens_from k d y (drop (l.start + l.size) text)))
        → bare (listed (λ t. placed a l t ∷ tokens_from k (behind c t) (a + (l.start + l.size)) (drop (l.start + l.size) text)) o) ≡ bare (listed (λ t. placed b l t ∷ tokens_from k (behind c t) (b + (l.start + l.size)) (drop (l.start + l.size) text)) o)
    by None more = refl
    by (Some t) more = ap (λ ts. t ∷ ts) (more (behind c t) (a + (l.start + l.size)) (b + (l.start + l.size)))

module _ (size : ℕ) (names : List (List ℕ)) (m : Machine) (k at : ℕ) (rest : List ℕ) (l : Lexed) where
  abbrev ahead : Reading
  ahead = stop_ahead (suc k) rest m (at + l.start)

  -- the tokens behind this one, where it ends in this context
  abbrev more_tokens : Context → List Placed
  more_tokens c = tokens_from k c (at + (l.start + l.size)) (drop (l.start + l.size) rest)

  abbrev pub with_token : Option Token → List Placed
  with_token o = listed (λ t. placed at l t ∷ more_tokens (behind (context_of m.mode) t)) o

  pub read_end : (s : Sort) → s ≡ sorts.End → read_in size names m (with_token (token_of rest l s)) ≡ finished size names m
  read_end s e = ap (λ x. read_in size names m (with_token (token_of rest l x))) e

  -- the tokens from this one on are those that stand ahead
  same_ahead : (t : Token) → l ≡ lexed_at (context_of m.mode) rest → token_of rest l l.sort ≡ Some t → ahead ≡ long_stop m (at + l.start) (t ∷ bare (more_tokens (behind (context_of m.mode) t)))
  same_ahead t lexed is =
      let c = context_of m.mode in
      let tokens : bare (tokens_from (suc k) c 0 rest) ≡ t ∷ bare (more_tokens (behind c t)) =
      ap (λ (x : Lexed). bare (listed (λ u. placed 0 x u ∷ tokens_from k (behind c u) (0 + (x.start + x.size)) (drop (x.start + x.size) rest)) (token_of rest x x.sort))) (sym lexed)
      ∙ ap (λ o. bare (listed (λ u. placed 0 l u ∷ tokens_from k (behind c u) (0 + (l.start + l.size)) (drop (l.start + l.size) rest)) o)) is
      ∙ ap (λ ts. t ∷ ts) (bare_at k (behind c t) (0 + (l.start + l.size)) (at + (l.start + l.size)) (drop (l.start + l.size) rest)) in
      ap (long_stop m (at + l.start)) tokens

  refused_token : (r : Reading) (t : Token) → l ≡ lexed_at (context_of m.mode) rest → token_of rest l l.sort ≡ Some t → step_in ahead names m (placed at l t) ≡ Refused r → read_in size names m (with_token (Some t)) ≡ r
  refused_token r t lexed is e =
      ap (λ x. read_on (λ new n. read_in size new n (more_tokens (behind (context_of m.mode) t))) (step_in x names m (placed at l t))) (sym (same_ahead t lexed is))
      ∙ ap (read_on (λ new n. read_in size new n (more_tokens (behind (context_of m.mode) t)))) e

  refused_sort : (r : Reading) (o : Option Token) → l ≡ lexed_at (context_of m.mode) rest → token_of rest l l.sort ≡ o → (o ≡ None → ⊥) → step_at ahead names m (at + l.start) l.size o ≡ Refused r → read_in size names m (with_token o) ≡ r
  refused_sort r None lexed is more e = absurd (more refl)
  refused_sort r (Some t) lexed is more e = refused_token r t lexed is e

  pub read_refused : (stop : Stop) → l ≡ lexed_at (context_of m.mode) rest → (token_of rest l l.sort ≡ None → ⊥) → RefusedBy stop (step_at ahead names m (at + l.start) l.size (token_of rest l l.sort)) → IsStop stop (read_in size names m (with_token (token_of rest l l.sort)))
  read_refused (stops.Syntax place) lexed more e = refused_sort (Stopped place) (token_of rest l l.sort) lexed refl more e
  read_refused (stops.Deep place) lexed more e = refused_sort (Deep place) (token_of rest l l.sort) lexed refl more e
  read_refused (stops.Long place) lexed more e = refused_sort (Long place) (token_of rest l l.sort) lexed refl more e
  read_refused stops.NoMemory lexed more e = tt

  read_token : (new : List (List ℕ)) (n : Machine) (t : Token) → l ≡ lexed_at (context_of m.mode) rest → token_of rest l l.sort ≡ Some t → step_in ahead names m (placed at l t) ≡ Taken new n → read_in size names m (with_token (Some t)) ≡ read_in size new n (more_tokens (context_of n.mode))
  read_token new n t lexed is e =
      ap (λ x. read_on (λ table u. read_in size table u (more_tokens (behind (context_of m.mode) t))) (step_in x names m (placed at l t))) (sym (same_ahead t lexed is))
      ∙ ap (read_on (λ table u. read_in size table u (more_tokens (behind (context_of m.mode) t)))) e
      ∙ ap (λ c. read_in size new n (more_tokens c)) (sym (step_context ahead names new m n (placed at l t) e))

  taken_sort : (new : List (List ℕ)) (n : Machine) (o : Option Token) → l ≡ lexed_at (context_of m.mode) rest → token_of rest l l.sort ≡ o → (o ≡ None → ⊥) → step_at ahead names m (at + l.start) l.size o ≡ Taken new n → read_in size names m (with_token o) ≡ read_in size new n (more_tokens (context_of n.mode))
  taken_sort new n None lexed is more e = absurd (more refl)
  taken_sort new n (Some t) lexed is more e = read_token new n t lexed is e

  pub read_taken : (new : List (List ℕ)) (n : Machine) → l ≡ lexed_at (context_of m.mode) rest → (token_of rest l l.sort ≡ None → ⊥) → step_at ahead names m (at + l.start) l.size (token_of rest l l.sort) ≡ Taken new n → read_in size names m (with_token (token_of rest l l.sort)) ≡ read_in size new n (more_tokens (context_of n.mode))
  read_taken new n lexed more e = taken_sort new n (token_of rest l l.sort) lexed refl more e

-- the tokens from here on
pub unfolded : (size : ℕ) (names : List (List ℕ)) (m : Machine) (at k j : ℕ) (text : List ℕ) → k ≡ suc j → (c : Context) → c ≡ context_of m.mode → (rest : List ℕ) → rest ≡ drop at text → (l : Lexed) → l ≡ lexed_at c rest
    → tokens_from k (context_of m.mode) at (drop at text) ≡ with_token size names m j at rest l (token_of rest l l.sort)
unfolded size names m at k j text count c context rest cut l lexed =
    ap (λ n. tokens_from n (context_of m.mode) at (drop at text)) count
    ∙ ap (λ (p : List ℕ). with_token size names m j at p (lexed_at (context_of m.mode) p) (token_of p (lexed_at (context_of m.mode) p) (lexed_at (context_of m.mode) p).sort)) (sym cut)
    ∙ ap (λ (x : Lexed). with_token size names m j at rest x (token_of rest x x.sort)) (sym (lexed ∙ ap (λ x. lexed_at x rest) context))
