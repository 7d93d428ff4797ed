-- The list machine that the reader is: numbers for names, and the groups so far.
use Rattle.std.specs.Prelude.{ℕ, zero, suc, Bool, true, false, not, ◌&&◌, ◌||◌, nat_lt, List, [], ◌∷◌, ◌++◌, length, Option, Some, None, if◌then◌else◌, unwrap_or}
use Rattle.lp_text.specs.declared.names.NameId.{NameId}
use Rattle.lp_text.specs.Texts.{with_text, place_of}
use Rattle.lp_model.specs.declared.groups.Attr.{Attr}
use Rattle.lp_model.specs.declared.groups.Group.{Group}
use Rattle.lp_liberty.specs.declared.run.TheConstants.{LONGEST}
use Rattle.lp_liberty.specs.declared.mark.Mark.{Mark}
use Rattle.lp_liberty.specs.declared.mark.Mark.TheVariants as marks
use Rattle.lp_liberty.specs.declared.mark.Context.{Context}
use Rattle.lp_liberty.specs.declared.mark.Context.TheVariants as contexts
use Rattle.lp_liberty.specs.declared.mark.Last.{Last}
use Rattle.lp_liberty.specs.declared.mark.Last.TheVariants as lasts
use Rattle.lp_liberty.specs.declared.mark.Mode.{Mode}
use Rattle.lp_liberty.specs.declared.mark.Mode.TheVariants as modes
use Rattle.lp_liberty.specs.declared.lexed.Lexed.{Lexed}
use Rattle.lp_liberty.specs.Grammar.{Token, Name, Sign}
use Rattle.lp_liberty.specs.Tokens.{Placed, bare, token_of, tokens_from}

-- the groups so far, the numbers of the open ones with the innermost first, and the statement so far: its word, its
-- names, and the place of the word
pub record Machine : Type 0 where
  pub groups : List Group
  pub opened : List ℕ
  pub mode : Mode
  pub word : NameId
  pub held : List NameId
  pub head : ℕ

abbrev pub start : Machine
start = record { groups = []; opened = []; mode = modes.Begin false; word = record { 0 = 0 }; held = []; head = 0 }

abbrev pub in_mode : Mode → Machine → Machine
in_mode mode m = record { groups = m.groups; opened = m.opened; mode = mode; word = m.word; held = m.held; head = m.head }

abbrev pub holding : Mode → List NameId → Machine → Machine
holding mode held m = record { groups = m.groups; opened = m.opened; mode = mode; word = m.word; held = held; head = m.head }

abbrev pub is_filled : {A : Type 0} → List A → Bool
is_filled [] = false
is_filled (x ∷ xs) = true

abbrev pub is_inside : Machine → Bool
is_inside m = is_filled m.opened

-- one attribute more in a group
abbrev pub with_attr : Attr → Group → Group
with_attr a g = record { word = g.word; args = g.args; parent = g.parent; attrs = g.attrs ++ a ∷ [] }

abbrev pub with_attr_at : List Group → ℕ → Attr → List Group
with_attr_at [] n a = []
with_attr_at (g ∷ groups) zero a = with_attr a g ∷ groups
with_attr_at (g ∷ groups) (suc n) a = g ∷ with_attr_at groups n a

abbrev pub with_attr_in : List ℕ → List Group → Attr → List Group
with_attr_in [] groups a = groups
with_attr_in (n ∷ ns) groups a = with_attr_at groups n a

-- the statement ends as an attribute of the innermost group
abbrev pub ended : Bool → Bool → Machine → Machine
ended complex semi m = record { groups = with_attr_in m.opened m.groups (record { word = m.word; items = m.held; complex = complex }); opened = m.opened; mode = modes.Begin semi; word = m.word; held = []; head = m.head }

abbrev pub innermost : List ℕ → Option ℕ
innermost [] = None
innermost (n ∷ ns) = Some n

-- the statement opens a group
abbrev pub opened_in : Machine → Machine
opened_in m = record { groups = m.groups ++ record { word = m.word; args = m.held; parent = innermost m.opened; attrs = [] } ∷ []; opened = length m.groups ∷ m.opened; mode = modes.Begin false; word = m.word; held = []; head = m.head }

-- the innermost group ends
abbrev pub shut_by : List ℕ → Machine → Option Machine
shut_by [] m = None
shut_by (n ∷ ns) m = Some (record { groups = m.groups; opened = ns; mode = modes.Begin true; word = m.word; held = m.held; head = m.head })

abbrev pub shut_in : Machine → Option Machine
shut_in m = shut_by m.opened m

-- ---- names

-- a word where a statement may begin
abbrev pub begin_name : Bool → NameId → ℕ → Machine → Option Machine
begin_name quoted id at m = if quoted then None else Some (record { groups = m.groups; opened = m.opened; mode = modes.Named; word = id; held = m.held; head = at })

abbrev pub name_by : Mode → Bool → NameId → ℕ → Machine → Option Machine
name_by (modes.Begin semi) quoted id at m = begin_name quoted id at m
name_by modes.Named quoted id at m = None
name_by (modes.Args last) quoted id at m = Some (holding (modes.Args lasts.Name) (m.held ++ id ∷ []) m)
name_by modes.Behind quoted id at m = if is_inside m then begin_name quoted id at (ended true true m) else None
name_by modes.Items quoted id at m = Some (holding modes.Items (m.held ++ id ∷ []) m)

abbrev pub name_in : Bool → NameId → ℕ → Machine → Option Machine
name_in quoted id at m = name_by m.mode quoted id at m

-- ---- marks

abbrev pub begin_mark : Bool → Mark → Machine → Option Machine
begin_mark semi marks.BraceClose m = shut_in m
begin_mark semi marks.Semicolon m = if semi then Some (in_mode (modes.Begin false) m) else None
begin_mark semi k m = None

abbrev pub named_mark : Mark → Machine → Option Machine
named_mark marks.ParenOpen m = Some (holding (modes.Args lasts.Nothing) [] m)
named_mark marks.Colon m = if is_inside m then Some (holding modes.Items [] m) else None
named_mark k m = None

abbrev pub args_mark : Last → Mark → Machine → Option Machine
args_mark lasts.Name marks.Comma m = Some (in_mode (modes.Args lasts.Comma) m)
args_mark lasts.Name marks.ParenClose m = Some (in_mode modes.Behind m)
args_mark lasts.Nothing marks.ParenClose m = Some (in_mode modes.Behind m)
args_mark last k m = None

abbrev pub behind_mark : Mark → Machine → Option Machine
behind_mark marks.BraceOpen m = if nat_lt (length m.opened) 64 then Some (opened_in m) else None
behind_mark k m = if is_inside m then begin_mark true k (ended true true m) else None

abbrev pub items_mark : Mark → Machine → Option Machine
items_mark marks.Comma m = Some m
items_mark marks.ParenOpen m = Some m
items_mark marks.ParenClose m = Some m
items_mark marks.Semicolon m = Some (ended false false m)
items_mark marks.LineEnd m = Some (ended false false m)
items_mark marks.BraceClose m = shut_in (ended false false m)
items_mark k m = None

abbrev pub mark_by : Mode → Mark → Machine → Option Machine
mark_by (modes.Begin semi) k m = begin_mark semi k m
mark_by modes.Named k m = named_mark k m
mark_by (modes.Args last) k m = args_mark last k m
mark_by modes.Behind k m = behind_mark k m
mark_by modes.Items k m = items_mark k m

abbrev pub mark_in : Mark → Machine → Option Machine
mark_in k m = mark_by m.mode k m

-- whether the machine stops since groups are too deep
abbrev pub is_deep_by : Mode → Mark → Bool
is_deep_by modes.Behind marks.BraceOpen = true
is_deep_by mode k = false

-- ---- the head of a group

abbrev pub named_head : Token → Option Mode
named_head (Sign marks.ParenOpen) = Some (modes.Args lasts.Nothing)
named_head t = None

abbrev pub args_head_mark : Last → Mark → Option Mode
args_head_mark lasts.Name marks.Comma = Some (modes.Args lasts.Comma)
args_head_mark lasts.Name marks.ParenClose = Some modes.Behind
args_head_mark lasts.Nothing marks.ParenClose = Some modes.Behind
args_head_mark last k = None

abbrev pub args_head : Last → Token → Option Mode
args_head last (Name quoted w) = Some (modes.Args lasts.Name)
args_head last (Sign k) = args_head_mark last k

-- the mode behind a token between the word of a group and its opening brace
abbrev pub head_mode : Mode → Token → Option Mode
head_mode modes.Named t = named_head t
head_mode (modes.Args last) t = args_head last t
head_mode mode t = None

abbrev pub is_deep_token : Mode → Token → Bool
is_deep_token mode (Name quoted w) = false
is_deep_token mode (Sign k) = is_deep_by mode k

abbrev pub is_deep_if_any : Mode → Option Token → Bool
is_deep_if_any mode None = false
is_deep_if_any mode (Some t) = is_deep_token mode t

abbrev pub goes_to : (Mode → Bool) → Option Mode → Bool
goes_to more None = false
goes_to more (Some mode) = more mode

-- whether the statement turns out to be a group: its arguments end, and an opening brace stands behind them
abbrev pub opens_group : Mode → List Token → Bool
opens_group mode [] = false
opens_group mode (t ∷ tokens) = is_deep_token mode t || goes_to (λ next. opens_group next tokens) (head_mode mode t)

-- whether the statement turns out to be a group that is too deep
abbrev pub is_deep_ahead : Machine → List Token → Bool
is_deep_ahead m tokens = not (nat_lt (length m.opened) 64) && opens_group m.mode tokens

-- ---- whole texts

abbrev pub context_of : Mode → Context
context_of (modes.Args lasts.Nothing) = contexts.Args
context_of (modes.Args lasts.Name) = contexts.BehindArg
context_of (modes.Args lasts.Comma) = contexts.Args
context_of modes.Items = contexts.Items
context_of mode = contexts.Statement

-- the file ends where no group is open and no statement has begun
abbrev pub is_done_by : Mode → List ℕ → Bool
is_done_by (modes.Begin semi) [] = true
is_done_by mode opened = false

-- the table of names and the groups; or the place of the token that is not taken, of the word of the group that is too
-- deep, or of the token that is too long
pub data Reading : Type 0 where
  Whole : List (List ℕ) → List Group → Reading
  Stopped : ℕ → Reading
  Deep : ℕ → Reading
  Long : ℕ → Reading

-- a token is taken, with the table of names behind it, or ends the reading
pub data Step : Type 0 where
  Taken : List (List ℕ) → Machine → Step
  Refused : Reading → Step

abbrev pub stepped : Reading → List (List ℕ) → Option Machine → Step
stepped stop names None = Refused stop
stepped stop names (Some m) = Taken names m

abbrev pub numbered_as : List (List ℕ) → List ℕ → NameId
numbered_as names text = record { 0 = unwrap_or (place_of text names) 0 }

-- the number of a name once it stands in the table
abbrev pub number_in : List (List ℕ) → List ℕ → NameId
number_in names text = numbered_as (with_text names text) text

abbrev pub taken_in : List (List ℕ) → Machine → ℕ → Token → Step
taken_in names m at (Name quoted w) = stepped (Stopped at) (with_text names w) (name_in quoted (number_in names w) at m)
taken_in names m at (Sign k) = stepped (if is_deep_by m.mode k then Deep m.head else Stopped at) names (mark_in k m)

-- where a text stops at a token that is too long: at the word of the group whose head it stands in, where that is too deep, else at the token
abbrev pub long_stop : Machine → ℕ → List Token → Reading
long_stop m at tokens = if is_deep_ahead m tokens then Deep m.head else Long at

abbrev pub step_in : Reading → List (List ℕ) → Machine → Placed → Step
step_in stop names m t = if nat_lt LONGEST t.size then Refused stop else taken_in names m t.at t.token

abbrev pub read_on : (List (List ℕ) → Machine → Reading) → Step → Reading
read_on more (Taken names m) = more names m
read_on more (Refused r) = r

abbrev pub finished : ℕ → List (List ℕ) → Machine → Reading
finished size names m = if is_done_by m.mode m.opened then Whole names m.groups else Stopped size

-- from some tokens on, in a text of this many bytes
abbrev pub read_in : ℕ → List (List ℕ) → Machine → List Placed → Reading
read_in size names m [] = finished size names m
read_in size names m (t ∷ tokens) = read_on (λ new n. read_in size new n tokens) (step_in (long_stop m t.at (t.token ∷ bare tokens)) names m t)

-- the next token is taken, if there is one
abbrev pub step_at : Reading → List (List ℕ) → Machine → ℕ → ℕ → Option Token → Step
step_at stop names m at size None = if nat_lt LONGEST size then Refused stop else Taken names m
step_at stop names m at size (Some t) = step_in stop names m (record { at = at; size = size; token = t })

-- where the text stops if its next token is too long, among at most this many
abbrev pub stop_ahead : ℕ → List ℕ → Machine → ℕ → Reading
stop_ahead left text m at = long_stop m at (bare (tokens_from left (context_of m.mode) 0 text))

abbrev pub next_step : ℕ → List ℕ → List (List ℕ) → Machine → Lexed → ℕ → Step
next_step left text names m l at = step_at (stop_ahead left text m at) names m at l.size (token_of text l l.sort)
