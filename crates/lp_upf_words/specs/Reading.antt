-- Reading words byte by byte: a second form of which words a UPF text has (own rule).
use Rattle.std.specs.Prelude.{ℕ, ◌+◌, Bool, true, false, List, [], ◌∷◌, ◌++◌, encode_utf8, Option, Some, None, if◌then◌else◌}
use Rattle.lp_text.specs.Places as places
use Rattle.lp_text.specs.Places.{past_byte}
use Rattle.lp_text.specs.declared.place.Place.{Place}
use Rattle.lp_model.specs.declared.upf.WordForm.{WordForm}
use Rattle.lp_model.specs.declared.upf.WordForm.TheVariants as forms
use Rattle.lp_model.specs.CommandsView.{WordView}
use Rattle.lp_upf_words.specs.declared.kind.Kind.{Kind}
use Rattle.lp_upf_words.specs.declared.kind.Kind.TheVariants as kinds
use Rattle.lp_upf_words.specs.declared.mode.Mode.{Mode}
use Rattle.lp_upf_words.specs.declared.mode.Mode.TheVariants as modes
use Rattle.lp_upf_words.specs.declared.mode.Stop.{Stop}
use Rattle.lp_upf_words.specs.declared.mode.Stop.TheVariants as stops
use Rattle.lp_upf_words.specs.declared.mode.Action.{Action}
use Rattle.lp_upf_words.specs.declared.mode.Action.TheVariants.{Turn, Say, Open, Begin, Close, End, CloseEnd}
use Rattle.lp_upf_words.specs.declared.mode.Action.TheVariants as actions
use Rattle.lp_upf_words.specs.Words.{depth_after, Gathered, none_yet, with_word, with_end, Outcome, outcome_of}

-- ---- what a byte of a kind does

abbrev pub in_gap : Bool → Place → Kind → Action
in_gap fresh here kinds.Blank = Turn (modes.Gap fresh)
in_gap fresh here kinds.Feed = Turn (modes.Gap fresh)
in_gap fresh here kinds.LineEnd = if fresh then Turn (modes.Gap true) else End
in_gap fresh here kinds.Semicolon = if fresh then Turn (modes.Gap true) else End
in_gap fresh here kinds.Hash = if fresh then Turn modes.Comment else Begin modes.Bare
in_gap fresh here kinds.Backslash = Open (modes.Slash fresh)
in_gap fresh here kinds.OpenBrace = Open (modes.Braces 0)
in_gap fresh here kinds.Quote = Open modes.Quotes
in_gap fresh here kinds.Dollar = actions.Stop (stops.Dollar here)
in_gap fresh here kinds.OpenBracket = Begin (modes.Index false false here)
in_gap fresh here k = Begin modes.Bare

abbrev pub in_slash : Bool → Kind → Action
in_slash fresh kinds.LineEnd = Turn (modes.Gap fresh)
in_slash fresh kinds.Feed = Turn (modes.Gap fresh)
in_slash fresh k = Say modes.Bare

abbrev pub in_comment : Kind → Action
in_comment kinds.LineEnd = Turn (modes.Gap true)
in_comment kinds.Feed = Turn (modes.Gap true)
in_comment k = Turn modes.Comment

abbrev pub in_bare : Place → Kind → Action
in_bare here kinds.Blank = Close forms.Bare (modes.Gap false)
in_bare here kinds.Feed = Close forms.Bare (modes.Gap false)
in_bare here kinds.LineEnd = CloseEnd
in_bare here kinds.Semicolon = CloseEnd
in_bare here kinds.Backslash = Turn modes.Escape
in_bare here kinds.Dollar = actions.Stop (stops.Dollar here)
in_bare here kinds.OpenBracket = Say (modes.Index false false here)
in_bare here k = Say modes.Bare

abbrev pub in_escape : Kind → Action
in_escape kinds.LineEnd = Close forms.Bare (modes.Gap false)
in_escape kinds.Feed = Close forms.Bare (modes.Gap false)
in_escape k = Say modes.Bare

abbrev pub inside : Bool → Mode
inside true = modes.Quotes
inside false = modes.Bare

abbrev pub in_index : Bool → Bool → Place → Kind → Action
in_index quoted some at kinds.Digit = Say (modes.Index quoted true at)
in_index quoted some at kinds.CloseBracket = if some then Say (inside quoted) else actions.Stop (stops.Bracket at)
in_index quoted some at k = actions.Stop (stops.Bracket at)

-- the word goes on, or its own brace is closed
abbrev pub braces_on : Option ℕ → Action
braces_on None = Close forms.Braces modes.Behind
braces_on (Some depth) = Say (modes.Braces depth)

abbrev pub in_braces : ℕ → Kind → Action
in_braces depth k = braces_on (depth_after k depth)

abbrev pub in_quotes : Place → Kind → Action
in_quotes here kinds.Quote = Close forms.Quotes modes.Behind
in_quotes here kinds.Dollar = actions.Stop (stops.Dollar here)
in_quotes here kinds.OpenBracket = Say (modes.Index true false here)
in_quotes here k = Say modes.Quotes

abbrev pub in_behind : Place → Kind → Action
in_behind here kinds.Blank = Turn (modes.Gap false)
in_behind here kinds.Feed = Turn (modes.Gap false)
in_behind here kinds.LineEnd = End
in_behind here kinds.Semicolon = End
in_behind here kinds.Backslash = Turn (modes.BehindSlash here)
in_behind here k = actions.Stop (stops.Syntax here)

abbrev pub in_behind_slash : Place → Kind → Action
in_behind_slash at kinds.LineEnd = Turn (modes.Gap false)
in_behind_slash at kinds.Feed = Turn (modes.Gap false)
in_behind_slash at k = actions.Stop (stops.Syntax at)

abbrev pub decide : Mode → Place → Kind → Action
decide (modes.Gap fresh) here k = in_gap fresh here k
decide (modes.Slash fresh) here k = in_slash fresh k
decide modes.Comment here k = in_comment k
decide modes.Bare here k = in_bare here k
decide modes.Escape here k = in_escape k
decide (modes.Index quoted some at) here k = in_index quoted some at k
decide (modes.Braces depth) here k = in_braces depth k
decide modes.Quotes here k = in_quotes here k
decide modes.Behind here k = in_behind here k
decide (modes.BehindSlash at) here k = in_behind_slash at k

-- what the end of the text does
abbrev pub last : Mode → Place → Action
last (modes.Gap true) here = Turn (modes.Gap true)
last (modes.Gap false) here = End
last modes.Comment here = Turn (modes.Gap true)
last modes.Bare here = CloseEnd
last modes.Behind here = End
last (modes.Index quoted some at) here = actions.Stop (stops.Bracket at)
last (modes.Slash fresh) here = actions.Stop (stops.Syntax here)
last modes.Escape here = actions.Stop (stops.Syntax here)
last (modes.Braces depth) here = actions.Stop (stops.Syntax here)
last modes.Quotes here = actions.Stop (stops.Syntax here)
last (modes.BehindSlash at) here = actions.Stop (stops.Syntax here)

-- ---- names that may still come of what was read

-- one for a word that is being read, and one for each brace that is open in it
abbrev pub size_of : Mode → ℕ
size_of (modes.Gap fresh) = 0
size_of (modes.Slash fresh) = 1
size_of modes.Comment = 0
size_of modes.Bare = 1
size_of modes.Escape = 1
size_of (modes.Index quoted some at) = 1
size_of (modes.Braces depth) = depth + 1
size_of modes.Quotes = 1
size_of modes.Behind = 0
size_of (modes.BehindSlash at) = 0

-- the name of a byte that is not read
abbrev pub cost : Stop → ℕ
cost (stops.Syntax p) = 0
cost (stops.Dollar p) = 1
cost (stops.Bracket p) = 1

-- with the names that come of an action
abbrev pub weight : Action → ℕ
weight (Turn next) = size_of next
weight (Say next) = size_of next
weight (Open next) = size_of next
weight (Begin next) = size_of next
weight (Close form next) = size_of next + 1
weight End = 0
weight CloseEnd = 1
weight (actions.Stop stop) = cost stop

abbrev pub cost_if : Option Stop → ℕ
cost_if None = 0
cost_if (Some stop) = cost stop

abbrev pub left : Mode → Option Stop → ℕ
left mode None = size_of mode
left mode (Some stop) = cost stop

-- ---- reading

-- what stands before the next byte, what the word says so far and where it began, the place of the next byte, and what was read
pub record State : Type 0 where
  pub mode : Mode
  pub said : List ℕ
  pub begun : Place
  pub here : Place
  pub gathered : Gathered

pub record Stepped : Type 0 where
  pub state : State
  pub stop : Option Stop

-- where a command may begin, or else a further word, at a place
abbrev pub start_at : Bool → Place → State
start_at fresh p = record { mode = modes.Gap fresh; said = []; begun = p; here = p; gathered = none_yet }

abbrev pub start : State
start = start_at true places.start

abbrev pub word_of : WordForm → State → WordView
word_of form s = record { text = s.said; form = form; place = s.begun }

abbrev pub closed : WordForm → Mode → State → State
closed form mode s = record { mode = mode; said = s.said; begun = s.begun; here = s.here; gathered = with_word (word_of form s) s.gathered }

abbrev pub ended : State → State
ended s = record { mode = modes.Gap true; said = s.said; begun = s.begun; here = s.here; gathered = with_end s.here s.gathered }

abbrev pub going : State → Stepped
going s = record { state = s; stop = None }

abbrev pub applied : Action → ℕ → State → Stepped
applied (Turn mode) b s = going (record { mode = mode; said = s.said; begun = s.begun; here = s.here; gathered = s.gathered })
applied (Say mode) b s = going (record { mode = mode; said = s.said ++ encode_utf8 b; begun = s.begun; here = s.here; gathered = s.gathered })
applied (Open mode) b s = going (record { mode = mode; said = []; begun = s.here; here = s.here; gathered = s.gathered })
applied (Begin mode) b s = going (record { mode = mode; said = encode_utf8 b; begun = s.here; here = s.here; gathered = s.gathered })
applied (Close form mode) b s = going (closed form mode s)
applied End b s = going (ended s)
applied CloseEnd b s = going (ended (closed forms.Bare modes.Bare s))
applied (actions.Stop stop) b s = record { state = s; stop = Some stop }

abbrev pub moved : ℕ → State → State
moved b s = record { mode = s.mode; said = s.said; begun = s.begun; here = past_byte s.here b; gathered = s.gathered }

abbrev pub moved_step : ℕ → Stepped → Stepped
moved_step b s = record { state = moved b s.state; stop = s.stop }

abbrev pub step_by : State → ℕ → Kind → Stepped
step_by s b k = moved_step b (applied (decide s.mode s.here k) b s)

abbrev pub step : (ℕ → Kind) → State → ℕ → Stepped
step kind s b = step_by s b (kind b)

abbrev pub finished_by : Stepped → Outcome
finished_by s = outcome_of s.state.gathered s.stop

abbrev pub finished : State → Outcome
finished s = finished_by (applied (last s.mode s.here) 0 s)

abbrev pub stopped_or : (State → Outcome) → State → Option Stop → Outcome
stopped_or more s None = more s
stopped_or more s (Some stop) = outcome_of s.gathered (Some stop)

abbrev pub read_on : (State → Outcome) → Stepped → Outcome
read_on more s = stopped_or more s.state s.stop

abbrev pub read : (ℕ → Kind) → State → List ℕ → Outcome
read kind s [] = finished s
read kind s (b ∷ rest) = read_on (λ n. read kind n rest) (step kind s b)
