-- A machine that reads tokens and holds the statements that it has read.
use Rattle.std.proofs.Common.{ℕ, Bool, true, false, List, [], ◌∷◌, ◌++◌, length, Option, Some, None}
use Rattle.std.specs.Prelude.{if◌then◌else◌}
use Rattle.lp_liberty.specs.declared.mark.Mark.{Mark}
use Rattle.lp_liberty.specs.declared.mark.Mark.TheVariants as marks
use Rattle.lp_liberty.specs.declared.mark.Last.{Last}
use Rattle.lp_liberty.specs.declared.mark.Last.TheVariants as lasts
use Rattle.lp_liberty.specs.declared.mark.Mode.{Mode}
use Rattle.lp_liberty.specs.declared.mark.Mode.TheVariants as modes
use Rattle.lp_liberty.specs.Grammar.{Token, Name, Sign, Body, End, Semi, Simple, Complex, Group}
use Rattle.lp_liberty.specs.Grammar as grammar
use Rattle.lp_liberty.specs.Machine.{is_filled}

-- statements and the statements behind them
abbrev pub joined : Body → Body → Body
joined End b = b
joined (grammar.Last w items) b = grammar.Last w items
joined (Semi rest) b = Semi (joined rest b)
joined (Simple w items end rest) b = Simple w items end (joined rest b)
joined (Complex w args rest) b = Complex w args (joined rest b)
joined (Group w args body rest) b = Group w args body (joined rest b)

-- an open group: the statements before it, its word and its arguments
pub record Frame : Type 0 where
  pub before : Body
  pub word : List ℕ
  pub args : List Token

-- the open groups, the innermost first; the statements of the innermost one; the statement so far
pub record State : Type 0 where
  pub frames : List Frame
  pub done : Body
  pub mode : Mode
  pub word : List ℕ
  pub held : List Token

abbrev pub at_begin : List Frame → Body → Bool → State
at_begin fs d semi = record { frames = fs; done = d; mode = modes.Begin semi; word = []; held = [] }

abbrev pub in_statement : List Frame → Body → Mode → List ℕ → List Token → State
in_statement fs d mode w held = record { frames = fs; done = d; mode = mode; word = w; held = held }

abbrev pub shut : List Frame → Body → Option State
shut [] d = None
shut (f ∷ fs) d = Some (at_begin fs (joined f.before (Group f.word f.args d End)) true)

abbrev pub begin_mark : List Frame → Body → Bool → Mark → Option State
begin_mark fs d semi marks.BraceClose = shut fs d
begin_mark fs d semi marks.Semicolon = if semi then Some (at_begin fs (joined d (Semi End)) false) else None
begin_mark fs d semi k = None

-- a token where a statement may begin
abbrev pub begin : List Frame → Body → Bool → Token → Option State
begin fs d semi (Name quoted w) = if quoted then None else Some (in_statement fs d modes.Named w [])
begin fs d semi (Sign k) = begin_mark fs d semi k

abbrev pub named : List Frame → Body → List ℕ → Token → Option State
named fs d w (Sign marks.ParenOpen) = Some (in_statement fs d (modes.Args lasts.Nothing) w [])
named fs d w (Sign marks.Colon) = if is_filled fs then Some (in_statement fs d modes.Items w []) else None
named fs d w t = None

abbrev pub args_mark : List Frame → Body → Last → List ℕ → List Token → Mark → Option State
args_mark fs d lasts.Name w held marks.Comma = Some (in_statement fs d (modes.Args lasts.Comma) w (held ++ Sign marks.Comma ∷ []))
args_mark fs d lasts.Name w held marks.ParenClose = Some (in_statement fs d modes.Behind w held)
args_mark fs d lasts.Nothing w held marks.ParenClose = Some (in_statement fs d modes.Behind w held)
args_mark fs d last w held k = None

abbrev pub args : List Frame → Body → Last → List ℕ → List Token → Token → Option State
args fs d last w held (Name quoted n) = Some (in_statement fs d (modes.Args lasts.Name) w (held ++ Name quoted n ∷ []))
args fs d last w held (Sign k) = args_mark fs d last w held k

-- a token behind a statement with arguments that is no group
abbrev pub behind_complex : List Frame → Body → List ℕ → List Token → Token → Option State
behind_complex fs d w held t = if is_filled fs then begin fs (joined d (Complex w held End)) true t else None

abbrev pub items_mark : List Frame → Body → List ℕ → List Token → Mark → Option State
items_mark fs d w held marks.Comma = Some (in_statement fs d modes.Items w (held ++ Sign marks.Comma ∷ []))
items_mark fs d w held marks.ParenOpen = Some (in_statement fs d modes.Items w (held ++ Sign marks.ParenOpen ∷ []))
items_mark fs d w held marks.ParenClose = Some (in_statement fs d modes.Items w (held ++ Sign marks.ParenClose ∷ []))
items_mark fs d w held marks.Semicolon = Some (at_begin fs (joined d (Simple w held marks.Semicolon End)) false)
items_mark fs d w held marks.LineEnd = Some (at_begin fs (joined d (Simple w held marks.LineEnd End)) false)
items_mark fs d w held marks.BraceClose = shut fs (joined d (grammar.Last w held))
items_mark fs d w held k = None

abbrev pub items : List Frame → Body → List ℕ → List Token → Token → Option State
items fs d w held (Name quoted n) = Some (in_statement fs d modes.Items w (held ++ Name quoted n ∷ []))
items fs d w held (Sign k) = items_mark fs d w held k

module _ (room : ℕ → Bool) where
  abbrev pub behind : List Frame → Body → List ℕ → List Token → Token → Option State
  behind fs d w held (Sign marks.BraceOpen) = if room (length fs) then Some (at_begin (record { before = d; word = w; args = held } ∷ fs) End false) else None
  behind fs d w held t = behind_complex fs d w held t

  abbrev pub step_by : List Frame → Body → Mode → List ℕ → List Token → Token → Option State
  step_by fs d (modes.Begin semi) w held t = begin fs d semi t
  step_by fs d modes.Named w held t = named fs d w t
  step_by fs d (modes.Args last) w held t = args fs d last w held t
  step_by fs d modes.Behind w held t = behind fs d w held t
  step_by fs d modes.Items w held t = items fs d w held t

  abbrev pub step : State → Token → Option State
  step z t = step_by z.frames z.done z.mode z.word z.held t

abbrev pub start : State
start = at_begin [] End false

abbrev pub accepts_by : Mode → List Frame → Bool
accepts_by (modes.Begin semi) [] = true
accepts_by mode fs = false

abbrev pub accepts : State → Bool
accepts z = accepts_by z.mode z.frames
