-- A machine that reads an expression byte by byte, and holds the trees that it has read.
use Rattle.std.proofs.Common.{ℕ, ◌==◌, Bool, List, [], ◌∷◌, ◌++◌, Option, Some, None, ◌&&◌}
use Rattle.std.specs.Prelude.{if◌then◌else◌, nat_le, is_some}
use Rattle.lp_expr.specs.declared.dialect.Dialect.{Dialect}
use Rattle.lp_expr.specs.declared.dialect.Sign.{Sign}
use Rattle.lp_expr.specs.declared.dialect.Sign.TheVariants as signs
use Rattle.lp_expr.specs.Grammar.{Tree, Plain, Quoted, Group, Prefixed, Postfixed, Joined, is_blank, is_inner, is_prefix, is_liberty, looseness, is_filled}
use Rattle.lp_expr.specs.Signs.{sign_at, is_half, longer}

-- what waits for an operand to end: with its blanks, and a left operand with its sign
pub data Frame : Type 0 where
  Open : List ℕ → Frame
  Pending : List ℕ → ℕ → Frame
  Left : Tree → List ℕ → Sign → Frame

-- the frames, the innermost first, and what was read last
pub data State : Type 0 where
  Want : List Frame → List ℕ → State
  InName : List Frame → List ℕ → List ℕ → State
  InQuotes : List Frame → List ℕ → List ℕ → State
  Have : List Frame → Tree → List ℕ → State
  Half : List Frame → Tree → List ℕ → Sign → State

-- an operand, and the frames that it ends where what follows binds at h
abbrev pub closed : Dialect → ℕ → List Frame → Tree → List Frame × Tree
closed d h [] t = ([], t)
closed d h (Open g ∷ fs) t = (Open g ∷ fs, t)
closed d h (Pending g m ∷ fs) t = closed d h fs (Prefixed g m t)
closed d h (Left l g s ∷ fs) t = if nat_le (looseness d s) h then closed d h fs (Joined l g s t) else (Left l g s ∷ fs, t)

-- a sign behind an operand
abbrev pub signed : Sign → List ℕ → List Frame × Tree → List Frame
signed s gap c = Left c.1 gap s ∷ c.0

abbrev pub behind_sign : Dialect → Sign → List Frame → Tree → List ℕ → List Frame
behind_sign d s fs t gap = signed s gap (closed d (looseness d s) fs t)

-- the first byte of an operand
abbrev pub begin : Dialect → List Frame → List ℕ → ℕ → Option State
begin d fs gap b =
    if is_inner b then Some (InName fs gap (b ∷ []))
    else if is_prefix d b then Some (Want (Pending gap b ∷ fs) [])
    else if b == 40 then Some (Want (Open gap ∷ fs) [])
    else if (b == 34) && is_liberty d then Some (InQuotes fs gap [])
    else None

-- a byte where an operand has to come
abbrev pub wanting : Dialect → List Frame → List ℕ → ℕ → Option State
wanting d fs gap b = if is_blank b then Some (Want fs (gap ++ b ∷ [])) else begin d fs gap b

-- a closing parenthesis
abbrev pub shut : List Frame × Tree → List ℕ → Option State
shut ([], t) gap = None
shut (Open g ∷ fs, t) gap = Some (Have fs (Group g t gap) [])
shut (Pending g m ∷ fs, t) gap = None
shut (Left l g s ∷ fs, t) gap = None

-- a sign, or the first byte of an operand behind blanks that mean "and"
abbrev pub on_sign : Dialect → List Frame → Tree → List ℕ → ℕ → Option Sign → Option State
on_sign d fs t gap b (Some s) = if is_half d s then Some (Half fs t gap s) else Some (Want (behind_sign d s fs t gap) [])
on_sign d fs t gap b None = if is_filled gap && is_liberty d then begin d (behind_sign d signs.Gap fs t gap) [] b else None

-- a byte behind an operand
abbrev pub follow : Dialect → List Frame → Tree → List ℕ → ℕ → Option State
follow d fs t gap b =
    if is_blank b then Some (Have fs t (gap ++ b ∷ []))
    else if (b == 39) && is_liberty d then Some (Have fs (Postfixed t gap) [])
    else if b == 41 then shut (closed d 5 fs t) gap
    else on_sign d fs t gap b (sign_at d b)

-- a byte right behind a sign that may go on
abbrev pub on_longer : Dialect → List Frame → Tree → List ℕ → Sign → ℕ → Option Sign → Option State
on_longer d fs t gap s b (Some l) = Some (Want (behind_sign d l fs t gap) [])
on_longer d fs t gap s b None = wanting d (behind_sign d s fs t gap) [] b

abbrev pub step : Dialect → State → ℕ → Option State
step d (Want fs gap) b = wanting d fs gap b
step d (InName fs gap run) b = if is_inner b then Some (InName fs gap (run ++ b ∷ [])) else follow d fs (Plain gap run) [] b
step d (InQuotes fs gap run) b = if is_inner b then Some (InQuotes fs gap (run ++ b ∷ [])) else if (b == 34) && is_filled run then Some (Have fs (Quoted gap run) []) else None
step d (Have fs t gap) b = follow d fs t gap b
step d (Half fs t gap s) b = on_longer d fs t gap s b (longer d s b)

abbrev pub start : State
start = Want [] []

-- the whole expression, where nothing is left open
abbrev pub whole : List Frame × Tree → List ℕ → Option (Tree × List ℕ)
whole ([], t) gap = Some (t, gap)
whole (f ∷ fs, t) gap = None

-- the expression and the blanks behind it, where the text may end
abbrev pub result_of : Dialect → State → Option (Tree × List ℕ)
result_of d (Want fs gap) = None
result_of d (InName fs gap run) = whole (closed d 5 fs (Plain gap run)) []
result_of d (InQuotes fs gap run) = None
result_of d (Have fs t gap) = whole (closed d 5 fs t) gap
result_of d (Half fs t gap s) = None

abbrev pub accepts : Dialect → State → Bool
accepts d z = is_some (result_of d z)
