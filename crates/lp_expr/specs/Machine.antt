-- How the reader goes from byte to byte, over what waits for an operand to end and the parts that are read.
use Rattle.std.specs.Prelude.{ℕ, ◌+◌, ◌==◌, nat_lt, nat_le, Bool, true, false, ◌&&◌, List, [], ◌∷◌, ◌++◌, drop, Option, Some, None, if◌then◌else◌}
use Rattle.lp_expr.specs.declared.dialect.Dialect.{Dialect}
use Rattle.lp_expr.specs.declared.dialect.Sign.{Sign}
use Rattle.lp_expr.specs.declared.dialect.Sign.TheVariants as signs
use Rattle.lp_expr.specs.declared.dialect.Mark as mark
use Rattle.lp_expr.specs.declared.dialect.Mark.TheVariants as marks
use Rattle.lp_expr.specs.declared.dialect.Mode as mode
use Rattle.lp_expr.specs.declared.dialect.Mode.TheVariants as modes
use Rattle.lp_expr.specs.declared.dialect.Part as part
use Rattle.lp_expr.specs.declared.dialect.Part.TheVariants as parts
use Rattle.lp_expr.specs.Grammar.{is_blank, is_inner, is_prefix, is_liberty, looseness}
use Rattle.lp_expr.specs.Signs.{sign_at, is_half, longer}

-- what was read last, what waits, the innermost first, and the parts in postfix order
pub record Machine : Type 0 where
  pub last : mode.Mode
  pub waiting : List mark.Mark
  pub read : List part.Part

abbrev pub start : Machine
start = record { last = modes.Want; waiting = []; read = [] }

-- the signs that end where what follows binds at h
abbrev pub closed_marks : Dialect → ℕ → List mark.Mark → List part.Part → List mark.Mark × List part.Part
closed_marks d h [] out = ([], out)
closed_marks d h (marks.Open ∷ ms) out = (marks.Open ∷ ms, out)
closed_marks d h (marks.Prefix ∷ ms) out = closed_marks d h ms (out ++ parts.Not ∷ [])
closed_marks d h (marks.Infix s ∷ ms) out = if nat_le (looseness d s) h then closed_marks d h ms (out ++ parts.Infix s ∷ []) else (marks.Infix s ∷ ms, out)

-- the part that ends first, if any
abbrev pub ended_by : Dialect → ℕ → List mark.Mark → Option part.Part
ended_by d h [] = None
ended_by d h (marks.Open ∷ ms) = None
ended_by d h (marks.Prefix ∷ ms) = Some parts.Not
ended_by d h (marks.Infix s ∷ ms) = if nat_le (looseness d s) h then Some (parts.Infix s) else None

abbrev pub with_ended : part.Part → Machine → Machine
with_ended p m = record { last = m.last; waiting = drop 1 m.waiting; read = m.read ++ p ∷ [] }

abbrev pub closed_in : Dialect → ℕ → Machine → Machine
closed_in d h m = record { last = m.last; waiting = (closed_marks d h m.waiting m.read).0; read = (closed_marks d h m.waiting m.read).1 }

abbrev pub signed_in : Dialect → Sign → Machine → Machine
signed_in d s m = record { last = modes.Want; waiting = marks.Infix s ∷ (closed_marks d (looseness d s) m.waiting m.read).0; read = (closed_marks d (looseness d s) m.waiting m.read).1 }

abbrev pub with_last : mode.Mode → Machine → Machine
with_last l m = record { last = l; waiting = m.waiting; read = m.read }

abbrev pub waiting_for : mark.Mark → Machine → Machine
waiting_for k m = record { last = modes.Want; waiting = k ∷ m.waiting; read = m.read }

abbrev pub with_part : part.Part → Machine → Machine
with_part p m = record { last = modes.Have false; waiting = m.waiting; read = m.read ++ p ∷ [] }

abbrev pub begun : Dialect → ℕ → ℕ → Machine → Option Machine
begun d at b m =
    if is_inner b then Some (with_last (modes.Name at) m)
    else if is_prefix d b then Some (waiting_for marks.Prefix m)
    else if b == 40 then Some (waiting_for marks.Open m)
    else if (b == 34) && is_liberty d then Some (with_last (modes.Quoted (at + 1)) m)
    else None

abbrev pub wanted : Dialect → ℕ → ℕ → Machine → Option Machine
wanted d at b m = if is_blank b then Some (with_last modes.Want m) else begun d at b m

abbrev pub shut_marks : List mark.Mark → List part.Part → Option Machine
shut_marks [] out = None
shut_marks (marks.Open ∷ ms) out = Some (record { last = modes.Have false; waiting = ms; read = out })
shut_marks (marks.Prefix ∷ ms) out = None
shut_marks (marks.Infix s ∷ ms) out = None

abbrev pub shut_in : Machine → Option Machine
shut_in m = shut_marks m.waiting m.read

abbrev pub on_sign_in : Dialect → ℕ → ℕ → Bool → Machine → Option Sign → Option Machine
on_sign_in d at b spaced m (Some s) = if is_half d s then Some (with_last (modes.Half s) m) else Some (signed_in d s m)
on_sign_in d at b spaced m None = if spaced && is_liberty d then begun d at b (signed_in d signs.Gap m) else None

abbrev pub followed : Dialect → ℕ → ℕ → Bool → Machine → Option Machine
followed d at b spaced m =
    if is_blank b then Some (with_last (modes.Have true) m)
    else if (b == 39) && is_liberty d then Some (with_part parts.Not m)
    else if b == 41 then shut_in (closed_in d 5 m)
    else on_sign_in d at b spaced m (sign_at d b)

abbrev pub on_longer_in : Dialect → ℕ → ℕ → Sign → Machine → Option Sign → Option Machine
on_longer_in d at b s m (Some l) = Some (signed_in d l m)
on_longer_in d at b s m None = wanted d at b (signed_in d s m)

abbrev pub step_by : Dialect → ℕ → ℕ → Machine → mode.Mode → Option Machine
step_by d at b m modes.Want = wanted d at b m
step_by d at b m (modes.Name from) = if is_inner b then Some m else followed d at b false (with_part (parts.Plain from at) m)
step_by d at b m (modes.Quoted from) = if is_inner b then Some m else if (b == 34) && nat_lt from at then Some (with_part (parts.Quoted from at) m) else None
step_by d at b m (modes.Have spaced) = followed d at b spaced m
step_by d at b m (modes.Half s) = on_longer_in d at b s m (longer d s b)

abbrev pub step_in : Dialect → ℕ → ℕ → Machine → Option Machine
step_in d at b m = step_by d at b m m.last

-- all parts, where nothing waits
abbrev pub whole_of : List mark.Mark → List part.Part → Option (List part.Part)
whole_of [] out = Some out
whole_of (k ∷ ms) out = None

abbrev pub whole_in : Machine → Option (List part.Part)
whole_in m = whole_of m.waiting m.read

abbrev pub finished_by : Dialect → ℕ → Machine → mode.Mode → Option (List part.Part)
finished_by d at m modes.Want = None
finished_by d at m (modes.Name from) = whole_in (closed_in d 5 (with_part (parts.Plain from at) m))
finished_by d at m (modes.Quoted from) = None
finished_by d at m (modes.Have spaced) = whole_in (closed_in d 5 m)
finished_by d at m (modes.Half s) = None

abbrev pub finished : Dialect → ℕ → Machine → Option (List part.Part)
finished d at m = finished_by d at m m.last

-- the parts of a text, or the byte at which the reader stops
pub data Reading : Type 0 where
  Stopped : ℕ → Reading
  Whole : List part.Part → Reading

abbrev pub ending : ℕ → Option (List part.Part) → Reading
ending at None = Stopped at
ending at (Some out) = Whole out

abbrev pub going_on : ℕ → (Machine → Reading) → Option Machine → Reading
going_on at more None = Stopped at
going_on at more (Some m) = more m

-- from a byte's number on: the first byte that is not taken, or one past the last byte, or all parts
abbrev pub read_in : Dialect → ℕ → List ℕ → Machine → Reading
read_in d at [] m = ending at (finished d at m)
read_in d at (b ∷ text) m = going_on at (λ n. read_in d (at + 1) text n) (step_in d at b m)
