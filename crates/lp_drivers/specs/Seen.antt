-- The driven places of a module, seen one after another, up to the first that is driven twice (own rule).
use Rattle.std.specs.Prelude.{ℕ, nat_lt, Bool, true, false, List, [], ◌∷◌, length, replicate, Option, Some, None, if◌then◌else◌, slice_index_or, slice_set}

-- the first place that is driven twice, or how many places there are; and whether each place before it is driven
abbrev pub Seen : Type 0
Seen = ℕ × List Bool

abbrev pub none_seen : ℕ → Seen
none_seen n = (n, replicate n false)

-- a place that is not behind the first
abbrev pub met : Seen → ℕ → Seen
met m p = if slice_index_or m.1 p false then (p, m.1) else (m.0, slice_set m.1 p true)

abbrev pub see : Seen → ℕ → Seen
see m p = if nat_lt p m.0 then met m p else m

abbrev pub see_all : Seen → List ℕ → Seen
see_all m [] = m
see_all m (p ∷ ps) = see_all (see m p) ps

-- the least of a place and those of a list that are driven
abbrev pub lower : List Bool → ℕ → ℕ → ℕ
lower driven best p = if nat_lt p best then (if slice_index_or driven p false then p else best) else best

abbrev pub lower_all : List Bool → ℕ → List ℕ → ℕ
lower_all driven best [] = best
lower_all driven best (p ∷ ps) = lower_all driven (lower driven best p) ps

-- a place that is one of so many
abbrev pub known : ℕ → ℕ → Option ℕ
known n k = if nat_lt k n then Some k else None

-- the first place that is driven twice, with those that are driven from outside
abbrev pub twice_with : Seen → List ℕ → Option ℕ
twice_with m ps = known (length m.1) (lower_all m.1 m.0 ps)
