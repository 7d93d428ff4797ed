-- The names that stand in a cell (Liberty pin, pg_pin, ff and latch).
use Rattle.std.specs.Prelude.{ℕ, Bool, not, ◌&&◌, ◌||◌, if◌then◌else◌, List, [], ◌∷◌, fold, take, Option, Some, None, codes, is_none}
use Rattle.std.specs.List.{filter}
use Rattle.lp_text.specs.Texts.{same_text, with_text}
use Rattle.lp_model.specs.GroupsView.{GroupView}
use Rattle.lp_attributes.specs.Attributes.{says}
use Rattle.lp_parts.specs.Source.{stands_in, is_part, arg_at}

-- texts with more of them, each once
abbrev pub with_texts : List (List ℕ) → List (List ℕ) → List (List ℕ)
with_texts set texts = fold with_text set texts

-- ff and latch groups
unfoldable pub is_state : ℕ → GroupView → Bool
is_state place g = stands_in place g && (same_text g.word (codes "ff") || same_text g.word (codes "latch"))

-- pins whose direction is not output count as inputs
abbrev pub is_output : GroupView → Bool
is_output g = says (codes "direction") (codes "output") g

-- pin (A, B) makes two pins
abbrev pub with_inputs : ℕ → List (List ℕ) → GroupView → List (List ℕ)
with_inputs place set g = if is_part place (codes "pin") g && not (is_output g) then with_texts set g.args else set

-- the two variables of a state group; an output pin may have the name of one, and is no variable itself
abbrev pub with_variables : ℕ → List (List ℕ) → GroupView → List (List ℕ)
with_variables place set g = if is_state place g then with_texts set (take 2 g.args) else set

abbrev pub with_pg : ℕ → List (List ℕ) → GroupView → List (List ℕ)
with_pg place set g = if is_part place (codes "pg_pin") g then with_text set (arg_at 0 g) else set

-- the names that a function may have: those of input pins and of state variables
abbrev pub signal_names : ℕ → List GroupView → List (List ℕ)
signal_names place groups = fold (with_variables place) (fold (with_inputs place) [] groups) groups

-- the names that a power_down_function may have: those of power and ground pins
abbrev pub pg_names : ℕ → List GroupView → List (List ℕ)
pg_names place groups = fold (with_pg place) [] groups
