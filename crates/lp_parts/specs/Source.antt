-- The groups of a cell in a list of groups (Liberty; a group stands in the group of its parent's number).
use Rattle.std.specs.Prelude.{ℕ, suc, Bool, true, false, ◌&&◌, ◌||◌, ◌==◌, nat_le, is_none, if◌then◌else◌, slice_get, slice_index_or, List, [], ◌∷◌, Option, Some, None, codes}
use Rattle.std.specs.List.{list_any, find}
use Rattle.lp_text.specs.Texts.{same_text}
use Rattle.lp_model.specs.GroupsView.{GroupView}

-- the group stands in the group of a number
abbrev pub is_at : ℕ → Option ℕ → Bool
is_at place None = false
is_at place (Some parent) = parent == place

abbrev pub stands_in : ℕ → GroupView → Bool
stands_in place g = is_at place g.parent

-- the group is of a word and stands in the group of a number
abbrev pub is_part : ℕ → List ℕ → GroupView → Bool
is_part place word g = stands_in place g && same_text g.word word

-- an argument of a group, empty where it is missing
abbrev pub arg_at : ℕ → GroupView → List ℕ
arg_at n g = slice_index_or g.args n []

-- a group follows another inside of it as long as it stands in it or in a later one
abbrev pub is_behind : ℕ → Option ℕ → Bool
is_behind place None = false
is_behind place (Some parent) = nat_le place parent

-- the groups inside of the group of a number, at any depth, among those that follow it
abbrev pub inside : ℕ → List GroupView → List GroupView
inside place [] = []
inside place (g ∷ groups) = if is_behind place g.parent then g ∷ inside place groups else []

-- groups named library at the top of a file
abbrev pub is_library : Option GroupView → Bool
is_library None = false
is_library (Some g) = same_text g.word (codes "library") && is_none g.parent

abbrev pub is_in_library : List GroupView → Option ℕ → Bool
is_in_library all None = false
is_in_library all (Some parent) = is_library (slice_get all parent)

-- cells count where they stand in a library
abbrev pub is_cell : List GroupView → GroupView → Bool
is_cell all g = same_text g.word (codes "cell") && is_in_library all g.parent
