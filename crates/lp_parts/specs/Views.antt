-- What the code keeps, by the texts of names.
use Rattle.std.specs.Prelude.{◌≡◌, ℕ, List, ◌++◌, map, length, IsTrue}
use Rattle.std.specs.List.{flat_map}
use Rattle.lp_model.specs.Agreement.{numbers_below}
use Rattle.lp_model.specs.declared.groups.Group.{Group}
use Rattle.lp_model.specs.GroupsView.{GroupView, group_view}
use Rattle.lp_model.specs.LibraryView.{pg_pin_numbers, pg_pin_view}
use Rattle.lp_attributes.specs.Expressions.{are_known}
use Rattle.lp_parts.specs.declared.scope.Frame.{Frame}
use Rattle.lp_parts.specs.Pins.{Scope}

abbrev pub frame_view : List (List ℕ) → Frame → Scope
frame_view texts s = record { signals = s.signals; names = s.names; pgs = map (pg_pin_view texts) s.pgs; power = s.power; gnd = s.gnd; floating = s.floating }

abbrev pub group_views : List (List ℕ) → List Group → List GroupView
group_views texts groups = map (group_view texts) groups

-- what is read from a group and the groups beside it, by the texts of their names
abbrev pub by_texts : {A : Type 0} → (GroupView → List GroupView → A) → List (List ℕ) → Group → List Group → A
by_texts read texts g groups = read (group_view texts g) (group_views texts groups)

-- the same, read by what the pins of the cell are read by
abbrev pub by_frame : {A : Type 0} → (Scope → GroupView → List GroupView → A) → List (List ℕ) → Frame → Group → List Group → A
by_frame read texts s g groups = by_texts (read (frame_view texts s)) texts g groups

-- the new list is the old one with these at its end, as a view shows them
abbrev pub Adds : {A B : Type 0} → (A → B) → List A → List A → List B → Type 0
Adds view old new more = map view new ≡ map view old ++ more

-- the names that expressions may have are in the table, and so are the numbers of the power and ground pins
pub record Knows (texts : List (List ℕ)) (s : Frame) : Type 0 where
  pub signals : IsTrue (are_known texts s.signals)
  pub names : IsTrue (are_known texts s.names)
  pub pgs : IsTrue (numbers_below (length texts) (flat_map pg_pin_numbers s.pgs))
