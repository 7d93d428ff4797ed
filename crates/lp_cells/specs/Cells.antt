-- The cells that Liberty groups denote.
use Rattle.std.specs.Prelude.{◌≡◌, ℕ, ◌+◌, Bool, List, [], ◌∷◌, ◌++◌, map, Option, Some, None, Result, Ok, Err, if◌then◌else◌, codes}
use Rattle.std.specs.List.{flat_map}
use Rattle.lp_text.specs.declared.names.NameId.{NameId}
use Rattle.lp_text.specs.Texts.{text_at}
use Rattle.lp_model.specs.declared.fault.library.LibraryFault.TheVariants as faults
use Rattle.lp_model.specs.declared.fault.refusal.Refusal.{Refusal}
use Rattle.lp_model.specs.declared.fault.refusal.Refusal.TheVariants as refusals
use Rattle.lp_model.specs.declared.library.Cell.{Cell}
use Rattle.lp_model.specs.declared.library.Library.{Library}
use Rattle.lp_model.specs.Refusals.{library_refusal}
use Rattle.lp_model.specs.declared.groups.Group.{Group}
use Rattle.lp_model.specs.GroupsView.{GroupView}
use Rattle.lp_model.specs.LibraryView.{PgPinView, PinView, CellView}
use Rattle.lp_attributes.specs.Attributes.{value_of}
use Rattle.lp_attributes.specs.Words.{area}
use Rattle.lp_parts.specs.Source.{arg_at, inside, is_cell}
use Rattle.lp_parts.specs.Names.{pg_names, signal_names}
use Rattle.lp_parts.specs.Pins.{Scope, pgs_of, pins_of, only, floats, is_primary_power, is_primary_ground}
use Rattle.lp_parts.specs.Roles.{roles_of, is_switch}
use Rattle.lp_parts.specs.States.{state_of}
use Rattle.lp_parts.specs.Views.{by_texts, group_views}
use Rattle.lp_cells.specs.Reasons.{reason_of, repeated}

abbrev pub scope_by : List (List ℕ) → List (List ℕ) → List PgPinView → Bool → Scope
scope_by signals names pgs switch = record {
  signals = signals;
  names = names;
  pgs = pgs;
  power = only is_primary_power pgs;
  gnd = only is_primary_ground pgs;
  floating = floats switch pgs;
}

-- what the pins of a cell are read by, from the groups inside of it
abbrev pub scope_of : ℕ → GroupView → List GroupView → Scope
scope_of place head groups =
    let signals = signal_names place groups in
    let names = pg_names place groups in
    scope_by signals names (pgs_of place signals names groups) (is_switch head)

-- the cell of a group, and why it cannot be used
abbrev pub with_pins : ℕ → Scope → GroupView → List GroupView → List PinView → CellView
with_pins place sc head groups pins = record {
  name = arg_at 0 head;
  area = area (value_of (codes "area") head);
  pgs = sc.pgs;
  pins = pins;
  state = state_of place sc groups;
  roles = roles_of place sc.names head groups;
  unusable = reason_of place sc head groups pins;
}

abbrev pub cell_by : ℕ → Scope → GroupView → List GroupView → CellView
cell_by place sc head groups = with_pins place sc head groups (pins_of place sc groups)

-- the cell of the group of a number, with the groups inside of it
unfoldable pub cell_of : ℕ → GroupView → List GroupView → CellView
cell_of place head groups = cell_by place (scope_of place head groups) head groups

-- the cell of a group, if it is one
unfoldable pub cell_at : List GroupView → ℕ → GroupView → List GroupView → List CellView
cell_at all n g groups = if is_cell all g then cell_of n g (inside n groups) ∷ [] else []

-- the same, from groups over a table of names
abbrev pub cell_among : List (List ℕ) → List Group → ℕ → Group → List Group → List CellView
cell_among texts all n g groups = by_texts (cell_at (group_views texts all) n) texts g groups

-- the cells among groups that are numbered from a number
abbrev pub cells_from : List GroupView → ℕ → List GroupView → List CellView
cells_from all n [] = []
cells_from all n (g ∷ groups) = cell_at all n g groups ++ cells_from all (n + 1) groups

-- the cells of a file
abbrev pub cells_in : List GroupView → List CellView
cells_in groups = cells_from groups 0 groups

-- the cells of files, in their order
abbrev pub cells_of : List (List GroupView) → List CellView
cells_of files = flat_map cells_in files

abbrev pub cell_names : List CellView → List (List ℕ)
cell_names cells = map (λ (c : CellView). c.name) cells

-- the cells that the files denote, where each has a name of its own
pub record IsLibrary (files : List (List GroupView)) (cells : List CellView) : Type 0 where
  pub denoted : cells ≡ cells_of files
  pub apart : repeated [] (cell_names cells) ≡ None

-- a second cell of a name
pub record IsTwice (texts : List (List ℕ)) (files : List (List GroupView)) (cell : NameId) : Type 0 where
  pub first : repeated [] (cell_names (cells_of files)) ≡ Some (text_at texts cell.0)

pub data RefusesLibrary (texts : List (List ℕ)) (files : List (List GroupView)) : Refusal → Type 0 where
  Duplicate : (cell : NameId) → IsTwice texts files cell → RefusesLibrary texts files (library_refusal (faults.DuplicateCell cell))
  NoMemory : RefusesLibrary texts files refusals.NoMemory

-- the library of cells, or the refusal of a name that comes a second time
abbrev pub GivesCells : Result Library Refusal → List Cell → Option NameId → Type 0
GivesCells result cells None = result ≡ Ok (record { cells = cells })
GivesCells result cells (Some cell) = result ≡ Err (library_refusal (faults.DuplicateCell cell))
