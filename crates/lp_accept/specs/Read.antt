-- What the reading stages give.
use Rattle.std.specs.Prelude.{◌≡◌, ℕ, ◌⊎◌, ◌<◌, true, List, map, length}
use Rattle.std.specs.List.{list_all}
use Rattle.lp_text.specs.Texts.{distinct}
use Rattle.lp_model.specs.declared.groups.Groups.{Groups}
use Rattle.lp_model.specs.declared.library.Library.{Library}
use Rattle.lp_model.specs.declared.netlist.Netlist.{Netlist}
use Rattle.lp_model.specs.Agreement.{numbers_below}
use Rattle.lp_model.specs.GroupsView.{groups_view, groups_numbers}
use Rattle.lp_model.specs.LibraryView.{CellView, library_view, library_numbers}
use Rattle.lp_model.specs.NetlistView.{ModuleView, netlist_view, netlist_numbers}
use Rattle.lp_liberty.specs.Denotes.{Denotes}
use Rattle.lp_spec_bridge.specs.Names.{HasNamesApart}
use Rattle.lp_connections.specs.Limits.{AreSmall}
use Rattle.lp_spec_numbered.specs.Read.{DeclareTheirBits}
use Rattle.lp_spec_insertion.specs.Inputs.{HaveGroups, HasCells, HasModules, structure_in}
use Rattle.lp_spec_insertion.specs.Faults.{FirstOff, HasTwice}

-- the groups of a text, over the names of a table
pub record IsGroups (names : List (List ℕ)) (text : List ℕ) (g : Groups) : Type 0 where
  pub denotes : Denotes text (groups_view names g)
  pub below : numbers_below (length names) (groups_numbers g) ≡ true

-- the groups of each text
pub record AreGroups (names : List (List ℕ)) (texts : List (List ℕ)) (files : List Groups) : Type 0 where
  pub have : HaveGroups texts (map (groups_view names) files)
  pub below : list_all (λ g. numbers_below (length names) (groups_numbers g)) files ≡ true

-- cells that are few, with names of the table
pub record AreCells (names : List (List ℕ)) (l : Library) : Type 0 where
  pub below : numbers_below (length names) (library_numbers l) ≡ true
  pub few : length l.cells < 4294967295

-- the cells of the libraries
pub record IsCells (names : List (List ℕ)) (libraries : List (List ℕ)) (l : Library) : Type 0 where
  pub has : HasCells libraries (library_view names l)
  pub below : numbers_below (length names) (library_numbers l) ≡ true

abbrev pub IsNoLibrary : List (List ℕ) → List ℕ → Type 0
IsNoLibrary libraries line = FirstOff 10 libraries line ⊎ HasTwice libraries line

-- modules whose names differ, whose ports and assigns are few, whose own names are apart, and which declare their bits
pub record AreModules (names : List (List ℕ)) (n : Netlist) : Type 0 where
  pub below : numbers_below (length names) (netlist_numbers n) ≡ true
  pub apart : distinct (map (λ (m : ModuleView). m.name) (netlist_view names n)) ≡ true
  pub few : length n.modules < 4294967295
  pub small : AreSmall n.modules
  pub names_apart : (cells : List CellView) → HasNamesApart (structure_in cells (netlist_view names n))
  pub declared : DeclareTheirBits (netlist_view names n)

-- the modules of a netlist
pub record IsModules (names : List (List ℕ)) (text : List ℕ) (n : Netlist) : Type 0 where
  pub has : HasModules text (netlist_view names n)
  pub are : AreModules names n
