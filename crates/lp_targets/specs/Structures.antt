-- A netlist and the cells of its library by the texts of their names (IEEE 1364-2005, modules; Liberty cell).
use Rattle.std.specs.Prelude.{◌≡◌, ℕ, ◌<◌, List, true, length}
use Rattle.lp_model.specs.Agreement.{numbers_below}
use Rattle.lp_model.specs.declared.netlist.Netlist.{Netlist}
use Rattle.lp_model.specs.declared.library.Library.{Library}
use Rattle.lp_model.specs.NetlistView.{netlist_view, netlist_numbers}
use Rattle.lp_model.specs.LibraryView.{library_view, library_numbers}
use Rattle.lp_spec_design.specs.Netlists.{Structure}

abbrev pub structure_of : List (List ℕ) → Netlist → Library → Structure
structure_of texts n l = record { modules = netlist_view texts n; cells = library_view texts l }

-- all names are of the table, and places fit 32 bits
pub record AreNamed (texts : List (List ℕ)) (n : Netlist) (l : Library) : Type 0 where
  pub netlist : numbers_below (length texts) (netlist_numbers n) ≡ true
  pub library : numbers_below (length texts) (library_numbers l) ≡ true
  pub few_modules : length n.modules < 4294967295
  pub few_cells : length l.cells < 4294967295
