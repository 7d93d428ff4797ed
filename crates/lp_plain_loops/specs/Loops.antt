-- What is known of the loops of a module that fits its cells, whatever its supply ports are called (own rule).
use Rattle.std.specs.Prelude.{◌≡◌, ℕ, List, true}
use Rattle.lp_model.specs.NetlistView.{ModuleView}
use Rattle.lp_model.specs.LibraryView.{CellView}
use Rattle.lp_spec_design.specs.Keys.{Name}
use Rattle.lp_spec_plain_netlist.specs.Single.{is_single_module}
use Rattle.lp_spec_plain_netlist.specs.Fits.{are_read, is_fit}
use Rattle.lp_spec_plain_netlist.specs.Flats.{flat_of, IsOrdered, HasLoop}

-- no node of its design depends on itself: the keys have an order
abbrev pub OrderedIfFit : List CellView → ModuleView → Type 0
OrderedIfFit cells m =
    (power gnd : Name) (margin : ℕ)
    → is_single_module m ≡ true
    → are_read cells m ≡ true
    → is_fit cells m ≡ true
    → IsOrdered (flat_of cells m power gnd margin)

-- some node of its design depends on itself
abbrev pub LoopedIfFit : List CellView → ModuleView → Type 0
LoopedIfFit cells m =
    (power gnd : Name) (margin : ℕ)
    → is_single_module m ≡ true
    → are_read cells m ≡ true
    → is_fit cells m ≡ true
    → HasLoop (flat_of cells m power gnd margin)
