-- The statements of the laws of this crate (own rule).
use Rattle.std.specs.Prelude.{◌≡◌, ℕ, List, true, false, bytes_eq}
use Rattle.lp_model.specs.NetlistView.{ModuleView}
use Rattle.lp_model.specs.LibraryView.{CellView}
use Rattle.lp_spec_design.specs.Keys.{Name}
use Rattle.lp_spec_plain_module.specs.Tests.{is_flat}
use Rattle.lp_spec_plain_netlist.specs.Single.{is_single_module}
use Rattle.lp_spec_plain_netlist.specs.Fits.{is_fit, are_plain, are_read}
use Rattle.lp_spec_plain_netlist.specs.Flats.{flat_of}

-- a module of scalars that fits plain cells gives a flat design, where both were read and the supply ports have two names
abbrev pub FitsAreFlat : Type 0
FitsAreFlat =
    (cells : List CellView) (m : ModuleView) (power gnd : Name) (margin : ℕ)
    → is_single_module m ≡ true
    → are_read cells m ≡ true
    → is_fit cells m ≡ true
    → are_plain cells m ≡ true
    → bytes_eq power gnd ≡ false
    → is_flat (flat_of cells m power gnd margin) ≡ true
