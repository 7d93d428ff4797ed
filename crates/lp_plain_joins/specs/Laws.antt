-- The statements of the laws of this crate (own rule).
use Rattle.std.specs.Prelude.{◌≡◌, ℕ, List, [], ◌∷◌, true, false, bytes_eq}
use Rattle.std.specs.List.{list_all}
use Rattle.lp_model.specs.NetlistView.{ModuleView}
use Rattle.lp_model.specs.LibraryView.{CellView}
use Rattle.lp_spec_design.specs.Keys.{Name}
use Rattle.lp_spec_plain_module.specs.Netlists.{powered}
use Rattle.lp_verilog_tokens.specs.Lexical.{is_visible}
use Rattle.lp_vwrite.specs.WellFormed.{IsWellFormed}
use Rattle.lp_spec_plain_netlist.specs.Single.{is_single_module}
use Rattle.lp_spec_plain_netlist.specs.Fits.{is_fit, are_read}
use Rattle.lp_spec_plain_netlist.specs.Flats.{flat_of}

-- the netlist of a module that fits its cells is well formed, where both were read and the supplies have two visible names
abbrev pub PoweredIsWellFormed : Type 0
PoweredIsWellFormed =
    (cells : List CellView) (m : ModuleView) (power gnd : Name) (margin : ℕ)
    → is_single_module m ≡ true
    → are_read cells m ≡ true
    → is_fit cells m ≡ true
    → bytes_eq power gnd ≡ false
    → list_all is_visible power ≡ true
    → list_all is_visible gnd ≡ true
    → IsWellFormed (powered (flat_of cells m power gnd margin) ∷ [])
