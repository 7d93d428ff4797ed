-- When a netlist is a source with its supplies (own rule).
use Rattle.std.specs.Prelude.{◌≡◌, ℕ, List}
use Rattle.lp_model.specs.NetlistView.{ModuleView}
use Rattle.lp_model.specs.LibraryView.{CellView}
use Rattle.lp_spec_design.specs.Keys.{Name}
use Rattle.lp_spec_plain_module.specs.Netlists.{powered}
use Rattle.lp_spec_plain_netlist.specs.Flats.{flat_of}

-- `written` is what `source` becomes with ports that carry `power` and `gnd`; a netlist has no margin, so it is so with each
abbrev pub IsPowered : List CellView → ModuleView → Name → Name → ModuleView → Type 0
IsPowered cells source power gnd written = (margin : ℕ) → written ≡ powered (flat_of cells source power gnd margin)
