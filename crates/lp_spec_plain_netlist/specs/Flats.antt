-- The design of a module with its cells and the two supply ports of its intent, and whether its keys have an order (own rule).
use Rattle.std.specs.Prelude.{ℕ, List}
use Rattle.lp_spec_settling.specs.Settling.{HasOrder, Reaches}
use Rattle.lp_model.specs.NetlistView.{ModuleView}
use Rattle.lp_model.specs.LibraryView.{CellView}
use Rattle.lp_spec_design.specs.Keys.{Name}
use Rattle.lp_spec_design.specs.Settled.{Key}
use Rattle.lp_spec_design.specs.Reads.{keys, reads}
use Rattle.lp_spec_plain_module.specs.Designs.{Flat, design_of}

abbrev pub flat_of : List CellView → ModuleView → Name → Name → ℕ → Flat
flat_of cells m power gnd margin = record { cells = cells; source = m; power = power; gnd = gnd; margin = margin }

-- a node depends on itself
abbrev pub HasLoop : Flat → Type 0
HasLoop f = (k : Key) × Reaches keys (reads (design_of f)) k k

-- the keys that the equations under intent read have an order
abbrev pub IsOrdered : Flat → Type 0
IsOrdered f = HasOrder keys (reads (design_of f))
