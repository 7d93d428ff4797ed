-- A cell from its power and ground pins and its other parts (own rule).
use Rattle.std.specs.Prelude.{List}
use Rattle.lp_model.specs.declared.library.Cell.{Cell}
use Rattle.lp_model.specs.declared.library.PgPin.{PgPin}
use Rattle.lp_cells.specs.declared.cell.Parts.{Parts}

-- the cell of these power and ground pins and these other parts
abbrev pub whole : List PgPin → Parts → Cell
whole pgs p = record { name = p.name; area = p.area; pgs = pgs; pins = p.pins; state = p.state; roles = p.roles; unusable = p.unusable }
