-- What is kept of a cell (own rule).
use Rattle.std.specs.Prelude.{map, length, is_some}
use Rattle.lp_model.specs.declared.graph.CellShape.{CellShape}
use Rattle.lp_model.specs.declared.library.Cell.{Cell}
use Rattle.lp_model.specs.declared.library.Pin.{Pin}
use Rattle.lp_layout.specs.Held.{byte}

abbrev pub held_shape : Cell → CellShape
held_shape c = record { pins = map (λ (q : Pin). q.direction) c.pins; pgs = byte (length c.pgs); state = is_some c.state }
