-- The tables of an elaborated netlist with the shapes of the library's cells as they are: of a cell that cannot be used the tables may hold fewer power and ground pins than it has (own rule).
use Rattle.std.specs.Prelude.{nat_lt, Bool, List, map, length, is_some}
use Rattle.lp_model.specs.declared.graph.CellShape.{CellShape}
use Rattle.lp_model.specs.declared.library.Cell.{Cell}
use Rattle.lp_model.specs.declared.library.Pin.{Pin}
use Rattle.lp_spec_bridge.specs.Tables.{Tables}

-- the directions of its signal pins, the number of its power and ground pins, and whether it has a state group
abbrev pub exact_shape : Cell → CellShape
exact_shape c = record { pins = map (λ (q : Pin). q.direction) c.pins; pgs = length c.pgs; state = is_some c.state }

abbrev pub with_shapes : List Cell → Tables → Tables
with_shapes cells t = record {
  instances = t.instances;
  leaves = t.leaves;
  pins = t.pins;
  nodes = t.nodes;
  edges = t.edges;
  shapes = map exact_shape cells;
  inner = t.inner;
}

-- the tables count them in 8 bits
abbrev pub has_few_pgs : Cell → Bool
has_few_pgs c = nat_lt (length c.pgs) 256
