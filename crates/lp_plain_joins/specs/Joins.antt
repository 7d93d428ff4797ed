-- The joins of instances to the supply ports, over numbers of names.
use Rattle.std.specs.Prelude.{List, [], ◌∷◌, ◌++◌, map, Option, Some, None, if◌then◌else◌}
use Rattle.lp_text.specs.declared.names.NameId.{NameId}
use Rattle.lp_model.specs.declared.bits.Bit.TheVariants.{Net}
use Rattle.lp_model.specs.declared.library.PgKind.{PgKind}
use Rattle.lp_model.specs.declared.library.PgPin.{PgPin}
use Rattle.lp_model.specs.declared.library.Cell.{Cell}
use Rattle.lp_model.specs.declared.netlist.Direction.TheVariants.{Input}
use Rattle.lp_model.specs.declared.netlist.Port.{Port}
use Rattle.lp_model.specs.declared.netlist.Connection.{Connection}
use Rattle.lp_model.specs.declared.netlist.Connections.{Connections}
use Rattle.lp_model.specs.declared.netlist.Connections.TheVariants.{Named, Ordered}
use Rattle.lp_model.specs.declared.netlist.Instance.{Instance}
use Rattle.lp_model.specs.declared.netlist.Module.{Module}
use Rattle.lp_spec_pins.specs.Pins.{is_power}
use Rattle.lp_plain_index.specs.Cells.{cell_numbered}
use Rattle.lp_plain_joins.specs.declared.joins.Supplies.{Supplies}

-- the port of a pin of this type
abbrev pub port_for : Supplies → PgKind → NameId
port_for s kind = if is_power kind then s.power else s.gnd

abbrev pub join_of : Supplies → PgPin → Connection
join_of s g = record { bits = Net (port_for s g.kind) ∷ []; port = g.name }

abbrev pub joins_for : Supplies → Option Cell → List Connection
joins_for s None = []
joins_for s (Some c) = map (join_of s) c.pgs

abbrev pub with_more : List Connection → Connections → Connections
with_more more (Named cs) = Named (cs ++ more)
with_more more (Ordered values) = Ordered values

abbrev pub joined_instance : List Cell → Supplies → Instance → Instance
joined_instance cells s x = record { name = x.name; target = x.target; connections = with_more (joins_for s (cell_numbered cells x.target.0)) x.connections }

abbrev pub port_in : NameId → Port
port_in n = record { name = n; range = None; direction = Input }

-- the module with the two ports behind its own, and each instance joined to them
abbrev pub joined_module : List Cell → Supplies → Module → Module
joined_module cells s m = record {
  name = m.name;
  ports = m.ports ++ port_in s.power ∷ port_in s.gnd ∷ [];
  nets = m.nets;
  instances = map (joined_instance cells s) m.instances;
  assigns = m.assigns;
}
