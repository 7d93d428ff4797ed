-- What holds of every netlist that is read (own rule, after IEEE 1364-2005).
use Rattle.std.specs.Prelude.{ℕ, Bool, ◌&&◌, List, map, Option}
use Rattle.std.specs.List.{list_all}
use Rattle.lp_text.specs.Texts.{distinct}
use Rattle.lp_model.specs.declared.netlist.BitRange.{BitRange}
use Rattle.lp_model.specs.NetlistView.{ConnectionsView, ByName, ByPosition, InstanceView, ModuleView}
use Rattle.lp_vwrite.specs.Layout.{declared}
use Rattle.lp_vwrite.specs.WellFormed.{is_name, is_net, is_bit, is_connection, is_assign, names_of}

-- connections by name, which may name a port twice, or by position
abbrev pub is_read_connections : List (List ℕ × Option BitRange) → ConnectionsView → Bool
is_read_connections nets (ByName cs) = list_all (is_connection nets) cs
is_read_connections nets (ByPosition values) = list_all (list_all (is_bit nets)) values

abbrev pub is_read_instance : List (List ℕ × Option BitRange) → InstanceView → Bool
is_read_instance nets i = is_name i.name && (is_name i.target && is_read_connections nets i.connections)

abbrev pub is_read_module : ModuleView → Bool
is_read_module m = is_name m.name && (list_all is_net (declared m) && (distinct (names_of m) && (list_all (is_read_instance (declared m)) m.instances && list_all (is_assign (declared m)) m.assigns)))

-- as a well-formed netlist, but for its connections
abbrev pub is_read : List ModuleView → Bool
is_read modules = distinct (map (λ m. m.name) modules) && list_all is_read_module modules
