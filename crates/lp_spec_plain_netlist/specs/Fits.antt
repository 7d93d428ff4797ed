-- When a module fits the cells of the libraries: each instance has a cell that can stand in a source, joined at each signal pin once (own rule, after Liberty and IEEE 1364-2005).
use Rattle.std.specs.Prelude.{Bool, true, false, not, ◌&&◌, ◌||◌, List, [], ◌∷◌, ◌++◌, map, filter, Option, Some, None, is_none, is_some, flat_map, if◌then◌else◌, bytes_eq}
use Rattle.std.specs.List.{list_all, list_any}
use Rattle.lp_text.specs.Texts.{has_text, distinct}
use Rattle.lp_model.specs.declared.library.PgKind.{PgKind}
use Rattle.lp_model.specs.declared.library.PgKind.TheVariants.{BackupPower, BackupGround, InternalPower, InternalGround}
use Rattle.lp_model.specs.NetlistView.{BitView, NetBit, PortView, ConnectionView, ConnectionsView, ByName, ByPosition, InstanceView, ModuleView}
use Rattle.lp_model.specs.LibraryView.{PgPinView, PinView, CellView}
use Rattle.lp_spec_design.specs.Keys.{Name}
use Rattle.lp_spec_design.specs.Netlists.{first, is_input}
use Rattle.lp_spec_design.specs.Graph.{is_output_pin}
use Rattle.lp_spec_plain.specs.Cells.{is_related_pin, loses_with_supply}
use Rattle.lp_spec_plain_module.specs.Tests.{has_names_apart}
use Rattle.lp_vwrite.specs.WellFormed.{is_name}
use Rattle.lp_vwrite.specs.Sound.{is_read_module}

abbrev pub cell_named : List CellView → Name → Option CellView
cell_named cells n = first (λ (c : CellView). bytes_eq c.name n) cells

-- ---- cells

-- a pin that wants another supply than the primary one, or gives one
abbrev pub is_extra : PgKind → Bool
is_extra BackupPower = true
is_extra BackupGround = true
is_extra InternalPower = true
is_extra InternalGround = true
is_extra kind = false

-- a cell that can be used, and is no level shifter, retention cell or switch cell and has no backup or internal pin
abbrev pub is_taken : CellView → Bool
is_taken c =
    is_none c.unusable
    && (is_none c.roles.shifter
    && (is_none c.roles.retention
    && (not c.roles.switch
    && list_all (λ (g : PgPinView). not (is_extra g.kind)) c.pgs)))

-- ---- connections

abbrev pub connected_names : ConnectionsView → List Name
connected_names (ByName cs) = map (λ (c : ConnectionView). c.port) cs
connected_names (ByPosition values) = []

abbrev pub pin_names : CellView → List Name
pin_names c = map (λ (q : PinView). q.name) c.pins

-- the connections name signal pins of the cell, each once, and every signal pin is connected
abbrev pub names_pins : List Name → List Name → Bool
names_pins ports pins = list_all (λ n. has_text n pins) ports && (distinct ports && list_all (λ n. has_text n ports) pins)

abbrev pub is_joined : InstanceView → Option CellView → Bool
is_joined x None = false
is_joined x (Some c) = is_taken c && names_pins (connected_names x.connections) (pin_names c)

-- ---- sources of nets

abbrev pub input_ports : ModuleView → List Name
input_ports m = map (λ (p : PortView). p.name) (filter is_input m.ports)

abbrev pub net_names : List BitView → List Name
net_names (NetBit n ∷ []) = n ∷ []
net_names bits = []

abbrev pub is_output_of : CellView → Name → Bool
is_output_of c n = list_any (λ (q : PinView). is_output_pin q && bytes_eq q.name n) c.pins

-- the nets at the output pins
abbrev pub driven_at : CellView → ConnectionView → List Name
driven_at c k = if is_output_of c k.port then net_names k.bits else []

abbrev pub driven_by : ConnectionsView → Option CellView → List Name
driven_by cs None = []
driven_by (ByName cs) (Some c) = flat_map (driven_at c) cs
driven_by (ByPosition values) (Some c) = []

-- one entry for each source of a net: the inputs, and the nets at output pins
abbrev pub driven_nets : List CellView → ModuleView → List Name
driven_nets cells m = input_ports m ++ flat_map (λ (x : InstanceView). driven_by x.connections (cell_named cells x.target)) m.instances

-- ---- the tests

-- the module has no cell's name, every instance fits its cell, and no net has two sources
abbrev pub is_fit : List CellView → ModuleView → Bool
is_fit cells m =
    is_none (cell_named cells m.name)
    && (list_all (λ (x : InstanceView). is_joined x (cell_named cells x.target)) m.instances
    && distinct (driven_nets cells m))

-- outputs and state of each cell are lost exactly where its one supply is not on
abbrev pub is_plain_target : Option CellView → Bool
is_plain_target None = false
is_plain_target (Some c) = loses_with_supply c

abbrev pub are_plain : List CellView → ModuleView → Bool
are_plain cells m = list_all (λ (x : InstanceView). is_plain_target (cell_named cells x.target)) m.instances

-- ---- what stands of everything that is read

-- the power and ground pins have names that no other pin has
abbrev pub has_pg_names : CellView → Bool
has_pg_names c = has_names_apart c && list_all (λ (g : PgPinView). is_name g.name) c.pgs

-- each signal pin relates to a power and a ground pin, but for those of switch cells
abbrev pub has_related_pins : CellView → Bool
has_related_pins c = c.roles.switch || list_all (is_related_pin c) c.pins

-- what is switched is an internal pin
abbrev pub is_switched_inside : PgPinView → Bool
is_switched_inside g = is_none g.switched || is_extra g.kind

abbrev pub is_known_cell : CellView → Bool
is_known_cell c = has_pg_names c && (has_related_pins c && list_all is_switched_inside c.pgs)

-- so it is with each cell that can be used
abbrev pub is_read_cell : CellView → Bool
is_read_cell c = is_some c.unusable || is_known_cell c

-- cells of libraries and a module of a netlist that were read
abbrev pub are_read : List CellView → ModuleView → Bool
are_read cells m = list_all is_read_cell cells && is_read_module m
