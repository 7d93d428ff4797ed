-- The lines of the table of faults about connections, assigns and what drives a net bit (IEEE 1364-2005, port connections, continuous assignments; Liberty pg_pin).
use Rattle.std.specs.Prelude.{ℕ, ◌+◌, ◌-◌, ◌==◌, nat_lt, Bool, true, false, not, ◌&&◌, ◌||◌, List, [], ◌∷◌, ◌++◌, map, length, codes, decimal, Option, Some, None, option_map, option_and_then, bytes_eq, flat_map, slice_get}
use Rattle.std.specs.List.{list_any}
use Rattle.lp_model.specs.NetlistView.{BitView, NetBit, SelectBit, ConstBit, PortView, ConnectionView, ConnectionsView, ByName, ByPosition, InstanceView, AssignView, ModuleView}
use Rattle.lp_model.specs.LibraryView.{PgPinView, PinView, CellView}
use Rattle.lp_spec_design.specs.Keys.{Name, Node}
use Rattle.lp_spec_design.specs.Netlists.{Structure, first, module_named, cell_named, is_input}
use Rattle.lp_spec_design.specs.Nodes.{inner_nodes, is_on_its_way}
use Rattle.lp_spec_design.specs.Graph.{numbered, when, is_output_pin, sources_of}
use Rattle.lp_spec_faults.specs.Lines.{Line}
use Rattle.lp_spec_faults.specs.Modules.{bit_count}

-- ---- places

-- a connection of an instance: its number, from 1, its name where it is written by name, its bits, and the names that the instance connects before it
pub record ConnectionAt : Type 0 where
  pub parent : ModuleView
  pub instance : InstanceView
  pub number : ℕ
  pub name : Option Name
  pub bits : List BitView
  pub before : List Name

abbrev pub named_from : ModuleView → InstanceView → ℕ → List Name → List ConnectionView → List ConnectionAt
named_from m x k before [] = []
named_from m x k before (c ∷ cs) = record { parent = m; instance = x; number = k; name = Some c.port; bits = c.bits; before = before } ∷ named_from m x (k + 1) (before ++ c.port ∷ []) cs

abbrev pub placed_from : ModuleView → InstanceView → ℕ → List (List BitView) → List ConnectionAt
placed_from m x k [] = []
placed_from m x k (v ∷ vs) = record { parent = m; instance = x; number = k; name = None; bits = v; before = [] } ∷ placed_from m x (k + 1) vs

abbrev pub connections_of : ModuleView → InstanceView → List ConnectionAt
connections_of m x = by x.connections
  where
    by : ConnectionsView → List ConnectionAt
    by (ByName cs) = named_from m x 1 [] cs
    by (ByPosition vs) = placed_from m x 1 vs

abbrev pub connections_in : ModuleView → List ConnectionAt
connections_in m = flat_map (connections_of m) m.instances

abbrev pub all_connections : Structure → List ConnectionAt
all_connections s = flat_map connections_in s.modules

-- ---- what a connection means

-- the port of that name, or at that position
abbrev pub port_of : ModuleView → ConnectionAt → Option PortView
port_of m c = by c.name
  where
    by : Option Name → Option PortView
    by (Some n) = first (λ (p : PortView). bytes_eq p.name n) m.ports
    by None = slice_get m.ports (c.number - 1)

abbrev pub has_pg : CellView → Name → Bool
has_pg c n = list_any (λ (g : PgPinView). bytes_eq g.name n) c.pgs

abbrev pub has_pin : CellView → Name → Bool
has_pin c n = list_any (λ (q : PinView). bytes_eq q.name n) c.pins || has_pg c n

abbrev pub has_output : CellView → Name → Bool
has_output c n = list_any (λ (q : PinView). bytes_eq q.name n && is_output_pin q) c.pins

-- ---- F14 UnknownPin: no port or pin takes the connection, it is the second of its name, or it has a constant at an output

abbrev pub has_constant : List BitView → Bool
has_constant bits = list_any is_constant bits
  where
    is_constant : BitView → Bool
    is_constant (ConstBit b) = true
    is_constant (NetBit n) = false
    is_constant (SelectBit n i) = false

abbrev pub is_second : ConnectionAt → Bool
is_second c = by c.name
  where
    by : Option Name → Bool
    by (Some n) = list_any (bytes_eq n) c.before
    by None = false

-- a module takes what has a port; an output port takes no constant
abbrev pub is_refused_port : ConnectionAt → Option PortView → Bool
is_refused_port c None = true
is_refused_port c (Some p) = is_second c || (not (is_input p) && has_constant c.bits)

-- a cell takes only what has the name of a pin; an output pin takes no constant
abbrev pub is_refused_pin : CellView → ConnectionAt → Bool
is_refused_pin k c = by c.name
  where
    by : Option Name → Bool
    by (Some n) = not (has_pin k n) || (is_second c || (has_output k n && has_constant c.bits))
    by None = true

abbrev pub is_unknown_pin : Structure → ConnectionAt → Bool
is_unknown_pin s c = by (module_named s c.instance.target) (cell_named s c.instance.target)
  where
    by : Option ModuleView → Option CellView → Bool
    by (Some m) k = is_refused_port c (port_of m c)
    by None (Some k) = is_refused_pin k c
    by None None = false

abbrev pub unknown_pin : Structure → Line ConnectionAt
unknown_pin s = record { places = all_connections s; test = is_unknown_pin s }

-- the field of its line: the name, or the position
abbrev pub pin_field : ConnectionAt → Name
pin_field c = by c.name
  where
    by : Option Name → Name
    by (Some n) = n
    by None = decimal c.number

-- ---- F20 AlreadyPowered: a connection names a power or ground pin of its cell

abbrev pub is_powered : Structure → ConnectionAt → Bool
is_powered s c = by (cell_named s c.instance.target) c.name
  where
    by : Option CellView → Option Name → Bool
    by (Some k) (Some n) = has_pg k n
    by _ _ = false

abbrev pub already_powered : Structure → Line ConnectionAt
already_powered s = record { places = all_connections s; test = is_powered s }

-- ---- F15 Width: two joined values have different numbers of bits

-- a connection, or an assign with its number in its module
pub data Join : Type 0 where
  AtConnection : ConnectionAt → Join
  AtAssign : ModuleView → ℕ × AssignView → Join

-- of a module the connections by instance, then the assigns
abbrev pub joins_in : ModuleView → List Join
joins_in m = map (λ c. AtConnection c) (connections_in m) ++ map (λ a. AtAssign m a) (numbered 0 m.assigns)

-- the bits of the port that a connection means; a pin has one
abbrev pub width_at : Structure → ConnectionAt → Option ℕ
width_at s c = by (module_named s c.instance.target) (cell_named s c.instance.target)
  where
    by : Option ModuleView → Option CellView → Option ℕ
    by (Some m) k = option_map (λ (p : PortView). bit_count p.range) (port_of m c)
    by None (Some k) = option_and_then (λ n. when (has_pin k n) 1) c.name
    by None None = None

-- an open connection has no bits to count
abbrev pub has_other_width : Option ℕ → List BitView → Bool
has_other_width None bits = false
has_other_width (Some w) [] = false
has_other_width (Some w) (b ∷ bits) = not (length (b ∷ bits) == w)

abbrev pub is_uneven : Structure → Join → Bool
is_uneven s (AtConnection c) = has_other_width (width_at s c) c.bits
is_uneven s (AtAssign m a) = not (length a.1.left == length a.1.right)

abbrev pub width : Structure → Line Join
width s = record { places = flat_map joins_in s.modules; test = is_uneven s }

-- the name of a connection, or that of the port at its position
abbrev pub joined_name : Structure → ConnectionAt → Name
joined_name s c = by c.name (option_and_then (λ m. port_of m c) (module_named s c.instance.target))
  where
    by : Option Name → Option PortView → Name
    by (Some n) p = n
    by None (Some p) = p.name
    by None None = decimal c.number

-- the fields of its line: the module, and the instance with the port or the number of the assign
abbrev pub join_fields : Structure → Join → List Name
join_fields s (AtConnection c) = c.parent.name ∷ c.instance.name ∷ joined_name s c ∷ []
join_fields s (AtAssign m a) = m.name ∷ codes "assign" ∷ decimal a.0 ∷ []

-- ---- F16 TwoDrivers: a node has two sources

abbrev pub two_drivers : Structure → Line Node
two_drivers s = record { places = inner_nodes s; test = λ k. nat_lt 1 (length (sources_of s k)) }

-- ---- F23 WireLoop: a node reaches itself through ports and assigns alone

abbrev pub wire_loop : Structure → Line Node
wire_loop s = record { places = inner_nodes s; test = is_on_its_way s }
