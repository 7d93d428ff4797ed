-- What ports, pins and assigns join, by the numbers of names (IEEE 1364-2005, port connections, continuous assignments).
use Rattle.std.specs.Prelude.{ℕ, ◌+◌, List, [], ◌∷◌, ◌++◌, map, flat_map, Option, Some, None, option_and_then, slice_get}
use Rattle.lp_model.specs.declared.bits.Bit.{Bit}
use Rattle.lp_model.specs.declared.graph.EdgeFrom.{EdgeFrom}
use Rattle.lp_model.specs.declared.graph.EdgeFrom.TheVariants.{Node as FromNode, Const as FromConst}
use Rattle.lp_model.specs.declared.graph.PinNet.{PinNet}
use Rattle.lp_model.specs.declared.graph.PinNet.TheVariants.{Unconnected, Const as PinConst, Node as PinNode}
use Rattle.lp_model.specs.declared.library.Cell.{Cell}
use Rattle.lp_model.specs.declared.library.Pin.{Pin}
use Rattle.lp_model.specs.declared.library.PgPin.{PgPin}
use Rattle.lp_model.specs.declared.netlist.Assign.{Assign}
use Rattle.lp_model.specs.declared.netlist.Connection.{Connection}
use Rattle.lp_model.specs.declared.netlist.Connections.{Connections}
use Rattle.lp_model.specs.declared.netlist.Connections.TheVariants.{Named, Ordered}
use Rattle.lp_model.specs.declared.netlist.Direction.{Direction}
use Rattle.lp_model.specs.declared.netlist.Direction.TheVariants.{Input, Output}
use Rattle.lp_model.specs.declared.netlist.Port.{Port}
use Rattle.lp_places.specs.Places.{place_of_number}
use Rattle.lp_spec_layout.specs.Parts.{Joint}
use Rattle.lp_templates.specs.Numbered.{Declared, place_of, port_width}
use Rattle.lp_templates.specs.Pieces.{places_from, joints_of}
use Rattle.lp_templates.specs.Values.{places_of}

-- ---- what is connected

abbrev pub bits_or_none : Option (List Bit) → List Bit
bits_or_none None = []
bits_or_none (Some bits) = bits

abbrev pub port_numbers : List Connection → List ℕ
port_numbers cs = map (λ (c : Connection). c.port.0) cs

-- the names that are connected
abbrev pub connected_numbers : Connections → List ℕ
connected_numbers (Named cs) = port_numbers cs
connected_numbers (Ordered values) = []

abbrev pub connection_bits : Option Connection → List Bit
connection_bits None = []
connection_bits (Some c) = c.bits

-- at a name the first that has it
abbrev pub bits_at_name : ℕ → List Connection → List Bit
bits_at_name n cs = connection_bits (option_and_then (slice_get cs) (place_of_number n (port_numbers cs)))

abbrev pub named_bits : Connections → ℕ → List Bit
named_bits (Named cs) n = bits_at_name n cs
named_bits (Ordered values) n = []

-- at a port by its name, or by its position
abbrev pub port_bits : Connections → ℕ → ℕ → List Bit
port_bits (Named cs) j n = bits_at_name n cs
port_bits (Ordered values) j n = bits_or_none (slice_get values j)

-- ---- assigns

abbrev pub assign_joints : Declared → List Assign → List Joint
assign_joints d assigns = flat_map (λ (a : Assign). joints_of (places_of d a.left) (places_of d a.right)) assigns

-- ---- pins of a cell

abbrev pub pin_from : EdgeFrom → PinNet
pin_from (FromNode k) = PinNode k
pin_from (FromConst b) = PinConst b

-- a pin has one bit, or none where it is open
abbrev pub pin_of : Declared → List Bit → PinNet
pin_of d [] = Unconnected
pin_of d (b ∷ rest) = pin_from (place_of d b)

abbrev pub signal_row : Declared → Connections → List Pin → List PinNet
signal_row d cs pins = map (λ (q : Pin). pin_of d (named_bits cs q.name.0)) pins

abbrev pub power_row : Declared → Connections → List PgPin → List PinNet
power_row d cs pgs = map (λ (g : PgPin). pin_of d (named_bits cs g.name.0)) pgs

abbrev pub cell_row : Declared → Connections → Cell → List PinNet
cell_row d cs c = signal_row d cs c.pins ++ power_row d cs c.pgs

-- ---- ports of a module

-- an input is driven from outside
abbrev pub input_joints : Direction → List EdgeFrom → List EdgeFrom → List Joint
input_joints Input inside outside = joints_of inside outside
input_joints Output inside outside = []

abbrev pub output_joints : Direction → List EdgeFrom → List EdgeFrom → List Joint
output_joints Input inside outside = []
output_joints Output inside outside = joints_of outside inside

abbrev pub port_places : ℕ → Port → List EdgeFrom
port_places k p = places_from (FromNode (record { 0 = k })) (port_width p)

-- of the ports from a place and a position on
abbrev pub inputs_from : Declared → Connections → ℕ → ℕ → List Port → List Joint
inputs_from d cs k j [] = []
inputs_from d cs k j (p ∷ ps) = input_joints p.direction (port_places k p) (places_of d (port_bits cs j p.name.0)) ++ inputs_from d cs (k + port_width p) (j + 1) ps

abbrev pub outputs_from : Declared → Connections → ℕ → ℕ → List Port → List Joint
outputs_from d cs k j [] = []
outputs_from d cs k j (p ∷ ps) = output_joints p.direction (port_places k p) (places_of d (port_bits cs j p.name.0)) ++ outputs_from d cs (k + port_width p) (j + 1) ps
