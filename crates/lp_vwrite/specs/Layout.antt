-- The layout of a written netlist: one item a line, two blanks before each item (own rule; names after IEEE 1364-2005,
-- identifiers and escaped identifiers).
use Rattle.std.specs.Prelude.{◌≡◌, ℕ, Bool, true, false, not, ◌&&◌, ◌==◌, List, [], ◌∷◌, ◌++◌, map, codes, decimal, flat_map, filter_map, Option, Some, None, option_map, if◌then◌else◌}
use Rattle.std.specs.List.{list_all}
use Rattle.std.specs.Map.{lookup}
use Rattle.lp_text.specs.Texts.{same_text, has_text}
use Rattle.lp_model.specs.declared.netlist.Direction.{Direction}
use Rattle.lp_model.specs.declared.netlist.Direction.TheVariants.{Input, Output}
use Rattle.lp_model.specs.declared.netlist.BitRange.{BitRange}
use Rattle.lp_model.specs.NetlistView.{BitView, NetBit, SelectBit, ConstBit, PortView, NetView, ConnectionView, ConnectionsView, ByName, ByPosition, InstanceView, AssignView, ModuleView}
use Rattle.lp_verilog_tokens.specs.Lexical.{is_lead, is_inner}
use Rattle.lp_verilog_tokens.specs.Reserved.{reserved_words}
use Rattle.lp_verilog_draft.specs.Values.{between}

-- a part behind another one
abbrev pub after_comma : {A : Type 0} → (A → List ℕ) → A → List ℕ
after_comma f x = codes ", " ++ f x

-- parts separated by a comma and a blank
abbrev pub listed : {A : Type 0} → (A → List ℕ) → List A → List ℕ
listed f [] = []
listed f (x ∷ xs) = f x ++ flat_map (after_comma f) xs

-- parts behind others
abbrev pub more_listed : {A : Type 0} → (A → List ℕ) → List A → List ℕ
more_listed f xs = flat_map (after_comma f) xs

-- an identifier that is no reserved word
abbrev pub is_plain : List ℕ → Bool
is_plain [] = false
is_plain (b ∷ rest) = is_lead b && (list_all is_inner rest && not (has_text (b ∷ rest) reserved_words))

-- any other name is escaped: a backslash before it, a blank behind it
abbrev pub name_text : List ℕ → List ℕ
name_text name = if is_plain name then name else codes "\\" ++ (name ++ codes " ")

abbrev pub range_text : Option BitRange → List ℕ
range_text None = []
range_text (Some r) = codes "[" ++ (decimal r.left ++ (codes ":" ++ (decimal r.right ++ codes "] ")))

abbrev pub direction_text : Direction → List ℕ
direction_text Input = codes "input "
direction_text Output = codes "output "

abbrev pub port_line : PortView → List ℕ
port_line p = codes "  " ++ (direction_text p.direction ++ (range_text p.range ++ (name_text p.name ++ codes ";\n")))

abbrev pub net_line : NetView → List ℕ
net_line n = codes "  wire " ++ (range_text n.range ++ (name_text n.name ++ codes ";\n"))

abbrev pub port_nets : List PortView → List (List ℕ × Option BitRange)
port_nets ports = map (λ p. (p.name, p.range)) ports

abbrev pub wire_nets : List NetView → List (List ℕ × Option BitRange)
wire_nets nets = map (λ n. (n.name, n.range)) nets

-- what a module declares as nets, in the order of the text: ports, then wires
abbrev pub declared : ModuleView → List (List ℕ × Option BitRange)
declared m = port_nets m.ports ++ wire_nets m.nets

-- those that are vectors
abbrev pub vectors_among : List (List ℕ × Option BitRange) → List (List ℕ × BitRange)
vectors_among nets = filter_map (λ n. option_map (λ r. (n.0, r)) n.1) nets

-- the range of a name
abbrev pub range_in : List (List ℕ × BitRange) → List ℕ → Option BitRange
range_in vs name = lookup (same_text name) vs

abbrev pub SameRanges : List (List ℕ × BitRange) → List (List ℕ × BitRange) → Type 0
SameRanges a b = (name : List ℕ) → range_in a name ≡ range_in b name

-- the bit of a net with an index
abbrev pub is_bit_of : List ℕ → ℕ → BitView → Bool
is_bit_of name i (SelectBit n j) = same_text name n && (i == j)
is_bit_of name i (NetBit n) = false
is_bit_of name i (ConstBit value) = false

-- the bits of a net with these indices, in this order
abbrev pub are_bits : List ℕ → List ℕ → List BitView → Bool
are_bits name [] [] = true
are_bits name [] (bit ∷ bits) = false
are_bits name (i ∷ is) [] = false
are_bits name (i ∷ is) (bit ∷ bits) = is_bit_of name i bit && are_bits name is bits

abbrev pub whole_by : List ℕ → List BitView → Option BitRange → Option (List ℕ)
whole_by name bits None = None
whole_by name bits (Some r) = if are_bits name (between r.left r.right) bits then Some name else None

-- the vector of a name, where these are all its bits
abbrev pub whole_of : (List ℕ → Option BitRange) → List ℕ → List BitView → Option (List ℕ)
whole_of ranges name bits = whole_by name bits (ranges name)

-- the vector of which these are all bits, from the left index to the right one
abbrev pub whole_vector : (List ℕ → Option BitRange) → List BitView → Option (List ℕ)
whole_vector ranges (SelectBit name i ∷ bits) = whole_of ranges name (SelectBit name i ∷ bits)
whole_vector ranges _ = None

-- a scalar, a bit of a vector, or a constant
abbrev pub bit_text : BitView → List ℕ
bit_text (NetBit name) = name_text name
bit_text (SelectBit name index) = name_text name ++ (codes "[" ++ (decimal index ++ codes "]"))
bit_text (ConstBit true) = codes "1'b1"
bit_text (ConstBit false) = codes "1'b0"

-- one bit, or a concatenation
abbrev pub bits_text : List BitView → List ℕ
bits_text [] = []
bits_text (bit ∷ []) = bit_text bit
bits_text (first ∷ second ∷ more) = codes "{" ++ (listed bit_text (first ∷ second ∷ more) ++ codes "}")

abbrev pub value_by : List BitView → Option (List ℕ) → List ℕ
value_by bits None = bits_text bits
value_by bits (Some name) = name_text name

-- a whole vector by its name
abbrev pub value_text : (List ℕ → Option BitRange) → List BitView → List ℕ
value_text ranges bits = value_by bits (whole_vector ranges bits)

abbrev pub connection_text : (List ℕ → Option BitRange) → ConnectionView → List ℕ
connection_text ranges c = codes "." ++ (name_text c.port ++ (codes "(" ++ (value_text ranges c.bits ++ codes ")")))

abbrev pub connections_text : (List ℕ → Option BitRange) → ConnectionsView → List ℕ
connections_text ranges (ByName cs) = listed (connection_text ranges) cs
connections_text ranges (ByPosition values) = listed (value_text ranges) values

abbrev pub instance_line : (List ℕ → Option BitRange) → InstanceView → List ℕ
instance_line ranges i = codes "  " ++ (name_text i.target ++ (codes " " ++ (name_text i.name ++ (codes " (" ++ (connections_text ranges i.connections ++ codes ");\n")))))

abbrev pub assign_line : (List ℕ → Option BitRange) → AssignView → List ℕ
assign_line ranges a = codes "  assign " ++ (value_text ranges a.left ++ (codes " = " ++ (value_text ranges a.right ++ codes ";\n")))

abbrev pub header_line : ModuleView → List ℕ
header_line m = codes "module " ++ (name_text m.name ++ (codes " (" ++ (listed (λ p. name_text p.name) m.ports ++ codes ");\n")))

-- the range of a vector that a module declares
abbrev pub range_of : ModuleView → List ℕ → Option BitRange
range_of m name = range_in (vectors_among (declared m)) name

-- the header, a declaration of each port, the wires, the instances, the assigns
abbrev pub module_text : ModuleView → List ℕ
module_text m =
    header_line m ++ (flat_map port_line m.ports ++ (flat_map net_line m.nets ++ (flat_map (instance_line (range_of m)) m.instances ++ (flat_map (assign_line (range_of m)) m.assigns ++ codes "endmodule\n"))))

-- the whole text: the modules one after another
unfoldable pub layout : List ModuleView → List ℕ
layout modules = flat_map module_text modules
