-- Lines about connections, assigns and what drives a net bit, computed on small netlists.
use Rattle.std.proofs.Common.{◌≡◌, true, false, [], ◌∷◌, ◌++◌, Option, Some, None, refl}
use Rattle.std.specs.Prelude.{ℕ, List, codes, decimal, map, option_map}
use Rattle.lp_model.specs.declared.netlist.Direction.TheVariants.{Input, Output}
use Rattle.lp_model.specs.NetlistView.{BitView, NetBit, SelectBit, ConstBit, ConnectionView, ConnectionsView, ByName, ByPosition, InstanceView, AssignView, NetView}
use Rattle.lp_spec_design.specs.Keys.{Name, Inner}
use Rattle.lp_spec_design.specs.Netlists.{Structure}
use Rattle.lp_spec_design.specs.Nodes.{computing}
use Rattle.lp_spec_design.proofs.Samples.{port, to, top, core, plain, wide, fed_through}
use Rattle.lp_spec_fit.proofs.Samples.{buffer}
use Rattle.lp_spec_realises.proofs.Samples.{inverter}
use Rattle.lp_spec_faults.specs.Lines.{Line, first_of}
use Rattle.lp_spec_faults.specs.Wires.{ConnectionAt, pin_field, unknown_pin, already_powered, width, join_fields, two_drivers, wire_loop}

-- ---- small netlists

abbrev net : Name → NetView
net n = record { name = n; range = None }

abbrev joined : Name → Name → Name → InstanceView
joined n from into = record { name = n; target = codes "INV"; connections = ByName (to (codes "A") (NetBit from) ∷ to (codes "Y") (NetBit into) ∷ []) }

abbrev assigned : Name → Name → AssignView
assigned left right = record { left = NetBit left ∷ []; right = NetBit right ∷ [] }

-- the small top with these instances and assigns, and nets n and m
abbrev with_items : List InstanceView → List AssignView → Structure
with_items instances assigns = record { modules = record top { nets = net (codes "n") ∷ net (codes "m") ∷ []; instances = instances; assigns = assigns } ∷ core ∷ []; cells = inverter ∷ buffer ∷ [] }

-- with one instance so connected, behind a good one
abbrev connecting : Name → ConnectionsView → Structure
connecting target cs = with_items (joined (codes "h") (codes "a") (codes "m") ∷ record { name = codes "u"; target = target; connections = cs } ∷ []) []

abbrev to_block : ConnectionsView → Structure
to_block cs = connecting (codes "core") cs

abbrev to_cell : ConnectionsView → Structure
to_cell cs = connecting (codes "BUF") cs

abbrev left_open : Name → ConnectionView
left_open p = record { port = p; bits = [] }

abbrev net_to : Name → Name → ConnectionView
net_to p n = to p (NetBit n)

-- the module, the instance, and the field of the line
abbrev at : Option ConnectionAt → Option (Name × Name × Name)
at x = option_map (λ (c : ConnectionAt). (c.parent.name, c.instance.name, pin_field c)) x

abbrev fault_at : (Structure → Line ConnectionAt) → Structure → Option (Name × Name × Name)
fault_at line s = at (first_of (line s))

abbrev at_u : Name → Option (Name × Name × Name)
at_u field = Some (codes "top", codes "u", field)

-- ---- connections that no port or pin takes

no_such_port : map (λ cs. fault_at unknown_pin (to_block (ByName cs))) ((net_to (codes "i") (codes "a") ∷ net_to (codes "q") (codes "n") ∷ []) ∷ (net_to (codes "i") (codes "a") ∷ net_to (codes "o") (codes "n") ∷ []) ∷ [] ∷ []) ≡ at_u (codes "q") ∷ None ∷ None ∷ []
unfolding computing
no_such_port = refl

no_such_pin : map (λ cs. fault_at unknown_pin (to_cell (ByName cs))) ((net_to (codes "Z") (codes "n") ∷ []) ∷ (net_to (codes "A") (codes "n") ∷ []) ∷ []) ≡ at_u (codes "Z") ∷ None ∷ []
unfolding computing
no_such_pin = refl

-- the second of one name is the fault
abbrev number_of : Option ConnectionAt → Option ℕ
number_of x = option_map (λ (c : ConnectionAt). c.number) x

name_twice : map (λ s. number_of (first_of (unknown_pin s))) (to_cell (ByName (net_to (codes "A") (codes "n") ∷ net_to (codes "A") (codes "m") ∷ [])) ∷ to_block (ByName (net_to (codes "o") (codes "n") ∷ net_to (codes "i") (codes "a") ∷ left_open (codes "i") ∷ [])) ∷ []) ≡ Some 2 ∷ Some 3 ∷ []
unfolding computing
name_twice = refl

constant_at_an_output : map (fault_at unknown_pin) (to_block (ByName (to (codes "o") (ConstBit false) ∷ [])) ∷ to_cell (ByName (to (codes "Y") (ConstBit true) ∷ [])) ∷ []) ≡ at_u (codes "o") ∷ at_u (codes "Y") ∷ []
unfolding computing
constant_at_an_output = refl

constant_at_an_input : map (fault_at unknown_pin) (to_block (ByName (to (codes "i") (ConstBit false) ∷ [])) ∷ to_cell (ByName (to (codes "A") (ConstBit true) ∷ [])) ∷ []) ≡ None ∷ None ∷ []
unfolding computing
constant_at_an_input = refl

abbrev scalar : Name → List BitView
scalar n = NetBit n ∷ []

ordered_on_a_cell : map (λ vs. fault_at unknown_pin (to_cell (ByPosition vs))) ((scalar (codes "a") ∷ scalar (codes "n") ∷ []) ∷ []) ≡ at_u (decimal 1) ∷ []
unfolding computing
ordered_on_a_cell = refl

ordered_on_a_module : map (λ vs. fault_at unknown_pin (to_block (ByPosition vs))) ((scalar (codes "a") ∷ scalar (codes "n") ∷ scalar (codes "m") ∷ scalar (codes "en") ∷ []) ∷ (scalar (codes "a") ∷ (ConstBit true ∷ []) ∷ []) ∷ (scalar (codes "a") ∷ scalar (codes "n") ∷ []) ∷ ((ConstBit true ∷ []) ∷ []) ∷ []) ≡ at_u (decimal 3) ∷ at_u (decimal 2) ∷ None ∷ None ∷ []
unfolding computing
ordered_on_a_module = refl

-- ---- power and ground pins

abbrev powered : ConnectionView → Structure
powered c = to_cell (ByName (net_to (codes "A") (codes "n") ∷ c ∷ []))

power_pin : map (fault_at already_powered) (powered (left_open (codes "VDD")) ∷ powered (net_to (codes "VSS") (codes "m")) ∷ powered (net_to (codes "Y") (codes "m")) ∷ []) ≡ at_u (codes "VDD") ∷ at_u (codes "VSS") ∷ None ∷ []
unfolding computing
power_pin = refl

power_pin_is_known : fault_at unknown_pin (powered (left_open (codes "VDD"))) ≡ None
unfolding computing
power_pin_is_known = refl

-- a port of a block that is called so
port_called_power : fault_at already_powered (record plain { modules = record top { instances = record { name = codes "u"; target = codes "core"; connections = ByName (net_to (codes "VDD") (codes "a") ∷ []) } ∷ [] } ∷ record core { ports = port (codes "VDD") Input None ∷ core.ports } ∷ [] }) ≡ None
unfolding computing
port_called_power = refl

-- ---- widths

abbrev uneven : Structure → Option (List Name)
uneven s = option_map (join_fields s) (first_of (width s))

abbrev joint_u : Name → Option (List Name)
joint_u n = Some (codes "top" ∷ codes "u" ∷ n ∷ [])

abbrev two_bits : List BitView
two_bits = NetBit (codes "n") ∷ NetBit (codes "m") ∷ []

two_bits_at_a_scalar : map uneven (to_block (ByName (record { port = codes "i"; bits = two_bits } ∷ [])) ∷ to_block (ByPosition (scalar (codes "a") ∷ two_bits ∷ [])) ∷ to_cell (ByName (record { port = codes "A"; bits = two_bits } ∷ [])) ∷ to_cell (ByName (record { port = codes "VDD"; bits = two_bits } ∷ [])) ∷ []) ≡ joint_u (codes "i") ∷ joint_u (codes "o") ∷ joint_u (codes "A") ∷ joint_u (codes "VDD") ∷ []
unfolding computing
two_bits_at_a_scalar = refl

open_or_even : map uneven (to_block (ByName (left_open (codes "i") ∷ net_to (codes "o") (codes "n") ∷ [])) ∷ to_cell (ByName (left_open (codes "Y") ∷ [])) ∷ plain ∷ wide ∷ []) ≡ None ∷ None ∷ None ∷ None ∷ []
unfolding computing
open_or_even = refl

-- a block with a port of two bits, of which one is connected
one_bit_at_a_vector : uneven (record wide { modules = record top { instances = record { name = codes "u"; target = codes "core"; connections = ByName (net_to (codes "o") (codes "n") ∷ []) } ∷ [] } ∷ record core { ports = port (codes "o") Output (Some (record { left = 0; right = 1 })) ∷ [] } ∷ [] }) ≡ joint_u (codes "o")
unfolding computing
one_bit_at_a_vector = refl

assign_of_two_widths : map (λ a. uneven (with_items [] (assigned (codes "n") (codes "a") ∷ a ∷ []))) (record { left = two_bits; right = scalar (codes "a") } ∷ record { left = two_bits; right = two_bits } ∷ []) ≡ Some (codes "top" ∷ codes "assign" ∷ decimal 1 ∷ []) ∷ None ∷ []
unfolding computing
assign_of_two_widths = refl

-- ---- sources

abbrev two_assigned : BitView → List AssignView
two_assigned b = record { left = b ∷ []; right = scalar (codes "a") } ∷ record { left = b ∷ []; right = scalar (codes "en") } ∷ []

two_outputs_on_a_net : map (λ n. first_of (two_drivers (with_items (joined (codes "g") (codes "a") (codes "n") ∷ joined (codes "h") (codes "en") n ∷ []) []))) (codes "n" ∷ codes "m" ∷ []) ≡ Some (Inner (codes "n") None []) ∷ None ∷ []
unfolding computing
two_outputs_on_a_net = refl

-- an input port is driven from outside; ports come before nets
output_on_an_input_port : first_of (two_drivers (with_items (joined (codes "g") (codes "a") (codes "n") ∷ joined (codes "h") (codes "en") (codes "n") ∷ joined (codes "k") (codes "n") (codes "en") ∷ []) [])) ≡ Some (Inner (codes "en") None [])
unfolding computing
output_on_an_input_port = refl

-- a vector of which each bit is assigned twice: the left one comes first
left_bit_of_a_vector : first_of (two_drivers (record plain { modules = record top { nets = record { name = codes "v"; range = Some (record { left = 2; right = 1 }) } ∷ []; instances = []; assigns = two_assigned (SelectBit (codes "v") 1) ++ two_assigned (SelectBit (codes "v") 2) } ∷ [] })) ≡ Some (Inner (codes "v") (Some 2) [])
unfolding computing
left_bit_of_a_vector = refl

-- an assign and an output in the block, behind all nodes of the top
assign_and_output : first_of (two_drivers (record plain { modules = top ∷ record core { assigns = assigned (codes "o") (codes "i") ∷ [] } ∷ [] })) ≡ Some (Inner (codes "o") None (codes "u" ∷ []))
unfolding computing
assign_and_output = refl

-- ---- loops of wires

each_other : first_of (wire_loop (with_items [] (assigned (codes "n") (codes "m") ∷ assigned (codes "m") (codes "n") ∷ []))) ≡ Some (Inner (codes "n") None [])
unfolding computing
each_other = refl

to_itself : first_of (wire_loop (with_items [] (assigned (codes "m") (codes "m") ∷ []))) ≡ Some (Inner (codes "m") None [])
unfolding computing
to_itself = refl

-- the block passes its input on to the output t, which is joined to its input
through_a_block : first_of (wire_loop (record fed_through { modules = record top { instances = record { name = codes "u"; target = codes "core"; connections = ByName (net_to (codes "i") (codes "n") ∷ net_to (codes "t") (codes "n") ∷ []) } ∷ [] } ∷ record core { ports = port (codes "t") Output None ∷ core.ports; assigns = assigned (codes "t") (codes "i") ∷ [] } ∷ [] })) ≡ Some (Inner (codes "n") None [])
unfolding computing
through_a_block = refl

-- a net that a loop feeds is on no loop itself
fed_by_a_loop : first_of (wire_loop (with_items [] (assigned (codes "y") (codes "n") ∷ assigned (codes "n") (codes "m") ∷ assigned (codes "m") (codes "n") ∷ []))) ≡ Some (Inner (codes "n") None [])
unfolding computing
fed_by_a_loop = refl

no_loop_of_wires : map (λ s. first_of (wire_loop s)) (fed_through ∷ with_items (joined (codes "g") (codes "n") (codes "n") ∷ []) [] ∷ with_items [] (assigned (codes "n") (codes "a") ∷ assigned (codes "m") (codes "n") ∷ []) ∷ []) ≡ None ∷ None ∷ None ∷ []
unfolding computing
no_loop_of_wires = refl
