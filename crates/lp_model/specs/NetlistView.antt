-- Netlists by the texts of their names: what definitions and grammars speak of.
use Rattle.std.specs.Prelude.{◌≡◌, ℕ, Bool, true, List, [], ◌∷◌, ◌++◌, map, length, Option}
use Rattle.std.specs.List.{flat_map}
use Rattle.std.proofs.Common.{refl, ap}
use Rattle.lp_text.specs.Texts.{text_at, Grown}
use Rattle.lp_model.specs.Agreement.{numbers_below, Agree, Agree-left, Agree-right, Agree-grown, map-same}
use Rattle.lp_model.specs.declared.bits.Bit.{Bit}
use Rattle.lp_model.specs.declared.bits.Bit.TheVariants.{Net, Select, Const}
use Rattle.lp_model.specs.declared.netlist.Direction.{Direction}
use Rattle.lp_model.specs.declared.netlist.BitRange.{BitRange}
use Rattle.lp_model.specs.declared.netlist.Port.{Port}
use Rattle.lp_model.specs.declared.netlist.NetDecl.{NetDecl}
use Rattle.lp_model.specs.declared.netlist.Connection.{Connection}
use Rattle.lp_model.specs.declared.netlist.Connections.{Connections}
use Rattle.lp_model.specs.declared.netlist.Connections.TheVariants.{Named, Ordered}
use Rattle.lp_model.specs.declared.netlist.Instance.{Instance}
use Rattle.lp_model.specs.declared.netlist.Assign.{Assign}
use Rattle.lp_model.specs.declared.netlist.Module.{Module}
use Rattle.lp_model.specs.declared.netlist.Netlist.{Netlist}

-- a scalar net, a bit of a vector net by its index, or a constant
pub data BitView : Type 0 where
  NetBit : List ℕ → BitView
  SelectBit : List ℕ → ℕ → BitView
  ConstBit : Bool → BitView

abbrev pub bit_view : List (List ℕ) → Bit → BitView
bit_view texts (Net name) = NetBit (text_at texts name.0)
bit_view texts (Select name index) = SelectBit (text_at texts name.0) index
bit_view texts (Const value) = ConstBit value

abbrev pub bit_numbers : Bit → List ℕ
bit_numbers (Net name) = name.0 ∷ []
bit_numbers (Select name index) = name.0 ∷ []
bit_numbers (Const value) = []

abbrev pub bits_view : List (List ℕ) → List Bit → List BitView
bits_view texts bits = map (bit_view texts) bits

abbrev pub bits_numbers : List Bit → List ℕ
bits_numbers bits = flat_map bit_numbers bits

pub record PortView : Type 0 where
  pub name : List ℕ
  pub direction : Direction
  pub range : Option BitRange

abbrev pub port_view : List (List ℕ) → Port → PortView
port_view texts p = record { name = text_at texts p.name.0; direction = p.direction; range = p.range }

abbrev pub port_numbers : Port → List ℕ
port_numbers p = p.name.0 ∷ []

pub record NetView : Type 0 where
  pub name : List ℕ
  pub range : Option BitRange

abbrev pub net_view : List (List ℕ) → NetDecl → NetView
net_view texts n = record { name = text_at texts n.name.0; range = n.range }

abbrev pub net_numbers : NetDecl → List ℕ
net_numbers n = n.name.0 ∷ []

pub record ConnectionView : Type 0 where
  pub port : List ℕ
  pub bits : List BitView

abbrev pub connection_view : List (List ℕ) → Connection → ConnectionView
connection_view texts c = record { port = text_at texts c.port.0; bits = bits_view texts c.bits }

abbrev pub connection_numbers : Connection → List ℕ
connection_numbers c = c.port.0 ∷ bits_numbers c.bits

pub data ConnectionsView : Type 0 where
  ByName : List ConnectionView → ConnectionsView
  ByPosition : List (List BitView) → ConnectionsView

abbrev pub connections_view : List (List ℕ) → Connections → ConnectionsView
connections_view texts (Named cs) = ByName (map (connection_view texts) cs)
connections_view texts (Ordered values) = ByPosition (map (bits_view texts) values)

abbrev pub connections_numbers : Connections → List ℕ
connections_numbers (Named cs) = flat_map connection_numbers cs
connections_numbers (Ordered values) = flat_map bits_numbers values

pub record InstanceView : Type 0 where
  pub name : List ℕ
  pub target : List ℕ
  pub connections : ConnectionsView

abbrev pub instance_view : List (List ℕ) → Instance → InstanceView
instance_view texts i = record { name = text_at texts i.name.0; target = text_at texts i.target.0; connections = connections_view texts i.connections }

abbrev pub instance_numbers : Instance → List ℕ
instance_numbers i = i.name.0 ∷ i.target.0 ∷ connections_numbers i.connections

pub record AssignView : Type 0 where
  pub left : List BitView
  pub right : List BitView

abbrev pub assign_view : List (List ℕ) → Assign → AssignView
assign_view texts a = record { left = bits_view texts a.left; right = bits_view texts a.right }

abbrev pub assign_numbers : Assign → List ℕ
assign_numbers a = bits_numbers a.left ++ bits_numbers a.right

pub record ModuleView : Type 0 where
  pub name : List ℕ
  pub ports : List PortView
  pub nets : List NetView
  pub instances : List InstanceView
  pub assigns : List AssignView

abbrev pub module_view : List (List ℕ) → Module → ModuleView
module_view texts m = record {
  name = text_at texts m.name.0;
  ports = map (port_view texts) m.ports;
  nets = map (net_view texts) m.nets;
  instances = map (instance_view texts) m.instances;
  assigns = map (assign_view texts) m.assigns;
}

abbrev pub module_numbers : Module → List ℕ
module_numbers m = m.name.0 ∷ (flat_map port_numbers m.ports ++ (flat_map net_numbers m.nets ++ (flat_map instance_numbers m.instances ++ flat_map assign_numbers m.assigns)))

-- the modules of a netlist
abbrev pub netlist_view : List (List ℕ) → Netlist → List ModuleView
netlist_view texts n = map (module_view texts) n.modules

-- the numbers of names in a netlist
abbrev pub netlist_numbers : Netlist → List ℕ
netlist_numbers n = flat_map module_numbers n.modules

module _ (old new : List (List ℕ)) where
  bit-same : (b : Bit) → Agree old new (bit_numbers b) → bit_view new b ≡ bit_view old b
  bit-same (Net name) a = ap (λ t. NetBit t) a.0
  bit-same (Select name index) a = ap (λ t. SelectBit t index) a.0
  bit-same (Const value) a = refl

  bits-same : (bits : List Bit) → Agree old new (bits_numbers bits) → bits_view new bits ≡ bits_view old bits
  bits-same bits a = map-same old new bit_numbers bit_view bit-same bits a

  port-same : (p : Port) → Agree old new (port_numbers p) → port_view new p ≡ port_view old p
  port-same p a = rw (a.0) refl

  net-same : (n : NetDecl) → Agree old new (net_numbers n) → net_view new n ≡ net_view old n
  net-same n a = rw (a.0) refl

  connection-same : (c : Connection) → Agree old new (connection_numbers c) → connection_view new c ≡ connection_view old c
  connection-same c a = rw (a.0, bits-same c.bits a.1) refl

  connections-same : (cs : Connections) → Agree old new (connections_numbers cs) → connections_view new cs ≡ connections_view old cs
  connections-same (Named cs) a = ap (λ v. ByName v) (map-same old new connection_numbers connection_view connection-same cs a)
  connections-same (Ordered values) a = ap (λ v. ByPosition v) (map-same old new bits_numbers bits_view bits-same values a)

  instance-same : (i : Instance) → Agree old new (instance_numbers i) → instance_view new i ≡ instance_view old i
  instance-same i a = rw (a.0, a.1.0, connections-same i.connections a.1.1) refl

  assign-same : (s : Assign) → Agree old new (assign_numbers s) → assign_view new s ≡ assign_view old s
  assign-same s a =
      let left = bits-same s.left (Agree-left old new (bits_numbers s.left) (bits_numbers s.right) a) in
      let right = bits-same s.right (Agree-right old new (bits_numbers s.left) (bits_numbers s.right) a) in
      rw (left, right) refl

  module-same : (m : Module) → Agree old new (module_numbers m) → module_view new m ≡ module_view old m
  module-same m a =
      let ports = flat_map port_numbers m.ports in
      let nets = flat_map net_numbers m.nets in
      let instances = flat_map instance_numbers m.instances in
      let assigns = flat_map assign_numbers m.assigns in
      let rest1 = Agree-right old new ports (nets ++ (instances ++ assigns)) a.1 in
      let rest2 = Agree-right old new nets (instances ++ assigns) rest1 in
      let e1 = map-same old new port_numbers port_view port-same m.ports (Agree-left old new ports (nets ++ (instances ++ assigns)) a.1) in
      let e2 = map-same old new net_numbers net_view net-same m.nets (Agree-left old new nets (instances ++ assigns) rest1) in
      let e3 = map-same old new instance_numbers instance_view instance-same m.instances (Agree-left old new instances assigns rest2) in
      let e4 = map-same old new assign_numbers assign_view assign-same m.assigns (Agree-right old new instances assigns rest2) in
      let n : text_at new m.name.0 ≡ text_at old m.name.0 = a.0 in
      cc

-- a netlist says the same when the table of its names has grown
pub netlist_view-grown : (old new : List (List ℕ)) (n : Netlist) → Grown old new → numbers_below (length old) (netlist_numbers n) ≡ true → netlist_view new n ≡ netlist_view old n
netlist_view-grown old new n grown below = map-same old new module_numbers module_view (module-same old new) n.modules (Agree-grown old new grown (netlist_numbers n) below)
