-- A netlist that keeps the wires and cells of a design and joins every cell to one power and one ground port (own rule).
use Rattle.std.specs.Prelude.{◌≡◌, ℕ, Bool, true, false, Option, Some, None, IsTrue, if◌then◌else◌, bytes_eq}
use Rattle.std.specs.List.{AllByRecursion, list_all}
use Rattle.lp_model.specs.LibraryView.{PgPinView, PinView, CellView}
use Rattle.lp_spec_design.specs.Keys.{Name, Path, Node, Outer, Fixed, Way, Environment, From}
use Rattle.lp_spec_design.specs.Netlists.{cell_at}
use Rattle.lp_spec_design.specs.Graph.{source_of}
use Rattle.lp_spec_design.specs.Intents.{SupplySet}
use Rattle.lp_spec_design.specs.Settled.{Design, pin_named, node_at_pin}
use Rattle.lp_spec_design.specs.Runs.{output_bits}
use Rattle.lp_spec_pins.specs.Pins.{FromTop, SupplyNodes, Powered, is_power, supply_of_node, supply_of_pin}
use Rattle.lp_spec_pins.specs.Supplied.{is_single}
use Rattle.lp_spec_plain.specs.Designs.{IsPlain}

-- a node that the design lacks is reached from a supply port over such nodes, or from nothing
pub data LeadsFromPort (w : Powered) (own : Node → Bool) : Node → Type 0 where
  FromNothing : (k : Node) → source_of w.structure k ≡ None → LeadsFromPort w own k
  AtPort : (n : Name) (j : Option ℕ) → w.around.is_supply n ≡ true → source_of w.structure (Outer n j) ≡ Some Environment → LeadsFromPort w own (Outer n j)
  Along : (k j : Node) (way : Way) → own j ≡ false → source_of w.structure k ≡ Some (From way j) → LeadsFromPort w own j → LeadsFromPort w own k

-- the supply port that a power or ground pin is joined to, by one source at each node of the way
abbrev pub port_for : Name → Name → PgPinView → Name
port_for power gnd g = if is_power g.kind then power else gnd

abbrev pub IsJoined : Powered → Path → Name → Name → Name → PgPinView → Type 0
IsJoined w p x power gnd g = (supply_of_pin w p x g.name ≡ Some (FromTop (port_for power gnd g))) × IsTrue (is_single w (node_at_pin w.structure p x g.name))

abbrev pub AreJoined : Powered → SupplyNodes → Name → Name → Type 0
AreJoined w s power gnd = (supply_of_node w s.power ≡ Some (FromTop power)) × (supply_of_node w s.gnd ≡ Some (FromTop gnd))

-- the nodes of the design are told apart by a test
pub record Carries (d : Design) (w : Powered) (own : Node → Bool) (power gnd : Name) : Type 0 where
  -- each node of the design has the source that it has there, and each other node comes from a supply port
  pub constants_own : (b : Bool) → own (Fixed b) ≡ true
  pub same_source : (k : Node) → own k ≡ true → source_of w.structure k ≡ source_of d.structure k
  pub from_own : (k j : Node) (way : Way) → own k ≡ true → source_of d.structure k ≡ Some (From way j) → own j ≡ true
  pub no_other : (k : Node) → own k ≡ false → source_of d.structure k ≡ None
  pub others_supply : (k : Node) → own k ≡ false → LeadsFromPort w own k
  -- the cells and what their pins are connected to are those of the design
  pub same_cell : (p : Path) (x : Name) → cell_at w.structure p x ≡ cell_at d.structure p x
  pub same_pin : (p : Path) (x : Name) (c : CellView) (v : Name) (q : PinView) → cell_at d.structure p x ≡ Some c → pin_named c v ≡ Some q → node_at_pin w.structure p x v ≡ node_at_pin d.structure p x v
  pub pins_own : (p : Path) (x : Name) (c : CellView) (v : Name) (q : PinView) (k : Node) → cell_at d.structure p x ≡ Some c → pin_named c v ≡ Some q → node_at_pin d.structure p x v ≡ Some k → own k ≡ true
  -- the ports of the design are no supplies, and its outputs are nodes of it
  pub ports_own : (n : Name) (j : Option ℕ) → own (Outer n j) ≡ true → w.around.is_supply n ≡ false
  pub outputs_own : IsTrue (list_all (λ b. own (Outer b.0 b.1)) (output_bits d.structure))
  -- every power and ground pin, and what drives and reads the top's ports, is joined to the two supply ports
  pub cells_joined : (p : Path) (x : Name) (c : CellView) → cell_at d.structure p x ≡ Some c → AllByRecursion (IsJoined w p x power gnd) c.pgs
  pub drivers_joined : (n : Name) → AreJoined w (w.around.driver n) power gnd
  pub receivers_joined : (n : Name) → AreJoined w (w.around.receiver n) power gnd
  pub apart : bytes_eq power gnd ≡ false

-- a plain design, and a netlist that carries it, whose two supply ports are those of the one supply
pub record CarriesPlain (d : Design) (w : Powered) (origin : Name → ℕ) : Type 0 where
  pub one : SupplySet
  pub plain : IsPlain d one
  pub own : Node → Bool
  pub power : Name
  pub gnd : Name
  pub carries : Carries d w own power gnd
  pub power_is : origin power ≡ one.power
  pub gnd_is : origin gnd ≡ one.gnd
