-- What is resolved once for each module: what its statements and its assigns join, by places among the module's bits (IEEE 1364-2005, port connections and continuous assignments; the form is an own rule).
use Rattle.std.specs.Prelude.{◌≡◌, ℕ, nat_lt, Bool, true, not, ◌&&◌, List, [], ◌∷◌, ◌++◌, map, filter, flat_map, length, Option, Some, None, is_some, slice_get, slice_index_or}
use Rattle.std.specs.List.{list_all}
use Rattle.lp_model.specs.declared.graph.EdgeFrom.{EdgeFrom}
use Rattle.lp_model.specs.declared.graph.PinNet.{PinNet}
use Rattle.lp_model.specs.declared.graph.PinNet.TheVariants.{Const as PinConst}
use Rattle.lp_model.specs.NetlistView.{BitView, ConstBit, PortView, InstanceView, AssignView, ModuleView}
use Rattle.lp_model.specs.LibraryView.{PgPinView, CellView}
use Rattle.lp_spec_design.specs.Netlists.{Structure, module_named, cell_named, indices, connected, is_input}
use Rattle.lp_spec_design.specs.Graph.{pairs, is_output_pin}
use Rattle.lp_spec_bridge.specs.Templates.{bit_named, bits_in, place_bit, has_place}
use Rattle.lp_spec_bridge.specs.Kept.{IsRowResolved}

-- ---- the form

-- a place that is driven, and what it comes from
abbrev pub Joint : Type 0
Joint = ℕ × EdgeFrom

-- how many module instances, net bits and cell instances
pub record Size : Type 0 where
  pub instances : ℕ
  pub bits : ℕ
  pub leaves : ℕ

-- an instance of a module: its number, what lies between the beginning of the instance in which it stands and its own, and what its ports join:
-- input bits from places outside, and places outside from output bits
pub record Child : Type 0 where
  pub of : ℕ
  pub before : Size
  pub inputs : List Joint
  pub outputs : List Joint

-- an instance of a cell: its number, how many cell instances lie before it, and the places at its pins
pub record Cell : Type 0 where
  pub of : ℕ
  pub before : ℕ
  pub row : List PinNet

pub data Statement : Type 0 where
  OfModule : Child → Statement
  OfCell : Cell → Statement

-- the instances of a module by statement, and its assigns bit by bit
pub record Template : Type 0 where
  pub statements : List Statement
  pub assigns : List Joint

abbrev pub statements_of : Option Template → List Statement
statements_of None = []
statements_of (Some x) = x.statements

abbrev pub assigns_of : Option Template → List Joint
assigns_of None = []
assigns_of (Some x) = x.assigns

-- ---- what a module says

abbrev pub BitPair : Type 0
BitPair = BitView × BitView

-- the bits of an instance's port of the module inside, each with the bit that is connected to it
abbrev pub port_pairs : InstanceView → ModuleView → PortView → List BitPair
port_pairs y inner port = map (λ pair. (bit_named port.name pair.0, pair.1)) (pairs (indices port.range) (connected inner.ports port.name y.connections))

-- a bit that is driven and what drives it
abbrev pub input_pairs : InstanceView → ModuleView → List BitPair
input_pairs y inner = flat_map (port_pairs y inner) (filter is_input inner.ports)

abbrev pub output_pairs : InstanceView → ModuleView → List BitPair
output_pairs y inner = flat_map (λ port. map (λ (b : BitPair). (b.1, b.0)) (port_pairs y inner port)) (filter (λ port. not (is_input port)) inner.ports)

abbrev pub assign_pairs : ModuleView → List BitPair
assign_pairs m = flat_map (λ (a : AssignView). pairs a.left a.right) m.assigns

-- ---- that it is resolved

abbrev pub joint_bits : ModuleView → ModuleView → Joint → BitPair
joint_bits to from j = (slice_index_or (bits_in to) j.0 (ConstBit true), place_bit from j.1)

abbrev pub has_joint : ModuleView → ModuleView → Joint → Bool
has_joint to from j = nat_lt j.0 (length (bits_in to)) && has_place from j.1

-- the places of bits that drive each other
pub record IsJoined (to : ModuleView) (from : ModuleView) (bits : List BitPair) (joints : List Joint) : Type 0 where
  pub same : map (joint_bits to from) joints ≡ bits
  pub within : list_all (has_joint to from) joints ≡ true

-- which pins of a cell drive what is connected to them: signal pins, then power and ground pins
abbrev pub driving_pins : Option CellView → List Bool
driving_pins None = []
driving_pins (Some c) = map is_output_pin c.pins ++ map (λ (g : PgPinView). is_some g.switched) c.pgs

-- a pin that drives has no constant
abbrev pub may_drive : Bool × PinNet → Bool
may_drive z = by z.1
  where
    by : PinNet → Bool
    by (PinConst b) = not z.0
    by _ = true

pub record IsChild (s : Structure) (m : ModuleView) (y : InstanceView) (c : Child) : Type 0 where
  pub inner : ModuleView
  pub is_inner : module_named s y.target ≡ Some inner
  pub has_inner : slice_get s.modules c.of ≡ Some inner
  pub inputs : IsJoined inner m (input_pairs y inner) c.inputs
  pub outputs : IsJoined m inner (output_pairs y inner) c.outputs

pub record IsCell (s : Structure) (m : ModuleView) (y : InstanceView) (c : Cell) : Type 0 where
  pub cell : CellView
  pub is_cell : cell_named s y.target ≡ Some cell
  pub has_cell : slice_get s.cells c.of ≡ Some cell
  pub resolved : IsRowResolved m y cell c.row
  pub drives : list_all may_drive (pairs (driving_pins (Some cell)) c.row) ≡ true

abbrev pub IsStatement : Structure → ModuleView → InstanceView → Statement → Type 0
IsStatement s m y (OfModule c) = IsChild s m y c
IsStatement s m y (OfCell c) = IsCell s m y c

-- instances and their statements, one by one
abbrev pub AreStatements : Structure → ModuleView → List InstanceView → List Statement → Type 0
AreStatements s m [] [] = Unit {0}
AreStatements s m [] (z ∷ zs) = ⊥
AreStatements s m (y ∷ ys) [] = ⊥
AreStatements s m (y ∷ ys) (z ∷ zs) = IsStatement s m y z × AreStatements s m ys zs

pub record IsTemplate (s : Structure) (m : ModuleView) (x : Template) : Type 0 where
  pub statements : AreStatements s m m.instances x.statements
  pub assigns : IsJoined m m (assign_pairs m) x.assigns

-- those of all modules, one by one
abbrev pub AreTemplates : Structure → List ModuleView → List Template → Type 0
AreTemplates s [] [] = Unit {0}
AreTemplates s [] (x ∷ xs) = ⊥
AreTemplates s (m ∷ ms) [] = ⊥
AreTemplates s (m ∷ ms) (x ∷ xs) = IsTemplate s m x × AreTemplates s ms xs
