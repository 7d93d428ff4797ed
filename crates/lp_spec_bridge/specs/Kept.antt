-- What an elaboration keeps: the drives noted for nodes, and for each cell instance a row of pins that was resolved once for its module (own rule).
use Rattle.std.specs.Prelude.{◌≡◌, ℕ, ◌+◌, nat_lt, Bool, true, List, [], ◌∷◌, ◌++◌, map, length, Option, Some, None, slice_get, slice_index_or}
use Rattle.std.specs.List.{list_all}
use Rattle.lp_model.specs.declared.graph.Leaf.{Leaf}
use Rattle.lp_model.specs.declared.graph.Node.{Node as NodeRow}
use Rattle.lp_model.specs.declared.graph.PinNet.{PinNet}
use Rattle.lp_model.specs.declared.graph.PinNet.TheVariants.{Unconnected, Const as PinConst, Node as PinNode}
use Rattle.lp_model.specs.NetlistView.{BitView, ConstBit, InstanceView, ModuleView}
use Rattle.lp_model.specs.LibraryView.{PgPinView, CellView, PinView}
use Rattle.lp_spec_design.specs.Netlists.{Structure, module_at, cell_named, instance_named, connected, upward}
use Rattle.lp_spec_design.specs.Instances.{Placed, module_instances, cell_instances}
use Rattle.lp_spec_design.specs.Nodes.{nodes_of}
use Rattle.lp_spec_bridge.specs.Tables.{Tables, IsClosed}
use Rattle.lp_spec_bridge.specs.Edges.{drives_of}
use Rattle.lp_spec_bridge.specs.Keyed.{keys_of}
use Rattle.lp_spec_bridge.specs.Represents.{row_of}
use Rattle.lp_spec_bridge.specs.Noted.{DriveRow, noted_at, row_key, drive_key}
use Rattle.lp_spec_bridge.specs.Templates.{bits_in, start_of}

-- ---- drives

-- the rows are the drives of the design in their order, within its nodes
pub record AreDrives (s : Structure) (t : Tables) (rows : List DriveRow) : Type 0 where
  pub same : map (row_key s (keys_of s) t) rows ≡ map drive_key (drives_of s)
  pub within : list_all (λ (x : DriveRow). nat_lt x.0 (length (nodes_of s))) rows ≡ true

-- each node has the first row that was noted for it
abbrev pub NotesSources : Structure → Tables → List DriveRow → Type 0
NotesSources s t rows = map (λ (x : NodeRow). x.source) t.nodes ≡ map (noted_at rows) (upward (length (nodes_of s)) 0)

-- ---- pins

-- the bit at a pin, by its place in the module
abbrev pub pin_bit : ModuleView → PinNet → Option BitView
pin_bit m Unconnected = None
pin_bit m (PinConst b) = Some (ConstBit b)
pin_bit m (PinNode k) = Some (slice_index_or (bits_in m) k.0 (ConstBit true))

abbrev pub has_pin_place : ModuleView → PinNet → Bool
has_pin_place m (PinNode k) = nat_lt k.0 (length (bits_in m))
has_pin_place m _ = true

-- the bit that is connected, none where the pin is open
abbrev pub first_bit : List BitView → Option BitView
first_bit [] = None
first_bit (b ∷ rest) = Some b

-- the bits at an instance's signal pins, then at its power and ground pins
abbrev pub bits_at_pins : InstanceView → CellView → List (Option BitView)
bits_at_pins x c = map (λ (q : PinView). first_bit (connected [] q.name x.connections)) c.pins ++ map (λ (g : PgPinView). first_bit (connected [] g.name x.connections)) c.pgs

-- a row of places for the pins of an instance of a cell
pub record IsRowResolved (m : ModuleView) (x : InstanceView) (c : CellView) (row : List PinNet) : Type 0 where
  pub same : map (pin_bit m) row ≡ bits_at_pins x c
  pub within : list_all (has_pin_place m) row ≡ true

-- a place in an instance whose bits begin at a node
abbrev pub pin_at_start : ℕ → PinNet → PinNet
pin_at_start start Unconnected = Unconnected
pin_at_start start (PinConst b) = PinConst b
pin_at_start start (PinNode k) = PinNode (record { 0 = start + k.0 })

-- ---- cell instances

-- the cell of a row in the table is its target, and the row has its module's places from the first node of its module instance on
pub record StandsFor (s : Structure) (t : Tables) (l : Leaf) (a : Placed) : Type 0 where
  pub of : ModuleView
  pub by : InstanceView
  pub cell : CellView
  pub row : List PinNet
  pub inst : slice_get (module_instances s) l.inst.0 ≡ Some a.path
  pub is_of : module_at s a.path ≡ Some of
  pub is_by : instance_named of a.instance ≡ Some by
  pub is_cell : cell_named s by.target ≡ Some cell
  pub has_cell : slice_get s.cells l.cell.0 ≡ Some cell
  pub resolved : IsRowResolved of by cell row
  pub served : row_of s t l ≡ map (pin_at_start (start_of s l.inst.0)) row

-- rows in the table and cell instances of the design, one by one
abbrev pub AllStand : Structure → Tables → List Leaf → List Placed → Type 0
AllStand s t [] [] = Unit {0}
AllStand s t [] (a ∷ keyed) = ⊥
AllStand s t (l ∷ ls) [] = ⊥
AllStand s t (l ∷ ls) (a ∷ keyed) = StandsFor s t l a × AllStand s t ls keyed

-- ---- all that is kept

pub record IsKept (s : Structure) (t : Tables) : Type 0 where
  pub rows : List DriveRow
  pub drives : AreDrives s t rows
  pub sources : NotesSources s t rows
  pub leaves : AllStand s t t.leaves (cell_instances s)
  pub count : length t.nodes ≡ length (nodes_of s)
  pub ways : length t.edges ≡ length (keys_of s).ways
  pub closed : IsClosed t
