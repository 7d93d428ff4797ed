-- What the numbers of an edited netlist stand for when some entries of the plan are done (own rule).
use Rattle.std.specs.Prelude.{◌≡◌, ◌==◌, ℕ, suc, Bool, true, false, List, [], ◌∷◌, ◌++◌, map, length, Option, Some, None, is_some, option_and_then, if◌then◌else◌, slice_get, slice_index_or}
use Rattle.lp_model.specs.LibraryView.{CellView, PinView, PgPinView}
use Rattle.lp_model.specs.declared.graph.Edge.{Edge as EdgeRow}
use Rattle.lp_model.specs.declared.graph.EdgeFrom.{EdgeFrom}
use Rattle.lp_model.specs.declared.graph.EdgeFrom.TheVariants.{Node as FromNode, Const as FromConst}
use Rattle.lp_model.specs.declared.graph.Leaf.{Leaf}
use Rattle.lp_model.specs.declared.graph.PinNet.{PinNet}
use Rattle.lp_model.specs.declared.graph.PinNet.TheVariants.{Unconnected, Const as PinConst, Node as PinNode}
use Rattle.lp_model.specs.declared.graph.Source.{Source as SourceRow}
use Rattle.lp_model.specs.declared.graph.Source.TheVariants.{Nothing, Env, Leaf as OfLeaf, Edge as OfEdge}
use Rattle.lp_spec_design.specs.Keys.{Name, Path, Node, Fixed, Way, Environment}
use Rattle.lp_spec_design.specs.Netlists.{Structure}
use Rattle.lp_spec_design.specs.Instances.{Placed, cell_instances, module_instances}
use Rattle.lp_spec_design.specs.Nodes.{nodes_of}
use Rattle.lp_spec_design.specs.Graph.{is_output_pin}
use Rattle.lp_spec_bridge.specs.Keyed.{is_net_bit}
use Rattle.lp_spec_bridge.specs.Edges.{Edge, edges_of, kind_of}
use Rattle.lp_spec_bridge.specs.Represents.{outputs_in, joined_at}
use Rattle.lp_spec_realises.specs.Projects.{Project}
use Rattle.lp_spec_realises.specs.Realises.{data_pin}
use Rattle.lp_spec_written.specs.Places.{Standing, Switching}
use Rattle.lp_spec_written.specs.Supplies.{cell_for, switch_of}
use Rattle.lp_spec_hub.specs.Spots.{Spot, OfNode, Behind, Before, Lead, Carried, Drive, AsSource, ByOperator, BySwitch, ByPort, FromSpot, Done, on_way, is_behind, own_spot}
use Rattle.lp_spec_hub.specs.Drives.{is_led, drive, read_by}
use Rattle.lp_spec_hub.specs.Changes.{its_way, its_number}
use Rattle.lp_spec_edits.specs.Net.{Signal, CellPins, Net, source_at, edge_at, pin_at}
use Rattle.lp_spec_edits.specs.Sound.{IsSound}

-- ---- keys

-- a cell instance of the source, operator k of a way, or a switch by its origin
pub data Cell : Type 0 where
  OfSource : Placed → Cell
  OfOperator : Way → ℕ → Cell
  OfSwitch : ℕ → Cell

-- what nodes and cell instances stand for
pub record Spots : Type 0 where
  pub nodes : List Spot
  pub leaves : List Cell

-- before anything is done
abbrev pub spots_of : Structure → Spots
spots_of s = record { nodes = map (λ k. OfNode k) (nodes_of s); leaves = map (λ a. OfSource a) (cell_instances s) }

abbrev pub spot_at : Spots → ℕ → Spot
spot_at ks k = slice_index_or ks.nodes k (OfNode (Fixed false))

abbrev pub key_at : Spots → ℕ → Cell
key_at ks l = slice_index_or ks.leaves l (OfSwitch 0)

abbrev pub from_spot : Spots → EdgeFrom → Spot
from_spot ks (FromNode k) = spot_at ks k.0
from_spot ks (FromConst b) = OfNode (Fixed b)

abbrev pub pin_spot : Spots → PinNet → Option Spot
pin_spot ks Unconnected = None
pin_spot ks (PinConst b) = Some (OfNode (Fixed b))
pin_spot ks (PinNode k) = Some (spot_at ks k.0)

-- ---- what drives a node, by number

abbrev pub view_at : Structure → Net → ℕ → Option CellView
view_at s n l = option_and_then (λ (x : Leaf). slice_get s.cells x.cell.0) (slice_get n.leaves l)

abbrev pub driven_by : Cell → Option CellView → ℕ → Option Drive
driven_by (OfSource a) c q = option_and_then (λ x. Some (AsSource x)) (slice_get (outputs_in a c) q)
driven_by (OfOperator w k) c q = Some (ByOperator w k)
driven_by (OfSwitch o) c q = Some (BySwitch o)

-- the environment drives the outer side of a top input, and a supply port
abbrev pub from_outside : Spot → Drive
from_outside (Carried o x) = ByPort o
from_outside _ = AsSource Environment

abbrev pub row_drive : Structure → Spots → Net → Spot → SourceRow → Option Drive
row_drive s ks n x Nothing = None
row_drive s ks n x Env = Some (from_outside x)
row_drive s ks n x (OfLeaf q l) = driven_by (key_at ks l.0) (view_at s n l.0) q
row_drive s ks n x (OfEdge e) = option_and_then (λ (r : EdgeRow). Some (FromSpot (from_spot ks r.from))) (edge_at n e.0)

-- ---- ways

-- where the edge of a way begins: behind the last operator before it
abbrev pub start_from : Way → ℕ → List Standing → Spot → Spot
start_from w k [] x = x
start_from w k (o ∷ more) x = start_from w (suc k) more (if is_behind o then x else Behind w k)

-- and to which spot it leads: what the first operator behind it reads
abbrev pub end_from : Way → ℕ → List Standing → Spot → Spot
end_from w k [] x = x
end_from w k (o ∷ more) x = if is_behind o then Before w k else end_from w (suc k) more x

abbrev pub way_start : Done → Edge → Spot
way_start a y = start_from y.way 0 (on_way a.plan.operators y.way) (OfNode y.from)

abbrev pub way_end : Done → Edge → Spot
way_end a y = end_from y.way 0 (on_way a.plan.operators y.way) (OfNode y.to)

-- ---- cells

abbrev pub cell_of_key : Project → Done → Cell → Option CellView
cell_of_key p a (OfSource x) = cell_for p a.plan x
cell_of_key p a (OfOperator w k) = option_and_then (λ (o : Standing). Some o.cell) (slice_get (on_way a.plan.operators w) k)
cell_of_key p a (OfSwitch o) = option_and_then (λ (w : Switching). Some w.cell) (switch_of a.plan o)

abbrev pub path_of_key : Done → Cell → Option Path
path_of_key a (OfSource x) = Some x.path
path_of_key a (OfOperator w k) = option_and_then (λ (o : Standing). Some o.path) (slice_get (on_way a.plan.operators w) k)
path_of_key a (OfSwitch o) = option_and_then (λ (w : Switching). Some w.path) (switch_of a.plan o)

-- pin q of a cell bears this name
abbrev pub name_of_pin : Option CellView → ℕ → Option Name
name_of_pin None q = None
name_of_pin (Some c) q = option_and_then (λ (x : PinView). Some x.name) (slice_get c.pins q)

-- which signal pins, and which power and ground pins, a cell drives itself
abbrev pub Driving : Type 0
Driving = List Bool × List Bool

abbrev pub driving : CellPins → Driving
driving c = (map (λ (x : Signal). x.drives) c.signals, c.pgs)

abbrev pub driving_of : CellView → Driving
driving_of c = (map is_output_pin c.pins, map (λ (g : PgPinView). is_some g.switched) c.pgs)

-- the cells of the netlist are those of the library
abbrev pub AreCells : Structure → List CellPins → Type 0
AreCells s cells = map driving cells ≡ map driving_of s.cells

-- ---- the whole

-- a wire is there: a net bit of the source, or what the hub drives beside these
abbrev pub is_there : Project → Done → (Way → Node) → Spot → Bool
is_there p a from (OfNode k) = is_net_bit k
is_there p a from x = is_some (drive p a from x)

-- a cell instance is there: one of the source, or one that is done
abbrev pub is_done : Done → Cell → Bool
is_done a (OfSource x) = true
is_done a (OfOperator w k) = is_some (slice_get (on_way a.plan.operators w) k)
is_done a (OfSwitch o) = is_some (switch_of a.plan o)

-- an edge of the source: where it begins and leads now
pub record IsEdgeHeld (a : Done) (ks : Spots) (y : Edge) (found : Option EdgeRow) : Type 0 where
  pub row : EdgeRow
  pub there : found ≡ Some row
  pub starts : from_spot ks row.from ≡ way_start a y
  pub leads : slice_get ks.nodes row.to.0 ≡ Some (way_end a y)
  pub kind : row.kind ≡ kind_of y

-- the wires of the netlist are those of the hub, each by its number, the source's own first and none twice: what drives it,
-- where each edge of the source begins and leads now, and what the source's cells and the data pins of operators read
pub record Holds (p : Project) (from : Way → Node) (a : Done) (ks : Spots) (n : Net) : Type 0 where
  pub sound : IsSound n
  pub library : AreCells p.structure n.cells
  pub instances : length n.instances ≡ length (module_instances p.structure)
  pub nodes : length n.nodes ≡ length ks.nodes
  pub leaves : length n.leaves ≡ length ks.leaves
  pub kept : n.kept ≡ length (nodes_of p.structure)
  pub added : List Spot
  pub own : ks.nodes ≡ map (λ k. OfNode k) (nodes_of p.structure) ++ added
  pub apart : (j k : ℕ) (x : Spot) → slice_get ks.nodes j ≡ Some x → slice_get ks.nodes k ≡ Some x → j ≡ k
  pub there : (k : ℕ) (x : Spot) → slice_get ks.nodes k ≡ Some x → is_there p a from x ≡ true
  pub done : (l : ℕ) (c : Cell) → slice_get ks.leaves l ≡ Some c → is_done a c ≡ true
  pub drives : (k : ℕ) (x : Spot) → slice_get ks.nodes k ≡ Some x → row_drive p.structure ks n x (source_at n k) ≡ drive p a from x
  pub heads : map (slice_get ks.nodes) n.heads ≡ map (λ (y : Edge). Some (OfNode y.to)) (edges_of p.structure)
  pub edges : (e : ℕ) (y : Edge) → slice_get (edges_of p.structure) e ≡ Some y → IsEdgeHeld a ks y (edge_at n e)
  pub views : (l : ℕ) (c : Cell) → slice_get ks.leaves l ≡ Some c → view_at p.structure n l ≡ cell_of_key p a c
  pub places :
      (l : ℕ) (c : Cell) (x : Leaf) → slice_get ks.leaves l ≡ Some c → slice_get n.leaves l ≡ Some x
      → slice_get (module_instances p.structure) x.inst.0 ≡ path_of_key a c
  pub reads :
      (l q : ℕ) (x : Placed) (name : Name) → slice_get ks.leaves l ≡ Some (OfSource x) → name_of_pin (view_at p.structure n l) q ≡ Some name
      → (y : Node) → joined_at p.structure x name ≡ Some y → pin_spot ks (pin_at n l q) ≡ Some (OfNode y)
  pub takes :
      (l q k : ℕ) (w : Way) (o : Standing) (y : PinView) → slice_get ks.leaves l ≡ Some (OfOperator w k) → slice_get (on_way a.plan.operators w) k ≡ Some o
      → data_pin o.asked.operator o.cell ≡ Some y → slice_get o.cell.pins q ≡ Some y → pin_spot ks (pin_at n l q) ≡ Some (read_by w (from w) k o)

-- ---- one more operator

-- a constant's own net comes first, then the operator's own wire
abbrev pub more_spots : Spots → Done → Node → Standing → List Spot
more_spots ks a from o =
    if is_led from (Some o) then (if its_number a o == 0 then Lead (its_way o) ∷ own_spot (its_way o) (its_number a o) o ∷ [] else own_spot (its_way o) (its_number a o) o ∷ [])
    else own_spot (its_way o) (its_number a o) o ∷ []

abbrev pub more_keys : Spots → Done → (Way → Node) → Standing → Spots
more_keys ks a from o = record { nodes = ks.nodes ++ more_spots ks a (from (its_way o)) o; leaves = ks.leaves ++ (OfOperator (its_way o) (its_number a o) ∷ []) }
