-- What drives each node, made in one pass over the module instances, from what is resolved once for each module; edges are numbered as they come (own rule).
use Rattle.std.specs.Prelude.{ℕ, ◌+◌, Bool, List, [], ◌∷◌, ◌++◌, map, flat_map, Option, Some, None, if◌then◌else◌, slice_get}
use Rattle.lp_model.specs.declared.graph.Edge.{Edge as EdgeRow}
use Rattle.lp_model.specs.declared.graph.EdgeFrom.{EdgeFrom}
use Rattle.lp_model.specs.declared.graph.EdgeFrom.TheVariants.{Node as FromNode}
use Rattle.lp_model.specs.declared.graph.EdgeKind.{EdgeKind}
use Rattle.lp_model.specs.declared.graph.EdgeKind.TheVariants.{In, Out, Assign}
use Rattle.lp_model.specs.declared.graph.PinNet.{PinNet}
use Rattle.lp_model.specs.declared.graph.PinNet.TheVariants.{Node as PinNode}
use Rattle.lp_model.specs.declared.graph.Source.{Source as SourceRow}
use Rattle.lp_model.specs.declared.graph.Source.TheVariants.{Env, Leaf as OfLeaf, Edge as OfEdge}
use Rattle.lp_model.specs.LibraryView.{CellView}
use Rattle.lp_spec_design.specs.Graph.{pairs, some_of, numbered}
use Rattle.lp_spec_bridge.specs.Noted.{DriveRow}
use Rattle.lp_spec_bridge.specs.Templates.{at_start}
use Rattle.lp_spec_layout.specs.Parts.{Joint, Statement, OfModule, OfCell, Template, statements_of, assigns_of, driving_pins}
use Rattle.lp_spec_layout.specs.Sites.{Spot, Site, Layout}

-- what drives a node: a way from somewhere, a pin of a cell instance by their numbers, or the environment
pub data Driver : Type 0 where
  ByEdge : EdgeFrom → EdgeKind → Driver
  ByPin : ℕ → ℕ → Driver
  ByOutside : Driver

abbrev pub Feed : Type 0
Feed = ℕ × Driver

-- ---- those of a module instance

-- at the first node of the instance that is driven and of the one from which it comes
abbrev pub joint_feed : ℕ → ℕ → EdgeKind → Joint → Feed
joint_feed to from kind j = (to + j.0, ByEdge (at_start from j.1) kind)

abbrev pub driven : ℕ → ℕ → ℕ → PinNet → Option Feed
driven start leaf pin (PinNode k) = Some (start + k.0, ByPin pin leaf)
driven start leaf pin _ = None

abbrev pub pin_feed : ℕ → ℕ → (ℕ × Bool) × PinNet → Option Feed
pin_feed start leaf z = if z.0.1 then driven start leaf z.0.0 z.1 else None

abbrev pub row_feeds : List Bool → ℕ → ℕ → List PinNet → List Feed
row_feeds drives start leaf row = some_of (pin_feed start leaf) (pairs (numbered 0 drives) row)

abbrev pub statement_feeds : List CellView → Site → Statement → List Feed
statement_feeds cells x (OfModule c) = map (joint_feed x.start (x.start + c.before.bits) Out) c.outputs
statement_feeds cells x (OfCell c) = row_feeds (driving_pins (slice_get cells c.of)) x.start (x.leaf + c.before) c.row

abbrev pub child_inputs : Option Statement → List Joint
child_inputs (Some (OfModule c)) = c.inputs
child_inputs _ = []

-- its input ports, by the statement in the instance in which it stands
abbrev pub inside_feeds : List Template → Site → ℕ → Option Site → List Feed
inside_feeds templates x place None = []
inside_feeds templates x place (Some outer) = map (joint_feed x.start outer.start In) (child_inputs (slice_get (statements_of (slice_get templates outer.of)) place))

-- the top's, from the nodes of the environment's side, which lie behind all net bits of instances
abbrev pub top_feed : ℕ → ℕ × Bool → Option Feed
top_feed inner z = if z.1 then Some (z.0, ByEdge (FromNode (record { 0 = inner + z.0 })) In) else None

abbrev pub input_feeds : Layout → Site → Option Spot → List Feed
input_feeds l x None = some_of (top_feed l.inner) (numbered 0 l.ports)
input_feeds l x (Some at) = inside_feeds l.templates x at.1 (slice_get l.sites at.0)

-- its input ports, then its statements, then its assigns
abbrev pub feeds_at : List CellView → Layout → Site → List Feed
feeds_at cells l x =
    input_feeds l x x.by
    ++ (flat_map (statement_feeds cells x) (statements_of (slice_get l.templates x.of)) ++ map (joint_feed x.start x.start Assign) (assigns_of (slice_get l.templates x.of)))

-- ---- all of a design

-- the environment's side of the top's port bits
abbrev pub outer_feed : ℕ → ℕ × Bool → Feed
outer_feed inner z = (inner + z.0, (if z.1 then ByOutside else ByEdge (FromNode (record { 0 = z.0 })) Out))

abbrev pub feeds : List CellView → Layout → List Feed
feeds cells l = flat_map (feeds_at cells l) l.sites ++ map (outer_feed l.inner) (numbered 0 l.ports)

-- ---- rows and edges

-- the source with the number that the next edge has, and that of the edge behind it
abbrev pub source_in : ℕ → Driver → SourceRow
source_in e (ByEdge from kind) = OfEdge (record { 0 = e })
source_in e (ByPin pin leaf) = OfLeaf pin (record { 0 = leaf })
source_in e ByOutside = Env

abbrev pub edges_behind : ℕ → Driver → ℕ
edges_behind e (ByEdge from kind) = e + 1
edges_behind e _ = e

abbrev pub rows_from : ℕ → List Feed → List DriveRow
rows_from e [] = []
rows_from e (x ∷ xs) = (x.0, source_in e x.1) ∷ rows_from (edges_behind e x.1) xs

abbrev pub edge_row : Feed → Option EdgeRow
edge_row x = by x.1
  where
    by : Driver → Option EdgeRow
    by (ByEdge from kind) = Some (record { from = from; to = record { 0 = x.0 }; kind = kind })
    by _ = None

abbrev pub drive_rows : List CellView → Layout → List DriveRow
drive_rows cells l = rows_from 0 (feeds cells l)

abbrev pub edge_rows : List CellView → Layout → List EdgeRow
edge_rows cells l = some_of edge_row (feeds cells l)
