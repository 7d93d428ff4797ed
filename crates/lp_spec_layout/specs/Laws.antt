-- The statements of the laws on layouts (own rule).
use Rattle.std.specs.Prelude.{◌≡◌, ◌<◌, ◌≤◌, ◌+◌, ℕ, List, [], ◌++◌, map, length, Some, slice_get}
use Rattle.lp_model.specs.declared.graph.Leaf.{Leaf}
use Rattle.lp_model.specs.NetlistView.{ModuleView}
use Rattle.lp_spec_design.specs.Netlists.{Structure, module_at, cell_at, upward}
use Rattle.lp_spec_design.specs.Keys.{Path}
use Rattle.lp_spec_design.specs.Instances.{Placed, cell_instances}
use Rattle.lp_spec_design.specs.Graph.{some_of}
use Rattle.lp_spec_bridge.specs.Tables.{Tables}
use Rattle.lp_spec_bridge.specs.Edges.{edges_of}
use Rattle.lp_spec_bridge.specs.Elaborates.{row_ends, edge_ends, Elaborates}
use Rattle.lp_spec_bridge.specs.Driven.{JoinsSingleBits}
use Rattle.lp_spec_bridge.specs.Names.{HasNamesApart}
use Rattle.lp_spec_bridge.specs.Noted.{noted_at}
use Rattle.lp_spec_bridge.specs.Kept.{AreDrives, AllStand}
use Rattle.lp_spec_bridge.specs.Keyed.{keys_of}
use Rattle.lp_spec_layout.specs.Parts.{Template, AreTemplates}
use Rattle.lp_spec_layout.specs.Sites.{Layout, port_bits, IsSited}
use Rattle.lp_spec_layout.specs.Walked.{IsSized, layout_of, IsOfSize, HasSize, AreHeights, HasDepth}
use Rattle.lp_spec_layout.specs.Leaves.{leaf_sites_of, leaf_rows, pin_rows}
use Rattle.lp_spec_layout.specs.OnePass.{note_all, without_sources}
use Rattle.lp_spec_layout.specs.Laid.{IsLaidOut}
use Rattle.lp_spec_layout.specs.Feeds.{Feed, rows_from, edge_row, drive_rows, edge_rows}

-- the cell instances of the tables have their cells
abbrev pub HasCells : Structure → Tables → Type 0
HasCells s t = map (λ (l : Leaf). slice_get s.cells l.cell.0) t.leaves ≡ map (λ (a : Placed). cell_at s a.path a.instance) (cell_instances s)

-- the rows made from templates are the drives of the design
abbrev pub RowsAreDrives : Type 0
RowsAreDrives = (s : Structure) (t : Tables) (l : Layout) → HasNamesApart s → JoinsSingleBits s → IsSited s l → HasCells s t → t.edges ≡ edge_rows s.cells l → AreDrives s t (drive_rows s.cells l)

-- and the edges made from them have their ends and kinds
abbrev pub RowsAreEdges : Type 0
RowsAreEdges = (s : Structure) (t : Tables) (l : Layout) → HasNamesApart s → JoinsSingleBits s → IsSited s l → HasCells s t → map (row_ends (keys_of s)) (edge_rows s.cells l) ≡ map edge_ends (edges_of s)

-- a walk over all instances gives their sites: the instances of a module's statements are where the sizes of modules say
abbrev pub WalkSites : Type 0
WalkSites = (s : Structure) (templates : List Template) (top : ℕ) (m : ModuleView) → HasNamesApart s → module_at s [] ≡ Some m → slice_get s.modules top ≡ Some m → AreTemplates s s.modules templates
    → (z : IsSized s templates) → z.height top < 64 → IsSited s (layout_of templates top (z.size top).bits (port_bits m))

-- and the rows of cell instances, made with it, have the cells of the design and the places of their modules
abbrev pub LeafRowsStand : Type 0
LeafRowsStand = (s : Structure) (t : Tables) (templates : List Template) (top : ℕ) (m : ModuleView) (name : ℕ → ℕ → ℕ) → HasNamesApart s → module_at s [] ≡ Some m → slice_get s.modules top ≡ Some m → AreTemplates s s.modules templates
    → (z : IsSized s templates) → z.height top < 64 → t.leaves ≡ leaf_rows name 0 (leaf_sites_of templates top) → t.pins ≡ pin_rows (leaf_sites_of templates top) → AllStand s t t.leaves (cell_instances s)

-- the size of the top's module is that of the design
abbrev pub SizesCount : Type 0
SizesCount = (s : Structure) (templates : List Template) (top : ℕ) (m : ModuleView) → HasNamesApart s → module_at s [] ≡ Some m → slice_get s.modules top ≡ Some m → AreTemplates s s.modules templates
    → (z : IsSized s templates) → z.height top < 64 → IsOfSize s (z.size top)

-- and so for each instance, down to any depth that is enough
abbrev pub SizesCountBelow : Type 0
SizesCountBelow = (s : Structure) (templates : List Template) → HasNamesApart s → AreTemplates s s.modules templates → (z : IsSized s templates)
    → (depth : ℕ) (p : Path) (m : ModuleView) (n : ℕ) → module_at s p ≡ Some m → slice_get s.modules n ≡ Some m → z.height n < depth → HasSize s depth p (z.size n)

-- no instance is deeper than its height says
abbrev pub HeightsBound : Type 0
HeightsBound = (s : Structure) (templates : List Template) (top : ℕ) (m : ModuleView) → module_at s [] ≡ Some m → slice_get s.modules top ≡ Some m → AreTemplates s s.modules templates
    → (z : IsSized s templates) (p : Path) (w : ModuleView) → module_at s p ≡ Some w → length p ≤ z.height top

-- and one is as deep, where heights are no more than wanted
abbrev pub HeightsReached : Type 0
HeightsReached = (s : Structure) (templates : List Template) (top : ℕ) (m : ModuleView) → HasNamesApart s → module_at s [] ≡ Some m → slice_get s.modules top ≡ Some m → AreTemplates s s.modules templates
    → (height : ℕ → ℕ) → AreHeights s templates height → HasDepth s (height top)

-- rows and edges of more feeds come behind those of the first ones
abbrev pub RowsGoOn : Type 0
RowsGoOn = (e : ℕ) (xs ys : List Feed) → rows_from e (xs ++ ys) ≡ rows_from e xs ++ rows_from (e + length (some_of edge_row xs)) ys

abbrev pub EdgesGoOn : Type 0
EdgesGoOn = (xs ys : List Feed) → some_of edge_row (xs ++ ys) ≡ some_of edge_row xs ++ some_of edge_row ys

-- one pass over the rows notes the first one for each of some nodes
abbrev pub NotedInOnePass : Type 0
NotedInOnePass = (e : ℕ) (xs : List Feed) (n : ℕ) → note_all (without_sources n) (rows_from e xs) ≡ map (noted_at (rows_from e xs)) (upward n 0)

-- tables that are made in this way, with the names of each module, are the elaborated netlist
abbrev pub LaidOutElaborates : Type 0
LaidOutElaborates = (texts : List (List ℕ)) (s : Structure) (t : Tables) → HasNamesApart s → JoinsSingleBits s → IsLaidOut texts s t → Elaborates texts s t
