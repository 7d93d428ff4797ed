-- How an operator is put into the edited netlist, and what it owes (own rule).
use Rattle.std.specs.Prelude.{◌≡◌, ℕ, ◌+◌, Bool, true, length, Option, Some, None, if◌then◌else◌, slice_get}
use Rattle.lp_model.specs.LibraryView.{PinView, CellView}
use Rattle.lp_model.specs.NetlistView.{PortView}
use Rattle.lp_model.specs.declared.graph.Edge.{Edge as EdgeRow}
use Rattle.lp_model.specs.declared.graph.EdgeFrom.{EdgeFrom}
use Rattle.lp_model.specs.declared.graph.EdgeFrom.TheVariants.{Node as FromNode, Const as FromConst}
use Rattle.lp_model.specs.declared.graph.EdgeKind.{EdgeKind}
use Rattle.lp_model.specs.declared.graph.EdgeKind.TheVariants.{In, Out}
use Rattle.lp_model.specs.declared.plan.AddedKind.{AddedKind}
use Rattle.lp_spec_design.specs.Keys.{Node, Way, same_way, From}
use Rattle.lp_spec_design.specs.Netlists.{is_input}
use Rattle.lp_spec_design.specs.Graph.{source_of}
use Rattle.lp_spec_design.specs.Instances.{module_instances}
use Rattle.lp_spec_bridge.specs.Edges.{Edge, edges_of, kind_of}
use Rattle.lp_spec_fit.specs.Fits.{one_output}
use Rattle.lp_spec_realises.specs.Projects.{Project}
use Rattle.lp_spec_realises.specs.Realises.{data_pin}
use Rattle.lp_spec_written.specs.Places.{Standing}
use Rattle.lp_spec_written.specs.Nets.{is_inside}
use Rattle.lp_spec_hub.specs.Spots.{Done, with_operator}
use Rattle.lp_spec_hub.specs.Changes.{its_way, is_target}
use Rattle.lp_spec_hub.specs.Entries.{IsInFlow}
use Rattle.lp_spec_edits.specs.Net.{Net, edge_at}
use Rattle.lp_spec_edits.specs.Edits.{lies_behind, kind_at, head_at, split_edge, add_cell, connect_pin}
use Rattle.lp_spec_held.specs.Held.{Spots, Holds, more_keys}

-- the ends of the gap that an edge gets: behind it the new node and the one to which it leads in the end; before it what it comes from and the new node;
-- of a constant two nodes are new
abbrev pub gap_before : Net → Option EdgeRow → ℕ × ℕ
gap_before n None = (0, 0)
gap_before n (Some x) = by x.from
  where
    by : EdgeFrom → ℕ × ℕ
    by (FromNode j) = (j.0, length n.nodes)
    by (FromConst b) = (length n.nodes, length n.nodes + 1)

abbrev pub gap_of : Net → ℕ → Bool → ℕ × ℕ
gap_of n e inside = if lies_behind (kind_at n e) inside then (length n.nodes, head_at n e) else gap_before n (edge_at n e)

-- a cell in the gap: its data pin at the first end, its output at the second
abbrev pub insert_operator : Net → ℕ → Bool → ℕ → ℕ → AddedKind → ℕ → ℕ → Net
insert_operator n e inside i c kind data_ out =
    let placed = add_cell (split_edge n e inside) i c kind in
    connect_pin (connect_pin placed (length n.leaves) data_ (gap_of n e inside).0) (length n.leaves) out (gap_of n e inside).1

-- the kind of the edges of a port's bits
abbrev pub kind_at_port : PortView → EdgeKind
kind_at_port x = if is_input x then In else Out

-- the edge of an operator's way: the only one of this way, and what drives the net bit to which it leads
pub record IsItsEdge (p : Project) (from : Way → Node) (o : Standing) (e : ℕ) : Type 0 where
  pub edge : Edge
  pub there : slice_get (edges_of p.structure) e ≡ Some edge
  pub way : edge.way ≡ its_way o
  pub comes : edge.from ≡ from (its_way o)
  pub kind : kind_of edge ≡ kind_at_port o.asked.bit.port
  pub source : source_of p.structure edge.to ≡ Some (From (its_way o) (from (its_way o)))
  pub target : (k : Node) → is_target p o k ≡ true → k ≡ edge.to
  pub only : (b : ℕ) (y : Edge) → slice_get (edges_of p.structure) b ≡ Some y → same_way (its_way o) y.way ≡ true → b ≡ e

-- the number of a pin among the signal pins of a cell
pub record IsPin (c : CellView) (found : Option PinView) (q : ℕ) : Type 0 where
  pub pin : PinView
  pub is : found ≡ Some pin
  pub there : slice_get c.pins q ≡ Some pin
  pub only : (r : ℕ) → slice_get c.pins r ≡ Some pin → r ≡ q

-- the numbers that belong to an operator: its edge, its instance, its cell, its data pin and its output
pub record IsPlaced (p : Project) (from : Way → Node) (o : Standing) (e i c data_ out : ℕ) : Type 0 where
  pub edge : IsItsEdge p from o e
  pub instance : slice_get (module_instances p.structure) i ≡ Some o.path
  pub cell : slice_get p.structure.cells c ≡ Some o.cell
  pub takes : IsPin o.cell (data_pin o.asked.operator o.cell) data_
  pub gives : IsPin o.cell (one_output o.cell) out

-- one more operator is one more in what the netlist holds
abbrev pub OneMoreHeld : Type 0
OneMoreHeld =
    (p : Project) (from : Way → Node) (a : Done) (ks : Spots) (n : Net)
    → Holds p from a ks n
    → (o : Standing) (kind : AddedKind) (e i c data_ out : ℕ)
    → IsPlaced p from o e i c data_ out
    → IsInFlow (with_operator a o).plan.operators
    → Holds p from (with_operator a o) (more_keys ks a from o) (insert_operator n e (is_inside o.path o.asked.bit) i c kind data_ out)
