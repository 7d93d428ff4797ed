-- The edits of a netlist, each as a function on its tables (own rule).
use Rattle.std.specs.Prelude.{ℕ, zero, suc, ◌+◌, ◌-◌, ◌==◌, Bool, true, false, not, ◌&&◌, List, [], ◌∷◌, ◌++◌, map, filter, length, replicate, Option, Some, None, option_and_then, unwrap_or, if◌then◌else◌, slice_index_or, slice_get}
use Rattle.lp_model.specs.declared.graph.Edge.{Edge as EdgeRow}
use Rattle.lp_model.specs.declared.graph.EdgeFrom.{EdgeFrom}
use Rattle.lp_model.specs.declared.graph.EdgeFrom.TheVariants.{Node as FromNode, Const as FromConst}
use Rattle.lp_model.specs.declared.graph.EdgeKind.{EdgeKind}
use Rattle.lp_model.specs.declared.graph.EdgeKind.TheVariants.{In, Out, Assign}
use Rattle.lp_model.specs.declared.graph.Leaf.{Leaf}
use Rattle.lp_model.specs.declared.graph.Node.{Node as NodeRow}
use Rattle.lp_model.specs.declared.graph.NodeName.{NodeName}
use Rattle.lp_model.specs.declared.graph.NodeName.TheVariants.{Added}
use Rattle.lp_model.specs.declared.graph.PinNet.{PinNet}
use Rattle.lp_model.specs.declared.graph.PinNet.TheVariants.{Unconnected, Node as PinNode}
use Rattle.lp_model.specs.declared.graph.Source.{Source as SourceRow}
use Rattle.lp_model.specs.declared.graph.Source.TheVariants.{Nothing, Env, Leaf as OfLeaf, Edge as OfEdge}
use Rattle.lp_model.specs.declared.graph.WireKind.{WireKind}
use Rattle.lp_model.specs.declared.graph.WireKind.TheVariants.{Supply, SwitchOutput, Chain, Control}
use Rattle.lp_model.specs.declared.plan.AddedKind.{AddedKind}
use Rattle.lp_model.specs.declared.plan.AddedKind.TheVariants.{Clamp, Shifter, Switch, Merged}
use Rattle.lp_spec_edits.specs.Net.{Signal, CellPins, AddedCell, Net, cell_pins, pin_count, source_at, inst_at, edge_at, cell_pins_at, drives, parent_at}

-- the entry at a place is changed
abbrev pub changed : {A : Type 0} → (A → A) → ℕ → List A → List A
changed f k [] = []
changed f zero (x ∷ xs) = f x ∷ xs
changed f (suc k) (x ∷ xs) = x ∷ changed f k xs

-- ---- entries

-- what drives a node
abbrev pub driven : ℕ → SourceRow → Net → Net
driven k y n = record n { nodes = changed (λ (x : NodeRow). record x { source = y }) k n.nodes }

-- what a pin of a cell instance is joined to
abbrev pub pinned : ℕ → ℕ → PinNet → Net → Net
pinned l q y n = record n { rows = changed (changed (λ (x : PinNet). y) q) l n.rows }

-- where an edge comes from, and where it leads
abbrev pub led_from : ℕ → EdgeFrom → Net → Net
led_from e y n = record n { edges = changed (λ (x : EdgeRow). record x { from = y }) e n.edges }

abbrev pub led_to : ℕ → ℕ → Net → Net
led_to e k n = record n { edges = changed (λ (x : EdgeRow). record x { to = record { 0 = k } }) e n.edges }

-- one node more, and one edge more
abbrev pub with_node : NodeRow → ℕ → Net → Net
with_node x number n = record n {
  nodes = n.nodes ++ (x ∷ []);
  numbers = n.numbers ++ (number ∷ []);
  room = record n.room { nodes = n.room.nodes - 1 };
}

abbrev pub with_edge : EdgeRow → Net → Net
with_edge x n = record n { edges = n.edges ++ (x ∷ []) }

abbrev pub with_port : Net → Net
with_port n = record n { room = record n.room { ports = n.room.ports - 1 } }

abbrev pub node_of : ℕ → NodeName → SourceRow → NodeRow
node_of i name y = record { inst = record { 0 = i }; name = name; source = y }

abbrev pub edge_of : EdgeFrom → ℕ → EdgeKind → EdgeRow
edge_of from to kind = record { from = from; to = record { 0 = to }; kind = kind }

-- ---- names

-- a name that counts in its instance: nets of chains, and parts of control routes
abbrev pub counts_with : WireKind → NodeName → Bool
counts_with Chain (Added Chain) = true
counts_with Control (Added Control) = true
counts_with _ _ = false

-- the next number of a kind in an instance
abbrev pub next_number : Net → ℕ → WireKind → ℕ
next_number n i kind = length (filter (λ (x : NodeRow). (x.inst.0 == i) && counts_with kind x.name) n.nodes)

-- a node takes a name and its number
abbrev pub named : ℕ → NodeName → ℕ → Net → Net
named k name number n = record n {
  nodes = changed (λ (x : NodeRow). record x { name = name }) k n.nodes;
  numbers = changed (λ (x : ℕ). number) k n.numbers;
}

abbrev pub name_at : Net → ℕ → NodeName
name_at n k = slice_index_or (map (λ (x : NodeRow). x.name) n.nodes) k (Added Chain)

abbrev pub number_at : Net → ℕ → ℕ
number_at n k = slice_index_or n.numbers k 0

-- a cell instance's number among those of its kind in its instance
abbrev pub same_added : AddedKind → AddedKind → Bool
same_added (Clamp a) (Clamp b) = true
same_added (Shifter a) (Shifter b) = true
same_added (Switch a) (Switch b) = true
same_added (Merged a) (Merged b) = true
same_added _ _ = false

abbrev pub has_kind : AddedKind → Option AddedCell → Bool
has_kind kind None = false
has_kind kind (Some x) = same_added kind x.kind

abbrev pub kind_count : AddedKind → ℕ → List Leaf → List (Option AddedCell) → ℕ
kind_count kind i [] xs = 0
kind_count kind i (l ∷ ls) [] = 0
kind_count kind i (l ∷ ls) (x ∷ xs) = (if (l.inst.0 == i) && has_kind kind x then 1 else 0) + kind_count kind i ls xs

-- ---- cells

-- a cell instance with open pins
abbrev pub add_cell : Net → ℕ → ℕ → AddedKind → Net
add_cell n i c kind = record n {
  leaves = n.leaves ++ (record { inst = record { 0 = i }; name = record { 0 = 0 }; cell = record { 0 = c }; start = 0 } ∷ []);
  rows = n.rows ++ (replicate (pin_count (cell_pins n.cells c)) Unconnected ∷ []);
  added = n.added ++ (Some (record { kind = kind; number = kind_count kind i n.leaves n.added }) ∷ []);
  room = record n.room { leaves = n.room.leaves - 1; pins = n.room.pins - pin_count (cell_pins n.cells c) };
}

-- a pin is joined to a node; where the cell drives the pin, the pin drives the node
abbrev pub connect : Net → ℕ → ℕ → ℕ → Net
connect n l q k =
    let joined = pinned l q (PinNode (record { 0 = k })) n in
    if drives n l q then driven k (OfLeaf q (record { 0 = l })) joined else joined

abbrev pub connect_pin : Net → ℕ → ℕ → ℕ → Net
connect_pin n l pin k = connect n l pin k

-- power and ground pins come after the signal pins
abbrev pub connect_pg : Net → ℕ → ℕ → ℕ → Net
connect_pg n l pg k = connect n l (length (cell_pins_at n l).signals + pg) k

-- ---- wires

abbrev pub add_wire : Net → ℕ → WireKind → Net
add_wire n i kind = with_node (node_of i (Added kind) Nothing) (next_number n i kind) n

-- an input port of the top
abbrev pub add_top_port : Net → ℕ → Net
add_top_port n name = with_port (with_node (node_of 0 (Added (Supply (record { 0 = name }))) Env) 0 n)

abbrev pub joined_by : EdgeKind → ℕ → ℕ → Net → Net
joined_by kind from to n = driven to (OfEdge (record { 0 = length n.edges })) (with_edge (edge_of (FromNode (record { 0 = from })) to kind) n)

abbrev pub assign : Net → ℕ → ℕ → Net
assign n from to = joined_by Assign from to n

-- a port of an instance with its inner node: an input comes from the outer node, an output leads to it
abbrev pub punch_in : Net → ℕ → ℕ → WireKind → Net
punch_in n i outer kind = joined_by In outer (length n.nodes) (with_port (add_wire n i kind))

abbrev pub punch_out : Net → ℕ → ℕ → WireKind → Net
punch_out n i outer kind = joined_by Out (length n.nodes) outer (with_port (add_wire n i kind))

-- ---- gaps in edges

-- inside the port's instance a gap lies behind an input's edge and before an output's; in the parent the other way round
abbrev pub lies_behind : EdgeKind → Bool → Bool
lies_behind In inside = inside
lies_behind Out inside = not inside
lies_behind Assign inside = false

abbrev pub head_at : Net → ℕ → ℕ
head_at n e = slice_index_or n.heads e 0

abbrev pub node_from : Option EdgeRow → ℕ
node_from None = 0
node_from (Some x) = by x.from
  where
    by : EdgeFrom → ℕ
    by (FromNode j) = j.0
    by (FromConst b) = 0

abbrev pub kind_at : Net → ℕ → EdgeKind
kind_at n e = unwrap_or (option_and_then (λ (x : EdgeRow). Some x.kind) (edge_at n e)) Assign

-- the instance of an edge's port: an input leads into it, an output out of it
abbrev pub port_inst : Net → ℕ → EdgeKind → ℕ
port_inst n e In = inst_at n (head_at n e)
port_inst n e _ = inst_at n (node_from (edge_at n e))

abbrev pub gap_inst : Net → ℕ → Bool → ℕ
gap_inst n e inside =
    let i = port_inst n e (kind_at n e) in
    if inside then i else unwrap_or (parent_at n i) 0

-- inside, the new node takes the name of the one beside it, which takes the next number; in the parent the new one does
abbrev pub names_passed : Bool → ℕ → ℕ → ℕ → Net → Net
names_passed true i beside new n = named new (name_at n beside) (number_at n beside) (named beside (Added Chain) (next_number n i Chain) n)
names_passed false i beside new n = named new (Added Chain) (next_number n i Chain) n

abbrev pub open_node : ℕ → Net → Net
open_node i n = with_node (node_of i (Added (SwitchOutput 0)) Nothing) 0 n

-- what drove a node leads to another one
abbrev pub lead_over : SourceRow → ℕ → Net → Net
lead_over (OfEdge e) k n = driven k (OfEdge e) (led_to e.0 k n)
lead_over (OfLeaf q l) k n = driven k (OfLeaf q l) (pinned l.0 q (PinNode (record { 0 = k })) n)
lead_over y k n = driven k y n

-- behind an edge: the new node takes over what drives the node to which the edge leads in the end
abbrev pub split_behind : Net → ℕ → Bool → Net
split_behind n e inside =
    let k = head_at n e in
    let new = length n.nodes in
    let i = gap_inst n e inside in
    names_passed inside i k new (lead_over (source_at n k) new (driven k Nothing (open_node i n)))

-- before an edge: the edge comes from the new node
abbrev pub split_from : Net → ℕ → Bool → ℕ → Net
split_from n e inside j =
    let new = length n.nodes in
    let i = gap_inst n e inside in
    names_passed inside i j new (led_from e (FromNode (record { 0 = new })) (open_node i n))

-- a constant is led to a net of its own by an assign
abbrev pub lead : Net → ℕ → Bool → Net
lead n e b =
    let new = length n.nodes in
    let i = gap_inst n e false in
    let made = named new (Added Chain) (next_number n i Chain) (open_node i n) in
    driven new (OfEdge (record { 0 = length n.edges })) (with_edge (edge_of (FromConst b) new Assign) (led_from e (FromNode (record { 0 = new })) made))

abbrev pub split_before : Net → ℕ → Bool → Option EdgeRow → Net
split_before n e inside None = n
split_before n e inside (Some x) = by x.from
  where
    by : EdgeFrom → Net
    by (FromNode j) = split_from n e inside j.0
    by (FromConst b) = split_from (lead n e b) e inside (length n.nodes)

abbrev pub split_edge : Net → ℕ → Bool → Net
split_edge n e inside = if lies_behind (kind_at n e) inside then split_behind n e inside else split_before n e inside (edge_at n e)

-- ---- another cell

-- the place of a pin by its name
abbrev pub pin_named : ℕ → List Signal → Option ℕ
pin_named name [] = None
pin_named name (x ∷ xs) = if x.name == name then Some 0 else option_and_then (λ k. Some (suc k)) (pin_named name xs)

abbrev pub pin_kept : CellPins → List PinNet → Signal → PinNet
pin_kept old row x = unwrap_or (option_and_then (λ q. Some (slice_index_or row q Unconnected)) (pin_named x.name old.signals)) Unconnected

abbrev pub new_row : CellPins → CellPins → List PinNet → List PinNet
new_row old new row = map (pin_kept old row) new.signals ++ replicate (length new.pgs) Unconnected

-- what a pin of the old cell drives, the pin of its name drives in the new one
abbrev pub pin_moved : CellPins → CellPins → ℕ → ℕ
pin_moved old new q = unwrap_or (option_and_then (λ (x : Signal). pin_named x.name new.signals) (slice_get old.signals q)) q

abbrev pub source_moved : CellPins → CellPins → ℕ → SourceRow → SourceRow
source_moved old new l (OfLeaf q m) = if m.0 == l then OfLeaf (pin_moved old new q) m else OfLeaf q m
source_moved old new l y = y

abbrev pub swap_cell : Net → ℕ → ℕ → Net
swap_cell n l c =
    let old = cell_pins_at n l in
    let new = cell_pins n.cells c in
    record n {
      leaves = changed (λ (x : Leaf). record x { cell = record { 0 = c } }) l n.leaves;
      rows = changed (new_row old new) l n.rows;
      nodes = map (λ (x : NodeRow). record x { source = source_moved old new l x.source }) n.nodes;
      room = record n.room { pins = n.room.pins - (pin_count new - pin_count old) };
    }
