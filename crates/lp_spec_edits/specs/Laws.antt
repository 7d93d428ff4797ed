-- The statements of the laws of this crate (own rule).
use Rattle.std.specs.Prelude.{◌≡◌, ℕ, ◌==◌, Bool, ◌||◌, length}
use Rattle.lp_model.specs.declared.graph.Source.TheVariants.{Nothing}
use Rattle.lp_model.specs.declared.graph.WireKind.{WireKind}
use Rattle.lp_model.specs.declared.plan.AddedKind.{AddedKind}
use Rattle.lp_spec_bridge.specs.Tables.{IsClosed}
use Rattle.lp_spec_edits.specs.Net.{Net, tables_of_net, source_at, cell_pins, cell_pins_at}
use Rattle.lp_spec_edits.specs.Edits.{add_cell, connect, add_wire, add_top_port, assign, punch_in, punch_out, head_at, split_behind, split_from, lead, swap_cell}
use Rattle.lp_spec_edits.specs.Sound.{IsSound, IsEdited, no_entry, no_pin, is_pin, is_its_edge, is_its_pin, CanConnect, CanAddCell, CanAddWire, CanAddTopPort, CanAssign, CanPunch, CanSplitBehind, CanSplitFrom, CanLead, CanSwap, IsSwapped}

-- a cell that is added changes no entry
abbrev pub CellsAdded : Type 0
CellsAdded = (n : Net) → IsSound n → (i c : ℕ) (kind : AddedKind) → CanAddCell n i c → IsEdited no_entry no_entry no_pin n (add_cell n i c kind)

-- a pin that is connected changes this pin, and what drives its node
abbrev pub PinsConnected : Type 0
PinsConnected = (n : Net) → IsSound n → (l q k : ℕ) → CanConnect n l q k → IsEdited (λ j. j == k) no_entry (is_pin l q) n (connect n l q k)

-- a wire that is added changes no entry, and a port of the top is driven alone
abbrev pub WiresAdded : Type 0
WiresAdded = (n : Net) → IsSound n → (i : ℕ) (kind : WireKind) → CanAddWire n i → IsEdited no_entry no_entry no_pin n (add_wire n i kind)

abbrev pub TopPortsAdded : Type 0
TopPortsAdded = (n : Net) → IsSound n → (name : ℕ) → CanAddTopPort n name → IsEdited (λ j. j == length n.nodes) no_entry no_pin n (add_top_port n name)

-- an assign changes what drives its left side, and makes an edge
abbrev pub NodesAssigned : Type 0
NodesAssigned = (n : Net) → IsSound n → (from to : ℕ) → CanAssign n from to → IsEdited (λ j. j == to) (λ e. e == length n.edges) no_pin n (assign n from to)

-- an input port drives its inner node, an output port its outer one
abbrev pub InputsPunched : Type 0
InputsPunched =
    (n : Net) → IsSound n → (i outer : ℕ) (kind : WireKind) → CanPunch n i outer
    → IsEdited (λ j. j == length n.nodes) (λ e. e == length n.edges) no_pin n (punch_in n i outer kind)

abbrev pub OutputsPunched : Type 0
OutputsPunched =
    (n : Net) → IsSound n → (i outer : ℕ) (kind : WireKind) → CanPunch n i outer → source_at n outer ≡ Nothing
    → IsEdited (λ j. j == outer) (λ e. e == length n.edges) no_pin n (punch_out n i outer kind)

-- behind an edge the new node takes over what drives the node to which the edge leads in the end
abbrev pub GapsBehind : Type 0
GapsBehind =
    (n : Net) → IsSound n → (e : ℕ) (inside : Bool) → CanSplitBehind n e
    → IsEdited (λ j. (j == head_at n e) || (j == length n.nodes)) (is_its_edge (source_at n (head_at n e))) (is_its_pin (source_at n (head_at n e))) n (split_behind n e inside)

-- before an edge only the edge changes, which comes from the new node
abbrev pub GapsBefore : Type 0
GapsBefore =
    (n : Net) → IsSound n → (e j : ℕ) (inside : Bool) → CanSplitFrom n e j
    → IsEdited no_entry (λ a. a == e) no_pin n (split_from n e inside j)

-- a constant's own net is driven from the constant by an assign, and the edge comes from it
abbrev pub ConstantsLed : Type 0
ConstantsLed =
    (n : Net) → IsSound n → (e : ℕ) (b : Bool) → CanLead n e b
    → IsEdited (λ j. j == length n.nodes) (λ a. (a == e) || (a == length n.edges)) no_pin n (lead n e b)

-- sound tables are closed
abbrev pub SoundIsClosed : Type 0
SoundIsClosed = (n : Net) → IsSound n → IsClosed (tables_of_net n)

-- another cell takes the place of one, pin by pin
abbrev pub CellsSwapped : Type 0
CellsSwapped = (n : Net) → IsSound n → (l c : ℕ) → CanSwap n l c → IsSwapped n (swap_cell n l c) l (cell_pins_at n l) (cell_pins n.cells c)
