-- The edits computed on a small design: chains of two cells before and behind an edge.
use Rattle.std.specs.Prelude.{◌≡◌, ℕ, Bool, true, false, List, [], ◌∷◌, Some}
use Rattle.std.proofs.Common.{refl}
use Rattle.lp_model.specs.declared.graph.EdgeKind.TheVariants.{In, Out}
use Rattle.lp_model.specs.declared.graph.NodeName.TheVariants.{Scalar, Added}
use Rattle.lp_model.specs.declared.graph.PinNet.{PinNet}
use Rattle.lp_model.specs.declared.graph.PinNet.TheVariants.{Unconnected}
use Rattle.lp_model.specs.declared.graph.Source.TheVariants.{Nothing}
use Rattle.lp_model.specs.declared.graph.WireKind.TheVariants.{Chain}
use Rattle.lp_model.specs.declared.plan.AddedKind.TheVariants.{Clamp}
use Rattle.lp_spec_bridge.proofs.Samples.{tables, pin_at, of_edge, of_leaf, edge}
use Rattle.lp_spec_edits.specs.Net.{Signal, CellPins, Net, net_of, source_at, edge_at}
use Rattle.lp_spec_edits.specs.Edits.{split_edge, add_cell, connect_pin, name_at, number_at, swap_cell}
use Rattle.std.specs.Prelude.{slice_index_or}

abbrev signal : ℕ → Bool → Signal
signal name drives = record { name = name; drives = drives }

-- the gate of the design, twice, a clamp with data, enable, output and two pins for its supply, and a gate of other pins, in another order
abbrev cells : List CellPins
cells =
    record { signals = signal 0 false ∷ signal 1 true ∷ []; pgs = [] }
    ∷ record { signals = signal 0 false ∷ signal 1 true ∷ []; pgs = [] }
    ∷ record { signals = signal 2 false ∷ signal 3 false ∷ signal 1 true ∷ []; pgs = false ∷ false ∷ [] }
    ∷ record { signals = signal 1 true ∷ signal 4 false ∷ signal 0 false ∷ []; pgs = false ∷ [] }
    ∷ []

abbrev begun : Net
begun = net_of cells tables

-- a clamp at an edge, with what it reads and what it drives
abbrev clamped : ℕ → Bool → ℕ → ℕ → ℕ → Net → Net
clamped e inside leaf from out n = connect_pin (connect_pin (add_cell (split_edge n e inside) 1 2 (Clamp 0)) leaf 0 from) leaf 2 out

abbrev row_of : Net → ℕ → List PinNet
row_of n l = slice_index_or n.rows l []

-- ---- inside an output: before the edge

abbrev one_out : Net
one_out = clamped 2 true 2 5 9 begun

abbrev two_out : Net
two_out = clamped 2 true 3 9 10 one_out

new_drives_edge : edge_at one_out 2 ≡ Some (edge 9 3 Out)
new_drives_edge = refl

clamp_drives_new : source_at one_out 9 ≡ of_leaf 2 2
clamp_drives_new = refl

port_passes : (name_at one_out 9 ≡ Scalar (record { 0 = 9 })) × (name_at one_out 5 ≡ Added Chain) × (number_at one_out 5 ≡ 0)
port_passes = (refl, refl, refl)

next_drives_edge : edge_at two_out 2 ≡ Some (edge 10 3 Out)
next_drives_edge = refl

port_passes_on : (name_at two_out 10 ≡ Scalar (record { 0 = 9 })) × (name_at two_out 9 ≡ Added Chain) × (number_at two_out 9 ≡ 1)
port_passes_on = (refl, refl, refl)

rows_out : (row_of two_out 2 ≡ pin_at 5 ∷ Unconnected ∷ pin_at 9 ∷ Unconnected ∷ Unconnected ∷ []) × (row_of two_out 3 ≡ pin_at 9 ∷ Unconnected ∷ pin_at 10 ∷ Unconnected ∷ Unconnected ∷ [])
rows_out = (refl, refl)

-- ---- inside an input: behind the edge

abbrev one_in : Net
one_in = clamped 3 true 2 9 4 begun

abbrev two_in : Net
two_in = clamped 3 true 3 10 4 one_in

-- the new node takes over the edge, and then what the first clamp drives
edge_leads_new : (edge_at one_in 3 ≡ Some (edge 0 9 In)) × (source_at one_in 9 ≡ of_edge 3) × (source_at one_in 4 ≡ of_leaf 2 2)
edge_leads_new = (refl, refl, refl)

clamp_leads_new : (edge_at two_in 3 ≡ Some (edge 0 9 In)) × (source_at two_in 10 ≡ of_leaf 2 2) × (source_at two_in 4 ≡ of_leaf 2 3)
clamp_leads_new = (refl, refl, refl)

-- nets are numbered in the flow: the inner readers read the last one
numbered_in : (name_at two_in 10 ≡ Added Chain) × (number_at two_in 10 ≡ 0) × (name_at two_in 4 ≡ Added Chain) × (number_at two_in 4 ≡ 1)
numbered_in = (refl, refl, refl, refl)

rows_in : (row_of two_in 2 ≡ pin_at 9 ∷ Unconnected ∷ pin_at 10 ∷ Unconnected ∷ Unconnected ∷ []) × (row_of two_in 3 ≡ pin_at 10 ∷ Unconnected ∷ pin_at 4 ∷ Unconnected ∷ Unconnected ∷ [])
rows_in = (refl, refl)

-- ---- in the parent

abbrev one_above : Net
one_above = split_edge begun 2 false

-- behind an output's edge the new node stands in the parent, with the new name
above : (edge_at one_above 2 ≡ Some (edge 5 9 Out)) × (source_at one_above 9 ≡ of_edge 2) × (source_at one_above 3 ≡ Nothing)
above = (refl, refl, refl)

above_named : (name_at one_above 9 ≡ Added Chain) × (name_at one_above 3 ≡ Scalar (record { 0 = 5 }))
above_named = (refl, refl)

-- ---- another cell

abbrev other_gate : Net
other_gate = swap_cell begun 0 3

-- its output comes first and drives what it drove, its input is joined as it was, and its other pins are open
swapped : (row_of other_gate 0 ≡ pin_at 5 ∷ Unconnected ∷ pin_at 4 ∷ Unconnected ∷ []) × (source_at other_gate 5 ≡ of_leaf 0 0)
swapped = (refl, refl)
