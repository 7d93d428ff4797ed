-- Operators put into edited netlists of small designs, computed: the wires are those of the hub.
use Rattle.std.proofs.Common.{◌≡◌, ℕ, [], ◌∷◌, List, true, false, Bool, Option, Some, None, refl}
use Rattle.std.specs.Prelude.{map, slice_get, option_and_then}
use Rattle.lp_model.specs.declared.graph.Edge.{Edge as EdgeRow}
use Rattle.lp_model.specs.declared.graph.EdgeFrom.TheVariants.{Const as FromConst}
use Rattle.lp_model.specs.declared.graph.EdgeKind.{EdgeKind}
use Rattle.lp_model.specs.declared.graph.EdgeKind.TheVariants.{In, Out}
use Rattle.lp_model.specs.declared.graph.PinNet.TheVariants.{Unconnected}
use Rattle.lp_model.specs.declared.graph.Source.TheVariants.{Env}
use Rattle.lp_model.specs.declared.plan.AddedKind.TheVariants.{Clamp}
use Rattle.lp_spec_design.specs.Nodes.{computing}
use Rattle.lp_spec_design.specs.Graph.{numbered}
use Rattle.lp_spec_bridge.specs.Tables.{Tables}
use Rattle.lp_spec_bridge.specs.Edges.{Edge, edges_of, kind_of}
use Rattle.lp_spec_bridge.proofs.Samples.{node, of_edge, of_leaf, edge, pin_at, inst, leaf}
use Rattle.lp_spec_realises.specs.Projects.{Project}
use Rattle.lp_spec_written.specs.Nets.{is_inside}
use Rattle.lp_spec_written.specs.Places.{Standing, plan}
use Rattle.lp_spec_written.proofs.Samples.{any_cell, bare, clamped, lower_block, clamped_outside, clamped_inside, fixed_input, higher_block, top_output}
use Rattle.lp_spec_hub.specs.Spots.{Spot, Drive, Done, nothing_done, with_operator}
use Rattle.lp_spec_hub.specs.Changes.{its_way}
use Rattle.lp_spec_hub.specs.Drives.{comes_from, drive, read_by}
use Rattle.lp_spec_edits.specs.Net.{Signal, CellPins, Net, net_of, source_at, edge_at, pin_at as joined_to}
use Rattle.lp_spec_held.specs.Held.{Spots, spots_of, from_spot, pin_spot, row_drive, way_start, way_end, AreCells, more_keys}
use Rattle.lp_spec_held.specs.Inserted.{insert_operator}

-- ---- the library, and a top with one block

abbrev signal : ℕ → Bool → Signal
signal name drives = record { name = name; drives = drives }

abbrev gate : CellPins
gate = record { signals = signal 0 false ∷ signal 1 true ∷ []; pgs = false ∷ false ∷ [] }

abbrev cells : List CellPins
cells =
    gate ∷ gate
    ∷ record gate { signals = signal 2 false ∷ signal 3 false ∷ signal 1 true ∷ [] }
    ∷ record gate { pgs = false ∷ false ∷ false ∷ [] }
    ∷ record { signals = signal 4 false ∷ []; pgs = false ∷ true ∷ false ∷ [] }
    ∷ record gate { signals = signal 2 false ∷ signal 5 false ∷ signal 6 true ∷ [] }
    ∷ record { signals = signal 7 false ∷ signal 8 false ∷ signal 5 false ∷ signal 2 false ∷ signal 6 true ∷ []; pgs = false ∷ false ∷ false ∷ [] }
    ∷ []

are_cells : AreCells bare.structure cells
unfolding computing
are_cells = refl

abbrev tables : EdgeRow → Tables
tables x = record {
  instances = inst 0 0 None 0 ∷ inst 6 1 (Some 0) 4 ∷ [];
  leaves = leaf 1 10 0 0 ∷ leaf 0 7 1 4 ∷ [];
  pins = pin_at 4 ∷ pin_at 5 ∷ Unconnected ∷ Unconnected ∷ pin_at 3 ∷ pin_at 2 ∷ Unconnected ∷ Unconnected ∷ [];
  nodes =
      node 0 2 (of_edge 0) ∷ node 0 3 (of_edge 1) ∷ node 0 4 (of_leaf 1 1) ∷ node 0 5 (of_edge 2)
      ∷ node 1 8 (of_edge 3) ∷ node 1 9 (of_leaf 1 0)
      ∷ node 0 2 Env ∷ node 0 3 Env ∷ node 0 4 (of_edge 4) ∷ [];
  edges = edge 6 0 In ∷ edge 7 1 In ∷ edge 5 3 Out ∷ x ∷ edge 2 8 Out ∷ [];
  shapes = [];
  inner = 6;
}

abbrev begun : Net
begun = net_of cells (tables (edge 0 4 In))

-- ---- by number and by the hub

pub record Step : Type 0 where
  pub edge : ℕ
  pub instance : ℕ
  pub cell : ℕ
  pub out : ℕ

pub record Stage : Type 0 where
  pub done : Done
  pub keys : Spots
  pub net : Net

abbrev first : Project → Net → Stage
first p n = record { done = nothing_done; keys = spots_of p.structure; net = n }

abbrev next : Project → Stage → Step → Standing → Stage
next p g x o = record {
  done = with_operator g.done o;
  keys = more_keys g.keys g.done (comes_from p) o;
  net = insert_operator g.net x.edge (is_inside o.path o.asked.bit) x.instance x.cell (Clamp 0) 0 x.out;
}

abbrev stage : Project → Stage → List Step → List Standing → Stage
stage p g [] os = g
stage p g (x ∷ xs) [] = g
stage p g (x ∷ xs) (o ∷ os) = stage p (next p g x o) xs os

abbrev edge_row : Spots → Net → ℕ × Edge → Option (Spot × Option Spot × EdgeKind)
edge_row ks n z = option_and_then (λ (r : EdgeRow). Some (from_spot ks r.from, slice_get ks.nodes r.to.0, r.kind)) (edge_at n z.0)

-- what each node has as source, where each edge begins and leads, and what each operator reads
abbrev by_number : Project → Stage → List (Option Drive) × List (Option (Spot × Option Spot × EdgeKind)) × List (Option Spot)
by_number p g = (
  map (λ (z : ℕ × Spot). row_drive p.structure g.keys g.net z.1 (source_at g.net z.0)) (numbered 0 g.keys.nodes),
  map (edge_row g.keys g.net) (numbered 0 (edges_of p.structure)),
  map (λ (z : ℕ × Standing). pin_spot g.keys (joined_to g.net z.0 0)) (numbered 2 g.done.plan.operators),
)

abbrev by_the_hub : Project → Stage → List (Option Drive) × List (Option (Spot × Option Spot × EdgeKind)) × List (Option Spot)
by_the_hub p g = (
  map (drive p g.done (comes_from p)) g.keys.nodes,
  map (λ (y : Edge). Some (way_start g.done y, Some (way_end g.done y), kind_of y)) (edges_of p.structure),
  map (λ (z : ℕ × Standing). Some (read_by (its_way z.1) (comes_from p (its_way z.1)) z.0 z.1)) (numbered 0 g.done.plan.operators),
)

abbrev inserted : Project → Net → List Step → Stage
inserted p n xs = stage p (first p n) xs (plan p any_cell).operators

abbrev step : ℕ → ℕ → ℕ → ℕ → Step
step e i c out = record { edge = e; instance = i; cell = c; out = out }

nothing : by_number bare (first bare begun) ≡ by_the_hub bare (first bare begun)
unfolding computing
nothing = refl

-- inside an output, one and two
at_output : by_number clamped (inserted clamped begun (step 2 1 2 2 ∷ [])) ≡ by_the_hub clamped (inserted clamped begun (step 2 1 2 2 ∷ []))
unfolding computing
at_output = refl

two_at_output : by_number lower_block (inserted lower_block begun (step 2 1 3 1 ∷ step 2 1 2 2 ∷ [])) ≡ by_the_hub lower_block (inserted lower_block begun (step 2 1 3 1 ∷ step 2 1 2 2 ∷ []))
unfolding computing
two_at_output = refl

-- outside an output
outside : by_number clamped_outside (inserted clamped_outside begun (step 2 0 2 2 ∷ [])) ≡ by_the_hub clamped_outside (inserted clamped_outside begun (step 2 0 2 2 ∷ []))
unfolding computing
outside = refl

-- before and behind an input
on_both_sides : by_number clamped_inside (inserted clamped_inside begun (step 3 0 2 2 ∷ step 3 1 2 2 ∷ [])) ≡ by_the_hub clamped_inside (inserted clamped_inside begun (step 3 0 2 2 ∷ step 3 1 2 2 ∷ []))
unfolding computing
on_both_sides = refl

-- two inside an input
two_at_input : by_number higher_block (inserted higher_block begun (step 3 1 2 2 ∷ step 3 1 3 1 ∷ [])) ≡ by_the_hub higher_block (inserted higher_block begun (step 3 1 2 2 ∷ step 3 1 3 1 ∷ []))
unfolding computing
two_at_input = refl

-- a constant at an input, led to the parent's clamp
abbrev fixed : Net
fixed = net_of cells (tables (record { from = FromConst false; to = record { 0 = 4 }; kind = In }))

constant : by_number fixed_input (inserted fixed_input fixed (step 3 0 2 2 ∷ [])) ≡ by_the_hub fixed_input (inserted fixed_input fixed (step 3 0 2 2 ∷ []))
unfolding computing
constant = refl

-- the top's own output
at_the_top : by_number top_output (inserted top_output begun (step 4 0 2 2 ∷ [])) ≡ by_the_hub top_output (inserted top_output begun (step 4 0 2 2 ∷ []))
unfolding computing
at_the_top = refl
