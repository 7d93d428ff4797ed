-- The tables of a small design: a top with one block, whose output a gate reads.
use Rattle.std.specs.Prelude.{ℕ, false, List, [], ◌∷◌, Option, Some, None, codes}
use Rattle.lp_model.specs.declared.graph.CellShape.{CellShape}
use Rattle.lp_model.specs.declared.graph.Edge.{Edge as EdgeRow}
use Rattle.lp_model.specs.declared.graph.EdgeFrom.TheVariants.{Node as FromNode}
use Rattle.lp_model.specs.declared.graph.EdgeKind.{EdgeKind}
use Rattle.lp_model.specs.declared.graph.EdgeKind.TheVariants.{In, Out}
use Rattle.lp_model.specs.declared.graph.Inst.{Inst}
use Rattle.lp_model.specs.declared.graph.Leaf.{Leaf}
use Rattle.lp_model.specs.declared.ids.InstId.{InstId}
use Rattle.lp_model.specs.declared.graph.Node.{Node as NodeRow}
use Rattle.lp_model.specs.declared.graph.NodeName.TheVariants.{Scalar}
use Rattle.lp_model.specs.declared.graph.PinNet.{PinNet}
use Rattle.lp_model.specs.declared.graph.PinNet.TheVariants.{Node as PinNode}
use Rattle.lp_model.specs.declared.graph.Source.{Source as SourceRow}
use Rattle.lp_model.specs.declared.graph.Source.TheVariants.{Env, Leaf as OfLeaf, Edge as OfEdge}
use Rattle.lp_model.specs.declared.netlist.Direction.TheVariants.{Input, Output}
use Rattle.lp_spec_bridge.specs.Tables.{Tables}

abbrev pub texts : List (List ℕ)
texts = codes "top" ∷ codes "core" ∷ codes "a" ∷ codes "en" ∷ codes "y" ∷ codes "n" ∷ codes "u" ∷ codes "b" ∷ codes "i" ∷ codes "o" ∷ codes "g" ∷ []

-- a node by its instance and its name
abbrev pub node : ℕ → ℕ → SourceRow → NodeRow
node inst name x = record { inst = record { 0 = inst }; name = Scalar (record { 0 = name }); source = x }

abbrev pub of_edge : ℕ → SourceRow
of_edge e = OfEdge (record { 0 = e })

abbrev pub of_leaf : ℕ → ℕ → SourceRow
of_leaf pin leaf = OfLeaf pin (record { 0 = leaf })

abbrev pub edge : ℕ → ℕ → EdgeKind → EdgeRow
edge from to kind = record { from = FromNode (record { 0 = from }); to = record { 0 = to }; kind = kind }

abbrev pub pin_at : ℕ → PinNet
pin_at k = PinNode (record { 0 = k })

abbrev pub inst : ℕ → ℕ → Option ℕ → ℕ → Inst
inst name m parent start = record { name = record { 0 = name }; «module» = m; parent = by parent; start = start }
  where
    by : Option ℕ → Option InstId
    by None = None
    by (Some p) = Some (record { 0 = p })

abbrev pub leaf : ℕ → ℕ → ℕ → ℕ → Leaf
leaf i name cell start = record { inst = record { 0 = i }; name = record { 0 = name }; cell = record { 0 = cell }; start = start }

abbrev pub gate : CellShape
gate = record { pins = Input ∷ Output ∷ []; pgs = 0; state = false }

abbrev pub tables : Tables
tables = record {
  instances = inst 0 0 None 0 ∷ inst 6 1 (Some 0) 4 ∷ [];
  leaves = leaf 1 10 0 0 ∷ leaf 0 7 1 2 ∷ [];
  pins = pin_at 4 ∷ pin_at 5 ∷ pin_at 3 ∷ pin_at 2 ∷ [];
  nodes =
      node 0 2 (of_edge 0) ∷ node 0 3 (of_edge 1) ∷ node 0 4 (of_leaf 1 1) ∷ node 0 5 (of_edge 2)
      ∷ node 1 8 (of_edge 3) ∷ node 1 9 (of_leaf 1 0)
      ∷ node 0 2 Env ∷ node 0 3 Env ∷ node 0 4 (of_edge 4) ∷ [];
  edges = edge 6 0 In ∷ edge 7 1 In ∷ edge 5 3 Out ∷ edge 0 4 In ∷ edge 2 8 Out ∷ [];
  shapes = gate ∷ gate ∷ [];
  inner = 6;
}
