-- What is made module by module, computed on a small design: a bus with a constant, an assign, and two levels.
use Rattle.std.specs.Prelude.{◌≡◌, ℕ, true, false, [], ◌∷◌, map, Some, None, codes}
use Rattle.std.proofs.Common.{refl}
use Rattle.lp_model.specs.declared.graph.Edge.{Edge as EdgeRow}
use Rattle.lp_model.specs.declared.graph.EdgeFrom.{EdgeFrom}
use Rattle.lp_model.specs.declared.graph.EdgeFrom.TheVariants.{Node as FromNode, Const as FromConst}
use Rattle.lp_model.specs.declared.graph.EdgeKind.TheVariants.{In, Out, Assign}
use Rattle.lp_model.specs.declared.graph.Source.TheVariants.{Env}
use Rattle.lp_model.specs.declared.netlist.Direction.TheVariants.{Input, Output}
use Rattle.lp_model.specs.NetlistView.{NetBit, SelectBit, ConstBit, ByName, ModuleView}
use Rattle.lp_spec_design.specs.Netlists.{Structure}
use Rattle.lp_spec_design.specs.Nodes.{computing}
use Rattle.lp_spec_design.proofs.Samples.{inverter, port, to}
use Rattle.lp_spec_bridge.specs.Edges.{edges_of}
use Rattle.lp_spec_bridge.specs.Elaborates.{row_ends, edge_ends}
use Rattle.lp_spec_bridge.specs.Keyed.{keys_of}
use Rattle.lp_spec_bridge.proofs.Samples.{of_edge, of_leaf, edge, pin_at}
use Rattle.lp_spec_layout.specs.Parts.{Child, OfModule, OfCell, Template, AreTemplates}
use Rattle.lp_spec_layout.specs.Sites.{Layout}
use Rattle.lp_spec_layout.specs.Feeds.{drive_rows, edge_rows}
use Rattle.lp_spec_layout.specs.Walked.{sites_of, layout_of}

-- module core (d, q) with d[1:0]: q is the complement of d[1]
abbrev pub core : ModuleView
core = record {
  name = codes "core";
  ports = port (codes "d") Input (Some (record { left = 1; right = 0 })) ∷ port (codes "q") Output None ∷ [];
  nets = [];
  instances = record { name = codes "g"; target = codes "INV"; connections = ByName (to (codes "A") (SelectBit (codes "d") 1) ∷ to (codes "Y") (NetBit (codes "q")) ∷ []) } ∷ [];
  assigns = [];
}

-- module top (a, y, z): core u (.d({a, 1'b1}), .q(y)); assign z = y
abbrev pub top : ModuleView
top = record {
  name = codes "top";
  ports = port (codes "a") Input None ∷ port (codes "y") Output None ∷ port (codes "z") Output None ∷ [];
  nets = [];
  instances = record { name = codes "u"; target = codes "core"; connections = ByName (record { port = codes "d"; bits = NetBit (codes "a") ∷ ConstBit true ∷ [] } ∷ to (codes "q") (NetBit (codes "y")) ∷ []) } ∷ [];
  assigns = record { left = NetBit (codes "z") ∷ []; right = NetBit (codes "y") ∷ [] } ∷ [];
}

abbrev pub design : Structure
design = record { modules = top ∷ core ∷ []; cells = inverter ∷ [] }

abbrev from : ℕ → EdgeFrom
from k = FromNode (record { 0 = k })

-- the block behind the three bits of the top
abbrev pub block : Child
block = record { of = 1; before = record { instances = 1; bits = 3; leaves = 0 }; inputs = (0, from 0) ∷ (1, FromConst true) ∷ []; outputs = (1, from 2) ∷ [] }

abbrev pub top_template : Template
top_template = record { statements = OfModule block ∷ []; assigns = (2, from 1) ∷ [] }

abbrev pub core_template : Template
core_template = record { statements = OfCell (record { of = 0; before = 0; row = pin_at 0 ∷ pin_at 2 ∷ [] }) ∷ []; assigns = [] }

abbrev layout : Layout
layout = layout_of (top_template ∷ core_template ∷ []) 0 6 (true ∷ false ∷ false ∷ [])

pub resolved : AreTemplates design (top ∷ core ∷ []) (top_template ∷ core_template ∷ [])
resolved = (
  record {
    statements = (record { inner = core; is_inner = refl; has_inner = refl; inputs = record { same = refl; within = refl }; outputs = record { same = refl; within = refl } }, tt);
    assigns = record { same = refl; within = refl };
  },
  (
    record {
      statements = (record { cell = inverter; is_cell = refl; has_cell = refl; resolved = record { same = refl; within = refl }; drives = refl }, tt);
      assigns = record { same = refl; within = refl };
    },
    tt,
  ),
)

-- the rows by number: a's inner side, y from the block, z by the assign; the block's bus, its cell's output; the environment's side
rows_are : drive_rows design.cells layout
    ≡ (0, of_edge 0) ∷ (1, of_edge 1) ∷ (2, of_edge 2) ∷ (3, of_edge 3) ∷ (4, of_edge 4) ∷ (5, of_leaf 1 0) ∷ (6, Env) ∷ (7, of_edge 5) ∷ (8, of_edge 6) ∷ []
unfolding sites_of
rows_are = refl

abbrev pub constant_edge : EdgeRow
constant_edge = record { from = FromConst true; to = record { 0 = 4 }; kind = In }

edges_are : edge_rows design.cells layout ≡ edge 6 0 In ∷ edge 5 1 Out ∷ edge 1 2 Assign ∷ edge 0 3 In ∷ constant_edge ∷ edge 1 7 Out ∷ edge 2 8 Out ∷ []
unfolding sites_of
edges_are = refl

ends_are : map (row_ends (keys_of design)) (edge_rows design.cells layout) ≡ map edge_ends (edges_of design)
unfolding computing sites_of
ends_are = refl
