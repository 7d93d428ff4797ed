-- The tables of an elaborated netlist as they are laid out from the templates of its modules (own rule).
use Rattle.std.specs.Prelude.{ℕ, List, [], ◌++◌, map, length, Option, Some, None, slice_get}
use Rattle.lp_model.specs.declared.graph.Graph.{Graph}
use Rattle.lp_model.specs.declared.graph.Inst.{Inst}
use Rattle.lp_model.specs.declared.library.Cell.{Cell}
use Rattle.lp_model.specs.declared.library.Library.{Library}
use Rattle.lp_model.specs.declared.netlist.Module.{Module}
use Rattle.lp_model.specs.declared.netlist.Netlist.{Netlist}
use Rattle.lp_spec_layout.specs.Parts.{Template}
use Rattle.lp_spec_layout.specs.Sites.{Site, Layout}
use Rattle.lp_spec_layout.specs.Walked.{sites_of}
use Rattle.lp_spec_layout.specs.Leaves.{leaf_sites_of, leaf_rows, pin_rows}
use Rattle.lp_layout.specs.declared.graph.Parts.{Parts}
use Rattle.lp_layout.specs.declared.wires.Wires.{Wires}
use Rattle.lp_layout.specs.Held.{word, held_leaf, held_pin, held_feed}
use Rattle.lp_layout.specs.Fed.{drives_of, feeds}
use Rattle.lp_layout.specs.Inputs.{top_inputs}
use Rattle.lp_layout.specs.Insts.{inst_of}
use Rattle.lp_layout.specs.Nodes.{inner_nodes, outer_nodes}
use Rattle.lp_layout.specs.Rows.{Seen, leaf_name}
use Rattle.lp_layout.specs.Shapes.{held_shape}
use Rattle.lp_layout.specs.Wires.{fed}

-- all sites and cell instances, from the top on
abbrev pub seen : List Module → List Template → ℕ → Seen
seen ms templates top = record {
  sites = sites_of templates top;
  leaves = map held_leaf (leaf_rows (leaf_name ms) 0 (leaf_sites_of templates top));
  pins = map held_pin (pin_rows (leaf_sites_of templates top));
}

-- ---- nodes and edges

abbrev pub inner_count : List Module → List Site → ℕ
inner_count ms sites = word (length (inner_nodes ms sites))

abbrev pub layout_at : List Module → List Template → List Site → Option Module → Layout
layout_at ms templates sites top = record { templates = templates; sites = sites; inner = inner_count ms sites; ports = top_inputs top }

-- the nodes, without what drives them
abbrev pub bare : List Module → List Site → Option Module → Wires
bare ms sites top = record { nodes = inner_nodes ms sites ++ outer_nodes top; edges = [] }

abbrev pub wires_at : List Module → List Cell → List Template → List Site → Option Module → Wires
wires_at ms cells templates sites top = fed (bare ms sites top) (map held_feed (feeds (map drives_of cells) (layout_at ms templates sites top)))

-- ---- instances

-- the name of a module; 0 of none
abbrev pub own_name : Option Module → ℕ
own_name None = 0
own_name (Some m) = m.name.0

abbrev pub insts_at : List Module → List Site → ℕ → List Inst
insts_at ms sites own = map (inst_of ms sites own) sites

-- ---- all of it

-- with the cells of a library, the templates of the modules and the place of the top
abbrev pub parts_at : List Module → List Cell → List Template → ℕ → Parts
parts_at ms cells templates top = record {
  shapes = map held_shape cells;
  instances = insts_at ms (sites_of templates top) (own_name (slice_get ms top));
  leaves = (seen ms templates top).leaves;
  pins = (seen ms templates top).pins;
  nodes = (wires_at ms cells templates (sites_of templates top) (slice_get ms top)).nodes;
  edges = (wires_at ms cells templates (sites_of templates top) (slice_get ms top)).edges;
  inner = inner_count ms (sites_of templates top);
}

abbrev pub graph_at : Netlist → Parts → ℕ → Graph
graph_at n p top = record {
  source = n;
  shapes = p.shapes;
  instances = p.instances;
  leaves = p.leaves;
  pins = p.pins;
  nodes = p.nodes;
  edges = p.edges;
  inner = p.inner;
  top = top;
}

abbrev pub laid : Netlist → Library → List Template → ℕ → Graph
laid n l templates top = graph_at n (parts_at n.modules l.cells templates top) top
