-- The statements of the laws of this crate (own rule).
use Rattle.std.specs.Prelude.{◌≡◌, ◌<◌, ◌≤◌, ℕ, true, List, [], map, length, Some, slice_get}
use Rattle.std.specs.List.{list_all}
use Rattle.lp_model.specs.declared.graph.Inst.{Inst}
use Rattle.lp_model.specs.declared.library.Library.{Library}
use Rattle.lp_model.specs.declared.netlist.Module.{Module}
use Rattle.lp_model.specs.declared.netlist.Netlist.{Netlist}
use Rattle.lp_model.specs.NetlistView.{module_view}
use Rattle.lp_spec_design.specs.Netlists.{module_at}
use Rattle.lp_spec_bridge.specs.Tables.{tables_of}
use Rattle.lp_spec_bridge.specs.Names.{HasNamesApart}
use Rattle.lp_spec_layout.specs.Parts.{Template, AreTemplates}
use Rattle.lp_spec_layout.specs.Sites.{Layout, port_bits}
use Rattle.lp_spec_layout.specs.Walked.{IsSized, sites_of, layout_of}
use Rattle.lp_spec_layout.specs.Leaves.{leaf_sites_of, leaf_rows, pin_rows}
use Rattle.lp_spec_layout.specs.Feeds.{feeds, edge_rows}
use Rattle.lp_spec_layout.specs.Laid.{IsLaidOut, inst_row, name_of}
use Rattle.lp_targets.specs.Structures.{structure_of}
use Rattle.lp_layout.specs.Held.{held_inst, held_leaf, held_pin, held_feed}
use Rattle.lp_layout.specs.Labels.{labels_of}
use Rattle.lp_layout.specs.Graph.{laid}
use Rattle.lp_spec_laid.specs.Shaped.{has_few_pgs, with_shapes}

-- templates of the modules of a netlist whose names are apart, with sizes, and its top
pub record IsReady (texts : List (List ℕ)) (n : Netlist) (l : Library) (templates : List Template) (top : ℕ) : Type 0 where
  pub source : Module
  pub sized : IsSized (structure_of texts n l) templates
  pub has_source : slice_get n.modules top ≡ Some source
  pub is_top : module_at (structure_of texts n l) [] ≡ Some (module_view texts source)
  pub apart : HasNamesApart (structure_of texts n l)
  pub low : sized.height top < 64
  pub resolved : AreTemplates (structure_of texts n l) (structure_of texts n l).modules templates

abbrev pub layout_in : (texts : List (List ℕ)) (n : Netlist) (l : Library) (templates : List Template) (top : ℕ) → IsReady texts n l templates top → Layout
layout_in texts n l templates top r = layout_of templates top (r.sized.size top).bits (port_bits (module_view texts r.source))

abbrev pub inst_rows : Netlist → List Template → ℕ → ℕ → List Inst
inst_rows n templates top own = map (inst_row (labels_of n.modules) (sites_of templates top) own) (sites_of templates top)

-- all numbers of its tables are as they are held
pub record AreExact (texts : List (List ℕ)) (n : Netlist) (l : Library) (templates : List Template) (top : ℕ) (r : IsReady texts n l templates top) : Type 0 where
  pub sites : length (sites_of templates top) ≤ 4294967296
  pub nodes : (r.sized.size top).bits < 4294967296
  pub insts : map held_inst (inst_rows n templates top r.source.name.0) ≡ inst_rows n templates top r.source.name.0
  pub leaves : map held_leaf (leaf_rows (name_of (labels_of n.modules)) 0 (leaf_sites_of templates top)) ≡ leaf_rows (name_of (labels_of n.modules)) 0 (leaf_sites_of templates top)
  pub pins : map held_pin (pin_rows (leaf_sites_of templates top)) ≡ pin_rows (leaf_sites_of templates top)
  pub feeds : map held_feed (feeds (structure_of texts n l).cells (layout_in texts n l templates top r)) ≡ feeds (structure_of texts n l).cells (layout_in texts n l templates top r)
  pub edges : length (edge_rows (structure_of texts n l).cells (layout_in texts n l templates top r)) ≤ 4294967296

-- what is laid out are the tables of the layout, with the shapes of cells as they are
abbrev pub LaidIsLaidOut : Type 0
LaidIsLaidOut = (texts : List (List ℕ)) (n : Netlist) (l : Library) (templates : List Template) (top : ℕ) (r : IsReady texts n l templates top)
    → AreExact texts n l templates top r
    → IsLaidOut texts (structure_of texts n l) (with_shapes l.cells (tables_of (laid n l templates top)))

-- the shapes that are laid out are as they are, where no cell has more power and ground pins than 8 bits count
abbrev pub ShapesAreHeld : Type 0
ShapesAreHeld = (n : Netlist) (l : Library) (templates : List Template) (top : ℕ) → list_all has_few_pgs l.cells ≡ true → with_shapes l.cells (tables_of (laid n l templates top)) ≡ tables_of (laid n l templates top)
