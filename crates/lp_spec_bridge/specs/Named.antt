-- What an elaboration keeps of names and places: its instances, and for each one the names of its module's bits (own rule).
use Rattle.std.specs.Prelude.{◌≡◌, ℕ, false, List, [], map, flat_map, length, take, drop, Option, Some, None, slice_get}
use Rattle.lp_text.specs.Texts.{text_at}
use Rattle.lp_model.specs.declared.graph.Inst.{Inst}
use Rattle.lp_model.specs.declared.graph.Leaf.{Leaf}
use Rattle.lp_model.specs.declared.graph.Node.{Node as NodeRow}
use Rattle.lp_model.specs.declared.graph.NodeName.{NodeName}
use Rattle.lp_model.specs.declared.graph.NodeName.TheVariants.{Scalar, Bit, Added}
use Rattle.lp_model.specs.NetlistView.{BitView, NetBit, SelectBit, ConstBit, ModuleView}
use Rattle.lp_spec_design.specs.Keys.{Path}
use Rattle.lp_spec_design.specs.Netlists.{Structure, module_at}
use Rattle.lp_spec_design.specs.Instances.{Placed, module_instances, cell_instances}
use Rattle.lp_spec_design.specs.Graph.{numbered}
use Rattle.lp_spec_design.specs.Nodes.{inner_nodes, outer_in}
use Rattle.lp_spec_bridge.specs.Tables.{Tables}
use Rattle.lp_spec_bridge.specs.Edges.{edges_of}
use Rattle.lp_spec_bridge.specs.Keyed.{keys_of}
use Rattle.lp_spec_bridge.specs.Templates.{bits_in}
use Rattle.lp_spec_bridge.specs.Elaborates.{paths_of, starts_from, outer_key, row_ends, edge_ends, row_shape, shape_of}

-- the bit that a name means in its module
abbrev pub name_bit : List (List ℕ) → NodeName → BitView
name_bit texts (Scalar n) = NetBit (text_at texts n.0)
name_bit texts (Bit n i) = SelectBit (text_at texts n.0) i
name_bit texts (Added w) = ConstBit false

abbrev pub bits_of : Option ModuleView → List BitView
bits_of None = []
bits_of (Some m) = bits_in m

-- a name in an instance
abbrev pub NamedAt : Type 0
NamedAt = ℕ × NodeName

abbrev pub names_at : (ℕ → List NodeName) → ℕ × Path → List NamedAt
names_at names z = map (λ n. (z.0, n)) (names z.0)

-- the names by instance are those of its module, and nodes have them instance by instance; the rest as in an elaborated netlist
pub record IsNamed (texts : List (List ℕ)) (s : Structure) (t : Tables) : Type 0 where
  pub names : ℕ → List NodeName
  pub each : (k : ℕ) (p : Path) → slice_get (module_instances s) k ≡ Some p → map (name_bit texts) (names k) ≡ bits_of (module_at s p)
  pub bits : map (λ (x : NodeRow). (x.inst.0, x.name)) (take t.inner t.nodes) ≡ flat_map (names_at names) (numbered 0 (module_instances s))
  pub leaves : map (λ (l : Leaf). text_at texts l.name.0) t.leaves ≡ map (λ (a : Placed). a.instance) (cell_instances s)
  pub instances : paths_of texts t ≡ module_instances s
  pub modules : map (λ (x : Inst). slice_get s.modules x.module) t.instances ≡ map (module_at s) (module_instances s)
  pub starts : map (λ (x : Inst). x.start) t.instances ≡ starts_from s 0 (module_instances s)
  pub inner : t.inner ≡ length (inner_nodes s)
  pub outer_bits : map (λ (x : NodeRow). outer_key texts x.name) (drop t.inner t.nodes) ≡ outer_in (module_at s [])
  pub edges : map (row_ends (keys_of s)) t.edges ≡ map edge_ends (edges_of s)
  pub shapes : map row_shape t.shapes ≡ map shape_of s.cells
