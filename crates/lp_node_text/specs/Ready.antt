-- What is claimed of a netlist where the calls before this one have answered (own rule).
use Rattle.std.specs.Prelude.{ℕ, ◌<◌, List, length}
use Rattle.lp_model.specs.declared.ids.NodeId.{NodeId}
use Rattle.lp_model.specs.declared.library.Library.{Library}
use Rattle.lp_model.specs.declared.netlist.Netlist.{Netlist}
use Rattle.lp_spec_design.specs.Keys.{Node}
use Rattle.lp_spec_design.specs.Netlists.{Structure}
use Rattle.lp_spec_design.specs.Nodes.{inner_nodes}
use Rattle.lp_spec_layout.specs.Parts.{Template}
use Rattle.lp_targets.specs.declared.hierarchy.Hierarchy.{Hierarchy}
use Rattle.lp_targets.specs.Structures.{structure_of}
use Rattle.lp_drivers.specs.Ready.{IsReady, node_of}

-- by a table of names and with the cells of a library
abbrev pub OnSource : List (List ℕ) → Netlist → Library → Hierarchy → List Template → (Structure → Type 0) → Type 0
OnSource texts n l h templates claim = IsReady (structure_of texts n l) h.rows h.order.items h.top templates → claim (structure_of texts n l)

-- with the cells of any library
abbrev pub OnModules : List (List ℕ) → Netlist → Hierarchy → List Template → (Structure → Type 0) → Type 0
OnModules texts n h templates claim = (l : Library) → OnSource texts n l h templates claim

-- of a net bit of an instance, by the number of its node
abbrev pub OnNetBit : NodeId → (Node → Type 0) → Structure → Type 0
OnNetBit k claim s = k.0 < length (inner_nodes s) → claim (node_of s k)
