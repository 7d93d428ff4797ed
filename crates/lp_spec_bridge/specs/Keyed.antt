-- What the numbers of tables stand for: the parts of a design, each kind in a list (own rule).
use Rattle.std.specs.Prelude.{◌≡◌, Bool, true, ℕ, false, List, [], ◌∷◌, map, slice_index_or}
use Rattle.std.specs.List.{list_all}
use Rattle.lp_spec_design.specs.Keys.{Path, Node, Inner, Outer, Fixed, Way, AssignBit}
use Rattle.lp_spec_design.specs.Netlists.{Structure}
use Rattle.lp_spec_design.specs.Instances.{Placed, module_instances, cell_instances}
use Rattle.lp_spec_design.specs.Nodes.{nodes_of}
use Rattle.lp_spec_design.specs.Winners.{IsIn}
use Rattle.lp_spec_bridge.specs.Edges.{Edge, edges_of}

-- module instances, cell instances, nodes, and the ways of edges
pub record Keyed : Type 0 where
  pub instances : List Path
  pub leaves : List Placed
  pub nodes : List Node
  pub ways : List Way

-- those of a design in their order
abbrev pub keys_of : Structure → Keyed
keys_of s = record { instances = module_instances s; leaves = cell_instances s; nodes = nodes_of s; ways = map (λ (e : Edge). e.way) (edges_of s) }

-- what a number stands for
abbrev pub node_at : Keyed → ℕ → Node
node_at ks k = slice_index_or ks.nodes k (Fixed false)

abbrev pub way_at : Keyed → ℕ → Way
way_at ks k = slice_index_or ks.ways k (AssignBit [] 0 0)

abbrev pub leaf_at : Keyed → ℕ → Placed
leaf_at ks k = slice_index_or ks.leaves k (record { path = []; instance = [] })

abbrev pub path_at : Keyed → ℕ → Path
path_at ks k = slice_index_or ks.instances k []

-- no member stands twice in a list
abbrev pub IsApart : {A : Type 0} → List A → Type 0
IsApart [] = Unit {0}
IsApart (x ∷ xs) = (IsIn x xs → ⊥) × IsApart xs

abbrev pub is_net_bit : Node → Bool
is_net_bit (Inner n i p) = true
is_net_bit (Outer n i) = true
is_net_bit (Fixed b) = false

-- no key stands twice, and no node is a constant
pub record AreKeys (ks : Keyed) : Type 0 where
  pub instances : IsApart ks.instances
  pub leaves : IsApart ks.leaves
  pub nodes : IsApart ks.nodes
  pub ways : IsApart ks.ways
  pub net_bits : list_all is_net_bit ks.nodes ≡ true
