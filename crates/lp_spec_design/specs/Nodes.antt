-- The nodes of a design, and ways that come back to where they began (IEEE 1364-2005, net and port declarations; the order is an own rule).
use Rattle.std.specs.Prelude.{◌≡◌, ◌≤◌, ℕ, suc, Bool, List, [], ◌++◌, map, length, Option, Some, None, flat_map}
use Rattle.std.specs.List.{list_any}
use Rattle.lp_model.specs.NetlistView.{BitView, ConstBit, PortView, NetView, ConnectionsView, ByName, ByPosition, ModuleView}
use Rattle.lp_spec_design.specs.Keys.{Path, Node, Inner, Outer, Source, same_node}
use Rattle.lp_spec_design.specs.Netlists.{Structure, module_at, indices, node_of}
use Rattle.lp_spec_design.specs.Instances.{module_instances, cell_instances}
use Rattle.lp_spec_design.specs.Graph.{source_of, trail}
use Rattle.lp_spec_design.specs.Winners.{IsIn}

-- the bits of a module instance: ports and then nets, from the left bit to the right one
abbrev pub nodes_in : Path → Option ModuleView → List Node
nodes_in path None = []
nodes_in path (Some m) =
    flat_map (λ (x : PortView). map (λ i. Inner x.name i path) (indices x.range)) m.ports
    ++ flat_map (λ (x : NetView). map (λ i. Inner x.name i path) (indices x.range)) m.nets

-- net bits by instance
unfoldable pub inner_nodes : Structure → List Node
inner_nodes s = flat_map (λ path. nodes_in path (module_at s path)) (module_instances s)

-- the outer sides of the top's ports
abbrev pub outer_in : Option ModuleView → List Node
outer_in None = []
outer_in (Some m) = flat_map (λ (x : PortView). map (λ i. Outer x.name i) (indices x.range)) m.ports

-- all nodes: net bits, then outer sides
abbrev pub nodes_of : Structure → List Node
nodes_of s = inner_nodes s ++ outer_in (module_at s [])

-- how far a way is followed back: no way without a repetition is longer than there are nodes
unfoldable pub fuel_of : Structure → ℕ
fuel_of s = length (nodes_of s)

-- a node lies on its own way back
abbrev pub is_on_its_way : Structure → Node → Bool
is_on_its_way s k = list_any (λ step. same_node step.1 k) (trail s (fuel_of s) k)

-- F23 holds nowhere where this is false
abbrev pub has_wire_loop : Structure → Bool
has_wire_loop s = list_any (is_on_its_way s) (inner_nodes s)

-- whatever has a source is one of the nodes
abbrev pub HasItsNodes : Structure → Type 0
HasItsNodes s = (k : Node) (x : Source) → source_of s k ≡ Some x → IsIn k (nodes_of s)

-- no way back is longer than there are nodes
abbrev pub HasFuel : Structure → Type 0
HasFuel s = (k : Node) → trail s (suc (fuel_of s)) k ≡ trail s (fuel_of s) k

-- the bits that the statements of a module join: those of connections and the left sides of assigns
abbrev pub connected_bits : ConnectionsView → List BitView
connected_bits (ByName cs) = flat_map (λ c. c.bits) cs
connected_bits (ByPosition values) = flat_map (λ bits. bits) values

abbrev pub joined_bits : ModuleView → List BitView
joined_bits m = flat_map (λ x. connected_bits x.connections) m.instances ++ flat_map (λ a. a.left) m.assigns

-- a constant, or a bit of a port or a net
abbrev pub IsDeclared : Path → ModuleView → BitView → Type 0
IsDeclared p m (ConstBit b) = Unit {0}
IsDeclared p m b = IsIn (node_of p b) (nodes_in p (Some m))

-- each bit that is joined is declared, and no module instance is deeper than 64 (F22)
pub record DeclaresBits (s : Structure) : Type 0 where
  pub declared : (p : Path) (m : ModuleView) (b : BitView) → module_at s p ≡ Some m → IsIn b (joined_bits m) → IsDeclared p m b
  pub shallow : (p : Path) → 64 ≤ length p → module_at s p ≡ None

-- what a computed example opens
unfoldable pub computing : Unit {0}
unfolding module_instances cell_instances inner_nodes fuel_of
computing = tt
