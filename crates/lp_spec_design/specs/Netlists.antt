-- The modules and cells of a design by their paths (IEEE 1364-2005, hierarchical structures).
use Rattle.std.specs.Prelude.{ℕ, zero, suc, ◌+◌, ◌-◌, nat_le, Bool, true, false, not, List, [], ◌∷◌, map, Option, Some, None, is_some, option_and_then, if◌then◌else◌, bytes_eq}
use Rattle.std.specs.List.{list_any}
use Rattle.lp_model.specs.declared.netlist.BitRange.{BitRange}
use Rattle.lp_model.specs.declared.netlist.Direction.{Direction}
use Rattle.lp_model.specs.declared.netlist.Direction.TheVariants.{Input, Output}
use Rattle.lp_model.specs.NetlistView.{BitView, NetBit, SelectBit, ConstBit, PortView, ConnectionView, ConnectionsView, ByName, ByPosition, InstanceView, ModuleView}
use Rattle.lp_model.specs.LibraryView.{CellView}
use Rattle.lp_spec_design.specs.Keys.{Name, Path, Node, Inner, Fixed}

-- the netlist and the cells of its library
pub record Structure : Type 0 where
  pub modules : List ModuleView
  pub cells : List CellView

-- the first of a list that passes a test
abbrev pub first : {A : Type 0} → (A → Bool) → List A → Option A
first p [] = None
first p (x ∷ xs) = if p x then Some x else first p xs

abbrev pub module_named : Structure → Name → Option ModuleView
module_named s n = first (λ m. bytes_eq m.name n) s.modules

-- an instance is one of the module of its target's name, else of the cell of that name
abbrev pub cell_named : Structure → Name → Option CellView
cell_named s n = if is_some (module_named s n) then None else first (λ c. bytes_eq c.name n) s.cells

-- the module that no instance is of
abbrev pub is_instantiated : Structure → Name → Bool
is_instantiated s n = list_any (λ m. list_any (λ i. bytes_eq i.target n) m.instances) s.modules

abbrev pub top_of : Structure → Option ModuleView
top_of s = first (λ m. not (is_instantiated s m.name)) s.modules

abbrev pub instance_named : ModuleView → Name → Option InstanceView
instance_named m n = first (λ i. bytes_eq i.name n) m.instances

-- the module of an instance
abbrev pub module_at : Structure → Path → Option ModuleView
module_at s [] = top_of s
module_at s (i ∷ p) = option_and_then (λ m. option_and_then (λ x. module_named s x.target) (instance_named m i)) (module_at s p)

-- the cell of a cell instance of an instance
abbrev pub cell_at : Structure → Path → Name → Option CellView
cell_at s p i = option_and_then (λ m. option_and_then (λ x. cell_named s x.target) (instance_named m i)) (module_at s p)

-- some numbers up from one, and some down
abbrev pub upward : ℕ → ℕ → List ℕ
upward zero from = []
upward (suc n) from = from ∷ upward n (from + 1)

abbrev pub downward : ℕ → ℕ → List ℕ
downward zero from = []
downward (suc n) from = from ∷ downward n (from - 1)

-- the indices of a net from the left one to the right one; a scalar has one bit without index
abbrev pub indices : Option BitRange → List (Option ℕ)
indices None = None ∷ []
indices (Some r) = map (λ i. Some i) (if nat_le r.left r.right then upward (r.right + 1 - r.left) r.left else downward (r.left + 1 - r.right) r.left)

-- the node that a bit of an instance's module means
abbrev pub node_of : Path → BitView → Node
node_of p (NetBit n) = Inner n None p
node_of p (SelectBit n i) = Inner n (Some i) p
node_of p (ConstBit b) = Fixed b

-- what is connected to a port or pin by name, or to a port by its position
abbrev pub bits_named : Name → List ConnectionView → List BitView
bits_named n [] = []
bits_named n (c ∷ cs) = if bytes_eq c.port n then c.bits else bits_named n cs

abbrev pub bits_placed : Name → List PortView → List (List BitView) → List BitView
bits_placed n [] values = []
bits_placed n (p ∷ ports) [] = []
bits_placed n (p ∷ ports) (v ∷ values) = if bytes_eq p.name n then v else bits_placed n ports values

abbrev pub connected : List PortView → Name → ConnectionsView → List BitView
connected ports n (ByName cs) = bits_named n cs
connected ports n (ByPosition values) = bits_placed n ports values

abbrev pub is_input : PortView → Bool
is_input p = by p.direction
  where
    by : Direction → Bool
    by Input = true
    by Output = false
