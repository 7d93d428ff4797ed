-- Modules of equal content are written once, under the name of the first one (own rule).
use Rattle.std.specs.Prelude.{ℕ, zero, suc, ◌==◌, Bool, true, false, ◌&&◌, List, [], ◌∷◌, map, filter, Option, Some, None, option_and_then, bytes_eq}
use Rattle.lp_model.specs.declared.netlist.BitRange.{BitRange}
use Rattle.lp_model.specs.NetlistView.{PortView, NetView, ConnectionView, ConnectionsView, ByName, ByPosition, InstanceView, AssignView, ModuleView}
use Rattle.lp_spec_design.specs.Keys.{Name, same_bool}
use Rattle.lp_spec_design.specs.Netlists.{first, is_input}
use Rattle.lp_spec_written.specs.Nets.{same_bit}

-- ---- parts that are equal

abbrev pub same_list : {A : Type 0} → (A → A → Bool) → List A → List A → Bool
same_list same [] [] = true
same_list same (x ∷ xs) (y ∷ ys) = same x y && same_list same xs ys
same_list same _ _ = false

abbrev pub same_range : Option BitRange → Option BitRange → Bool
same_range None None = true
same_range (Some a) (Some b) = (a.left == b.left) && (a.right == b.right)
same_range _ _ = false

abbrev pub same_port : PortView → PortView → Bool
same_port a b = bytes_eq a.name b.name && (same_bool (is_input a) (is_input b) && same_range a.range b.range)

abbrev pub same_net : NetView → NetView → Bool
same_net a b = bytes_eq a.name b.name && same_range a.range b.range

abbrev pub same_connection : ConnectionView → ConnectionView → Bool
same_connection a b = bytes_eq a.port b.port && same_list same_bit a.bits b.bits

abbrev pub same_connections : ConnectionsView → ConnectionsView → Bool
same_connections (ByName cs) (ByName ds) = same_list same_connection cs ds
same_connections (ByPosition vs) (ByPosition ws) = same_list (same_list same_bit) vs ws
same_connections _ _ = false

abbrev pub same_assign : AssignView → AssignView → Bool
same_assign a b = same_list same_bit a.left b.left && same_list same_bit a.right b.right

-- ---- equal content

abbrev pub named : List ModuleView → Name → Option ModuleView
named modules n = first (λ (m : ModuleView). bytes_eq m.name n) modules

-- two targets are modules of equal content, or one cell
abbrev pub same_found : (ModuleView → ModuleView → Bool) → Name → Name → Option ModuleView → Option ModuleView → Bool
same_found same m n (Some a) (Some b) = same a b
same_found same m n None None = bytes_eq m n
same_found same m n _ _ = false

abbrev pub same_target : (ModuleView → ModuleView → Bool) → List ModuleView → Name → Name → Bool
same_target same modules m n = same_found same m n (named modules m) (named modules n)

abbrev pub same_instance : (ModuleView → ModuleView → Bool) → List ModuleView → InstanceView → InstanceView → Bool
same_instance same modules x y = bytes_eq x.name y.name && (same_target same modules x.target y.target && same_connections x.connections y.connections)

-- all but their own names is equal, and so are the contents of the modules of their instances; the depth is at most 64
abbrev pub same_content : List ModuleView → ℕ → ModuleView → ModuleView → Bool
same_content modules zero a b = false
same_content modules (suc depth) a b =
    same_list same_port a.ports b.ports
    && (same_list same_net a.nets b.nets
    && (same_list (same_instance (same_content modules depth) modules) a.instances b.instances
    && same_list same_assign a.assigns b.assigns))

-- ---- one module for each content

-- the first module of this content: that of the least instance number, where modules stand in preorder
abbrev pub first_of_content : List ModuleView → ModuleView → Option ModuleView
first_of_content modules m = first (λ (k : ModuleView). same_content modules 64 k m) modules

abbrev pub is_named_as : ModuleView → Option ModuleView → Bool
is_named_as m None = true
is_named_as m (Some k) = bytes_eq k.name m.name

abbrev pub is_first : List ModuleView → ModuleView → Bool
is_first modules m = is_named_as m (first_of_content modules m)

-- a target that is a module is the first of its content
abbrev pub or_name : Name → Option ModuleView → Name
or_name n None = n
or_name n (Some k) = k.name

abbrev pub shared_name : List ModuleView → Name → Name
shared_name modules n = or_name n (option_and_then (first_of_content modules) (named modules n))

abbrev pub shared_module : List ModuleView → ModuleView → ModuleView
shared_module modules m = record m { instances = map (λ (x : InstanceView). record x { target = shared_name modules x.target }) m.instances }

-- the first modules of their contents, in their order
abbrev pub shared : List ModuleView → List ModuleView
shared modules = map (shared_module modules) (filter (is_first modules) modules)
