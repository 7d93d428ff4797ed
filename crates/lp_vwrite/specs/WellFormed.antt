-- Which netlists can be written so that they are read again (own rule, after IEEE 1364-2005).
use Rattle.std.specs.Prelude.{◌≡◌, ◌≤◌, ℕ, length, Bool, true, false, not, ◌&&◌, nat_le, List, [], ◌∷◌, ◌++◌, map, Option, Some, None, IsTrue, flat_map}
use Rattle.std.specs.List.{list_all}
use Rattle.std.specs.Map.{lookup}
use Rattle.lp_text.specs.Texts.{same_text, has_text, distinct}
use Rattle.lp_model.specs.declared.netlist.BitRange.{BitRange}
use Rattle.lp_model.specs.NetlistView.{BitView, NetBit, SelectBit, ConstBit, PortView, NetView, ConnectionView, ConnectionsView, ByName, ByPosition, InstanceView, AssignView, ModuleView}
use Rattle.lp_verilog_tokens.specs.Lexical.{is_visible}
use Rattle.lp_verilog_draft.specs.Values.{is_in}
use Rattle.lp_text.specs.Limits.{most_names}
use Rattle.lp_verilog.specs.Reads.{Reads}
use Rattle.lp_vwrite.specs.Layout.{declared}

-- at least one byte, all visible ASCII
abbrev pub is_name : List ℕ → Bool
is_name [] = false
is_name (b ∷ rest) = list_all is_visible (b ∷ rest)

-- bounds have 32 bits
abbrev pub is_range : Option BitRange → Bool
is_range None = true
is_range (Some r) = nat_le r.left 4294967295 && nat_le r.right 4294967295

-- the declaration of a name, if there is one: its range, none of a scalar
abbrev pub declaration : List (List ℕ × Option BitRange) → List ℕ → Option (Option BitRange)
declaration nets name = lookup (same_text name) nets

abbrev pub is_scalar : Option (Option BitRange) → Bool
is_scalar (Some None) = true
is_scalar (Some (Some r)) = false
is_scalar None = false

abbrev pub has_index : Option (Option BitRange) → ℕ → Bool
has_index (Some (Some r)) i = is_in r i
has_index (Some None) i = false
has_index None i = false

-- a bit is declared and in range, and has an index exactly where its net is a vector
abbrev pub is_bit : List (List ℕ × Option BitRange) → BitView → Bool
is_bit nets (NetBit name) = is_scalar (declaration nets name)
is_bit nets (SelectBit name index) = has_index (declaration nets name) index
is_bit nets (ConstBit value) = true

abbrev pub is_constant : BitView → Bool
is_constant (ConstBit value) = true
is_constant (NetBit name) = false
is_constant (SelectBit name index) = false

abbrev pub is_filled : {A : Type 0} → List A → Bool
is_filled [] = false
is_filled (x ∷ xs) = true

abbrev pub is_connection : List (List ℕ × Option BitRange) → ConnectionView → Bool
is_connection nets c = is_name c.port && list_all (is_bit nets) c.bits

-- connections are by name, of each port at most one
abbrev pub are_connections : List (List ℕ × Option BitRange) → ConnectionsView → Bool
are_connections nets (ByName cs) = distinct (map (λ c. c.port) cs) && list_all (is_connection nets) cs
are_connections nets (ByPosition values) = false

abbrev pub is_instance : List (List ℕ × Option BitRange) → InstanceView → Bool
is_instance nets i = is_name i.name && (is_name i.target && are_connections nets i.connections)

-- both sides have a bit, and the left one has no constant
abbrev pub is_assign : List (List ℕ × Option BitRange) → AssignView → Bool
is_assign nets a = is_filled a.left && (is_filled a.right && (list_all (is_bit nets) a.left && (list_all (is_bit nets) a.right && list_all (λ b. not (is_constant b)) a.left)))

-- a declared net
abbrev pub is_net : List ℕ × Option BitRange → Bool
is_net n = is_name n.0 && is_range n.1

-- ports, wires and instances share one name space
abbrev pub names_of : ModuleView → List (List ℕ)
names_of m = map (λ n. n.0) (declared m) ++ map (λ i. i.name) m.instances

abbrev pub is_module : ModuleView → Bool
is_module m = is_name m.name && (list_all is_net (declared m) && (distinct (names_of m) && (list_all (is_instance (declared m)) m.instances && list_all (is_assign (declared m)) m.assigns)))

-- the test of well-formedness
abbrev pub is_well_formed : List ModuleView → Bool
is_well_formed modules = distinct (map (λ m. m.name) modules) && list_all is_module modules

abbrev pub IsWellFormed : List ModuleView → Type 0
IsWellFormed modules = IsTrue (is_well_formed modules)

-- ---- a table of the names

abbrev pub port_names_of : ConnectionsView → List (List ℕ)
port_names_of (ByName cs) = map (λ (c : ConnectionView). c.port) cs
port_names_of (ByPosition values) = []

abbrev pub instance_texts : InstanceView → List (List ℕ)
instance_texts i = i.name ∷ i.target ∷ port_names_of i.connections

-- the names in a module, but for those of bits, which are declared
abbrev pub module_texts : ModuleView → List (List ℕ)
module_texts m = m.name ∷ (map (λ (p : PortView). p.name) m.ports ++ (map (λ (n : NetView). n.name) m.nets ++ flat_map instance_texts m.instances))

-- distinct texts, as many as a table of names can have, with all names of the modules among them
pub record HasTable (modules : List ModuleView) : Type 0 where
  pub names : List (List ℕ)
  pub apart : distinct names ≡ true
  pub few : length names ≤ most_names
  pub known : list_all (λ t. has_text t names) (flat_map module_texts modules) ≡ true

-- a text reads as a netlist, if that is well formed and its names can have a table
abbrev pub ReadsBack : List ℕ → List ModuleView → Type 0
ReadsBack text modules = IsWellFormed modules → HasTable modules → Reads text modules
