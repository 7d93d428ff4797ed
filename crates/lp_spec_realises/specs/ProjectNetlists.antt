-- What a netlist of a project is, whatever it computes: it elaborates over the project's cells, and its top has the source's ports and the supply ports (IEEE 1364-2005, hierarchical structures, port connections, continuous assignments; own rule).
use Rattle.std.specs.Prelude.{◌≡◌, ℕ, ◌==◌, nat_le, nat_lt, Bool, true, false, not, ◌&&◌, ◌||◌, List, [], ◌∷◌, ◌++◌, map, length, Option, Some, None, is_some, bytes_eq, IsTrue}
use Rattle.std.specs.List.{list_any, list_all}
use Rattle.lp_model.specs.NetlistView.{BitView, NetBit, SelectBit, ConstBit, PortView, NetView, InstanceView, ModuleView}
use Rattle.lp_spec_design.specs.Keys.{Name, Path, Node, Inner, same_node}
use Rattle.lp_spec_design.specs.Netlists.{Structure, module_named, cell_named, module_at, is_input}
use Rattle.lp_spec_design.specs.Instances.{module_instances, below}
use Rattle.lp_spec_design.specs.Nodes.{nodes_in, nodes_of, has_wire_loop, joined_bits}
use Rattle.lp_spec_design.specs.Graph.{sources_of, numbered, some_of}
use Rattle.lp_spec_design.specs.Intents.{Origin, FromPort, FromSwitch}
use Rattle.lp_spec_realises.specs.Projects.{Project, network_of, port_of_origin}
use Rattle.lp_spec_realises.specs.Tops.{top_ports, has_port_name, has_port}

-- the modules of a netlist over the cells of the project
abbrev pub netlist_of : Project → List ModuleView → Structure
netlist_of p modules = record { modules = modules; cells = p.structure.cells }

-- ---- it elaborates

-- each node has at most one source
abbrev pub has_single_source : Structure → Node → Bool
has_single_source w k = nat_le (length (sources_of w k)) 1

-- the target of each instance is a module or a cell
abbrev pub is_known : Structure → InstanceView → Bool
is_known w x = is_some (module_named w x.target) || is_some (cell_named w x.target)

abbrev pub knows_its_targets : Structure → Bool
knows_its_targets w = list_all (λ (m : ModuleView). list_all (is_known w) m.instances) w.modules

-- no name stands twice
abbrev pub are_apart : List Name → Bool
are_apart [] = true
are_apart (n ∷ names) = not (list_any (bytes_eq n) names) && are_apart names

-- the ports, nets and instances of a module have one space of names, the modules another
abbrev pub names_in : ModuleView → List Name
names_in m = map (λ (q : PortView). q.name) m.ports ++ (map (λ (n : NetView). n.name) m.nets ++ map (λ (x : InstanceView). x.name) m.instances)

abbrev pub has_names_apart : List ModuleView → Bool
has_names_apart modules = are_apart (map (λ (m : ModuleView). m.name) modules) && list_all (λ m. are_apart (names_in m)) modules

-- a constant, or one of the nodes of the instance; what is not declared otherwise is a scalar net by its use
abbrev pub is_declared : Path → List Node → BitView → Bool
is_declared p nodes (ConstBit b) = true
is_declared p nodes (NetBit n) = list_any (same_node (Inner n None p)) nodes
is_declared p nodes (SelectBit n i) = list_any (same_node (Inner n (Some i) p)) nodes

-- each bit that a module instance joins is declared
abbrev pub declares_its_bits : Path → Option ModuleView → Bool
declares_its_bits p None = true
declares_its_bits p (Some m) = list_all (is_declared p (nodes_in p (Some m))) (joined_bits m)

-- module instances are at most 64 deep, the top among them
abbrev pub is_shallow : Structure → Bool
is_shallow w = list_all (λ x. nat_lt (length x) 64) (below w 65 [])

-- ---- the ports of its top

-- the origins that are supply ports, by their numbers
abbrev pub if_port : ℕ → Origin → Option ℕ
if_port o FromPort = Some o
if_port o (FromSwitch input control high) = None

abbrev pub port_origins : Project → List ℕ
port_origins p = some_of (λ x. if_port x.0 x.1) (numbered 0 (network_of p).origins)

abbrev pub is_port_origin : Project → ℕ → Bool
is_port_origin p o = list_any (λ k. k == o) (port_origins p)

-- the ports of the origins have different names, and none is that of a port of the source
abbrev pub has_origins_apart : Project → Bool
has_origins_apart p = are_apart (map (port_of_origin p) (port_origins p)) && list_all (λ o. not (has_port_name p.structure (port_of_origin p o))) (port_origins p)

abbrev pub is_scalar_input : Name → PortView → Bool
is_scalar_input n port = bytes_eq port.name n && (is_input port && not (is_some port.range))

-- the top has the scalar input of a port origin
abbrev pub has_origin : Project → Structure → ℕ → Bool
has_origin p w o = list_any (is_scalar_input (port_of_origin p o)) (top_ports w)

-- ---- the whole

pub record IsProjectNetlist (p : Project) (modules : List ModuleView) : Type 0 where
  pub one_source : IsTrue (list_all (has_single_source (netlist_of p modules)) (nodes_of (netlist_of p modules)))
  pub no_loop : has_wire_loop (netlist_of p modules) ≡ false
  pub known : IsTrue (knows_its_targets (netlist_of p modules))
  pub names_apart : IsTrue (has_names_apart modules)
  pub declared : IsTrue (list_all (λ path. declares_its_bits path (module_at (netlist_of p modules) path)) (module_instances (netlist_of p modules)))
  pub shallow : IsTrue (is_shallow (netlist_of p modules))
  pub origins_apart : IsTrue (has_origins_apart p)
  pub origins : IsTrue (list_all (has_origin p (netlist_of p modules)) (port_origins p))
  pub ports : IsTrue (list_all (has_port (netlist_of p modules)) (top_ports p.structure))
