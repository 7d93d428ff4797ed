-- Whether the wires of a written netlist are driven as the hub says, bit by bit.
use Rattle.std.specs.Prelude.{ℕ, Bool, true, false, ◌&&◌, List, [], ◌∷◌, ◌++◌, map, Option, Some, None, codes, if◌then◌else◌, bytes_eq}
use Rattle.std.specs.List.{list_all}
use Rattle.lp_spec_design.specs.Keys.{Name, Path, same_path, Node, Outer, Fixed, same_node, Way, Source, CellPin, SwitchedPin, Environment, From}
use Rattle.lp_spec_design.specs.Nodes.{nodes_of}
use Rattle.lp_spec_design.specs.Graph.{source_of}
use Rattle.lp_model.specs.NetlistView.{ModuleView}
use Rattle.lp_spec_realises.specs.Projects.{Project, port_of_origin}
use Rattle.lp_spec_realises.specs.ProjectNetlists.{netlist_of}
use Rattle.lp_spec_realises.specs.Implements.{Lists}
use Rattle.lp_spec_hub.specs.Spots.{Spot, OfNode, same_spot, Drive, AsSource, ByOperator, BySwitch, ByPort, FromSpot, all_done}
use Rattle.lp_spec_hub.specs.Drives.{drive, comes_from}

-- which net bit a wire is: those that are given, else the bit of the source itself
abbrev pub Names : Type 0
Names = List (Spot × Node)

abbrev pub own_name : Spot → Node
own_name (OfNode k) = k
own_name _ = Fixed false

abbrev pub name_of : Names → Spot → Node
name_of [] x = own_name x
name_of (n ∷ names) x = let more = name_of names x in if same_spot n.0 x then n.1 else more

-- which instance is operator k of a way
abbrev pub Operators : Type 0
Operators = Way → ℕ → Path × Name

abbrev same_pin : Path → Name → Name → Path → Name → Name → Bool
same_pin x i q y j r = bytes_eq i j && (bytes_eq q r && same_path x y)

abbrev is_driven : Project → Names → Operators → Option Source → Option Drive → Bool
is_driven p names at (Some (From way j)) (Some (FromSpot y)) = same_node j (name_of names y)
is_driven p names at (Some (From way (Outer n i))) (Some (ByPort o)) = bytes_eq n (port_of_origin p o)
is_driven p names at (Some (CellPin x i q)) (Some (AsSource (CellPin y j r))) = same_pin x i q y j r
is_driven p names at (Some (CellPin x i q)) (Some (ByOperator w k)) = let o = at w k in bytes_eq i o.1 && same_path x o.0
is_driven p names at (Some (SwitchedPin x i g)) (Some (BySwitch o)) = bytes_eq i (codes "lp_s_0")
is_driven p names at (Some Environment) (Some (AsSource Environment)) = true
is_driven p names at None None = true
is_driven p names at _ _ = false

abbrev pub are_driven : Project → Lists → List ModuleView → Names → Operators → Bool
are_driven p l modules names at =
    list_all (λ x. is_driven p names at (source_of (netlist_of p modules) (name_of names x)) (drive p (all_done p l) (comes_from p) x))
    (map (λ k. OfNode k) (nodes_of p.structure) ++ map (λ n. n.0) names)
