-- The names of a module's bits and instances, by the numbers of names (IEEE 1364-2005, vectors, module instantiation).
use Rattle.std.specs.Prelude.{ℕ, List, ◌++◌, map, flat_map, Option, Some, None, slice_get}
use Rattle.lp_text.specs.declared.names.NameId.{NameId}
use Rattle.lp_model.specs.declared.graph.NodeName.{NodeName}
use Rattle.lp_model.specs.declared.graph.NodeName.TheVariants.{Scalar, Bit}
use Rattle.lp_model.specs.declared.netlist.BitRange.{BitRange}
use Rattle.lp_model.specs.declared.netlist.Instance.{Instance}
use Rattle.lp_model.specs.declared.netlist.Module.{Module}
use Rattle.lp_model.specs.declared.netlist.NetDecl.{NetDecl}
use Rattle.lp_model.specs.declared.netlist.Port.{Port}
use Rattle.lp_spec_design.specs.Netlists.{indices}
use Rattle.lp_spec_layout.specs.Laid.{Label}

abbrev pub name_at : NameId → Option ℕ → NodeName
name_at n None = Scalar n
name_at n (Some i) = Bit n i

-- from the left bit to the right one
abbrev pub names_in : NameId → Option BitRange → List NodeName
names_in n r = map (name_at n) (indices r)

abbrev pub port_names : List Port → List NodeName
port_names ports = flat_map (λ (p : Port). names_in p.name p.range) ports

abbrev pub net_names : List NetDecl → List NodeName
net_names nets = flat_map (λ (n : NetDecl). names_in n.name n.range) nets

abbrev pub bit_names : Module → List NodeName
bit_names m = port_names m.ports ++ net_names m.nets

abbrev pub label_of : Module → Label
label_of m = record { bits = bit_names m; statements = map (λ (y : Instance). y.name.0) m.instances }

abbrev pub labels_of : List Module → List Label
labels_of ms = map label_of ms

-- of the instance at a place of a module; 0 where there is none
abbrev pub placed_name : Option Instance → ℕ
placed_name None = 0
placed_name (Some y) = y.name.0

abbrev pub statement_name : Option Module → ℕ → ℕ
statement_name None place = 0
statement_name (Some m) place = placed_name (slice_get m.instances place)
