-- The line of the table of faults about the names of the written netlist (own rule).
use Rattle.std.specs.Prelude.{nat_lt, nat_eq, List, [], ◌∷◌, ◌++◌, map, filter, flat_map, length, if◌then◌else◌, bytes_eq, codes}
use Rattle.std.specs.List.{list_any, starts_with}
use Rattle.lp_model.specs.declared.fault.netlist.NetlistLimit.{NetlistLimit}
use Rattle.lp_model.specs.declared.fault.netlist.NetlistLimit.TheVariants as limits
use Rattle.lp_model.specs.NetlistView.{PortView, NetView, InstanceView, ModuleView}
use Rattle.lp_spec_design.specs.Keys.{Name}
use Rattle.lp_spec_realises.specs.Projects.{Project}
use Rattle.lp_spec_realises.specs.Implements.{Lists}
use Rattle.lp_spec_faults.specs.Lines.{Line}
use Rattle.lp_spec_written.specs.Shared.{shared}
use Rattle.lp_spec_written.specs.Written.{written}

-- of a module its own name, and those of its ports, its nets and its instances
abbrev pub names_in : ModuleView → List Name
names_in m = m.name ∷ (map (λ (p : PortView). p.name) m.ports ++ (map (λ (n : NetView). n.name) m.nets ++ map (λ (i : InstanceView). i.name) m.instances))

-- each name once
abbrev pub once : List Name → List Name
once [] = []
once (n ∷ names) = if list_any (bytes_eq n) names then once names else n ∷ once names

-- the distinct names that begin as those that are added
abbrev pub added_names : List ModuleView → List Name
added_names modules = once (filter (λ n. starts_with nat_eq n (codes "lp_")) (flat_map names_in modules))

-- those of the netlist as it is written, with each content once
abbrev pub names_added : Project → Lists → List Name
names_added p l = added_names (shared (written p l))

-- F22 Limit 5: the written netlist has more than 1,000,000,000 of them
abbrev pub name_limit : Project → Lists → Line NetlistLimit
name_limit p l = record { places = limits.Names ∷ []; test = λ k. nat_lt 1000000000 (length (names_added p l)) }
