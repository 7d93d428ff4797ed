-- Names that are told apart in each module (IEEE 1364-2005, the name space of a module).
use Rattle.std.specs.Prelude.{Bool, true, not, ◌&&◌, List, [], ◌∷◌, ◌++◌, map, bytes_eq}
use Rattle.std.specs.List.{list_any, list_all}
use Rattle.lp_model.specs.NetlistView.{PortView, NetView, InstanceView, ModuleView}
use Rattle.lp_spec_design.specs.Keys.{Name}
use Rattle.lp_spec_design.specs.Netlists.{Structure}
use Rattle.lp_spec_design.specs.Winners.{IsIn}
use Rattle.lp_spec_bridge.specs.Keyed.{IsApart}

-- the names of a module's ports and of its other nets
abbrev pub net_names : ModuleView → List Name
net_names m = map (λ (q : PortView). q.name) m.ports ++ map (λ (x : NetView). x.name) m.nets

abbrev pub instance_names : ModuleView → List Name
instance_names m = map (λ (x : InstanceView). x.name) m.instances

-- no two nets and no two instances of a module have one name
pub record HasNamesApart (s : Structure) : Type 0 where
  pub nets : (m : ModuleView) → IsIn m s.modules → IsApart (net_names m)
  pub instances : (m : ModuleView) → IsIn m s.modules → IsApart (instance_names m)

-- the test that no name stands twice
abbrev pub are_apart : List Name → Bool
are_apart [] = true
are_apart (n ∷ names) = not (list_any (bytes_eq n) names) && are_apart names

abbrev pub has_names_apart : Structure → Bool
has_names_apart s = list_all (λ m. are_apart (net_names m) && are_apart (instance_names m)) s.modules
