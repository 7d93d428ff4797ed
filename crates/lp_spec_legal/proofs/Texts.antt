-- The names that stand in a module.
use Rattle.std.proofs.Common.{◌≡◌, List, ◌++◌, map, inr, sym, subst}
use Rattle.std.specs.Prelude.{flat_map}
use Rattle.lp_model.specs.NetlistView.{PortView, NetView, ConnectionView, ByName, InstanceView, ModuleView}
use Rattle.lp_vwrite.specs.WellFormed.{port_names_of, instance_texts, module_texts}
use Rattle.lp_spec_design.specs.Keys.{Name}
use Rattle.lp_spec_design.specs.Winners.{IsIn}
use Rattle.lp_spec_design.proofs.Members.{in-left, in-right, in-map, in-flat}

module _ (m : ModuleView) where
  abbrev pub ports : List Name
  ports = map (λ (p : PortView). p.name) m.ports

  abbrev pub nets : List Name
  nets = map (λ (n : NetView). n.name) m.nets

  abbrev pub behind : List Name
  behind = flat_map instance_texts m.instances

  pub port-text : (q : PortView) → IsIn q m.ports → IsIn q.name (module_texts m)
  port-text q h = inr (in-left q.name ports (nets ++ behind) (in-map (λ (p : PortView). p.name) q m.ports h))

  pub net-text : (n : NetView) → IsIn n m.nets → IsIn n.name (module_texts m)
  net-text n h = inr (in-right n.name ports (nets ++ behind) (in-left n.name nets behind (in-map (λ (v : NetView). v.name) n m.nets h)))

  pub instance-text : (y : InstanceView) → IsIn y m.instances → (t : Name) → IsIn t (instance_texts y) → IsIn t (module_texts m)
  instance-text y h t g = inr (in-right t ports (nets ++ behind) (in-right t nets behind (in-flat instance_texts y t m.instances h g)))

-- a connection by name
pub connection-text : (y : InstanceView) (cs : List ConnectionView) → y.connections ≡ ByName cs → (c : ConnectionView) → IsIn c cs → IsIn c.port (instance_texts y)
connection-text y cs is c h = inr (inr (subst (λ z. IsIn c.port (port_names_of z)) (sym is) (in-map (λ (d : ConnectionView). d.port) c cs h)))
